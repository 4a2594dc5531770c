use Rattle.std.proofs.Common.{subst}
use Rattle.disk_model.specs.State.{DiskState}
use Rattle.sync_serve.specs.Roots.{RootView}
use Rattle.sync_serve.specs.Served.{IsServed, Serves}
use Rattle.sync_serve.proofs.Opened.{served_on}
use Rattle.sync_serve.proofs.root.Root.answer.Goals as goal

pub returns-clause-serves : goal.returns-clause-serves
returns-clause-serves g c = λ told.
    let hs = c.in_ok-store.store.heights in
    let ask = c.args.ask.now in
    let served = subst (λ (r : RootView g.row.D.Denot). IsServed (g.D.Disk.view r.disk).state.files hs ask c.answer_over-answer.result) c.self.view_is (c.answer_over-answer.ensures.serves told) in
    subst (λ (s : DiskState). Serves s.files ask c.answered.result) (c.take_store.ensures.same told)
    (served_on (g.D.Disk.view c.take_store.new.self.disk).state.files hs ask c.answer_over-answer.result c.answered.result c.answered.ensures c.in_ok-store.ensures.over.good (c.in_ok-store.ensures.over.readable told) served)
