use Rattle.std.proofs.Common.{ℕ, IsErrOf, subst}
use Rattle.height_store.specs.declared.error.StoreError.TheVariants.{BadMark, BadPage}
use Rattle.height_store.specs.Bad.{IsFirstBadMark, IsFirstBadPage}
use Rattle.sync_serve.specs.Roots.{RootView}
use Rattle.sync_serve.proofs.Opened.{bad_refused}
use Rattle.sync_serve.proofs.root.Root.take_store.Goals as goal

pub returns-in-None-clause-bad : goal.returns-in-None-clause-bad
returns-in-None-clause-bad g c = λ bad told opens.
    bad_refused (g.D.Disk.view c.args.self.now.disk).state.files c.open_read.result
    (subst (λ (r : RootView g.row.D.Denot). (height : ℕ) → IsErrOf c.open_read.result (BadMark height) → IsFirstBadMark (g.D.Disk.view r.disk).state.files height) c.self.view_is (c.open_read.ensures.bad_mark told))
    (subst (λ (r : RootView g.row.D.Denot). (number : ℕ) → IsErrOf c.open_read.result (BadPage number) → IsFirstBadPage (g.D.Disk.view r.disk).state.files number) c.self.view_is (c.open_read.ensures.bad_page told))
    bad opens
