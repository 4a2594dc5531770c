use Rattle.std.proofs.Common.{ℕ, Option, ◌∙◌, ap, subst}
use Rattle.std.proofs.lemmas.Result.{IfOk-weaker}
use Rattle.std.specs.Option.{option_map_or}
use Rattle.disk_model.specs.OnlyReads.{OnlyReads, reads_only_none}
use Rattle.height_store.specs.Known.{bytes_at, bytes_of}
use Rattle.height_store.specs.Kept.{ShowsHeight}
use Rattle.height_store.specs.Laws.{last_found, last_height, stacks_found}
use Rattle.height_store.specs.Store.{StoredHeight}
use Rattle.state_manager.proofs.AtHeights.{begun, begun_empty, newest_found, newest_none}
use Rattle.state_manager.proofs.published.begin.Goals as goal

pub load-requires : goal.load-requires
load-requires g c = λ told.
    stacks_found _ c.args.store.now.heights c.in-Some.found.now.mark.height c.in-Some.found.now (last_found c.args.store.now.heights c.in-Some.found.now c.in-Some.ensures.ascends c.in-Some.ensures.last) (c.requires.readable told)

pub returns-in-None-clause-state : goal.returns-in-None-clause-state
returns-in-None-clause-state g c = λ told ps each.
    begun_empty c.new.result ps c.new.ensures (newest_none (ShowsHeight _) c.args.store.now.heights ps each c.in-None.ensures.last)

pub returns-in-Some-clause-state : goal.returns-in-Some-clause-state
returns-in-Some-clause-state g c = λ told ps each.
    let last = newest_found (ShowsHeight _) c.args.store.now.heights ps c.in-Some.found.now each c.in-Some.ensures.last in
    IfOk-weaker c.load.result _ _ (λ state k. begun state last.0 ps k last.2) (c.load.ensures.state told last.0 last.1)

pub returns-in-None-clause-reads_only : goal.returns-in-None-clause-reads_only
returns-in-None-clause-reads_only g c = λ told. reads_only_none _ _

pub returns-in-Some-clause-reads_only : goal.returns-in-Some-clause-reads_only
returns-in-Some-clause-reads_only g c = λ told.
    let hs = c.args.store.now.heights in
    let found = last_found hs c.in-Some.found.now c.in-Some.ensures.ascends c.in-Some.ensures.last in
    subst (λ (n : ℕ). OnlyReads n (g.D.Disk.view c.args.disk.now) (g.D.Disk.view c.load.new.disk))
    (ap (λ (o : Option StoredHeight). option_map_or bytes_of o 0) found ∙ ap (λ (newest : Option ℕ). option_map_or (bytes_at hs) newest 0) (last_height hs c.in-Some.found.now c.in-Some.ensures.last)) (c.load.ensures.reads_only told)
