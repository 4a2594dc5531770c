use Rattle.std.specs.List.{AllByRecursion}
use Rattle.std.proofs.Common.{arith, refl, subst, sym}
use Rattle.disk_model.specs.declared.name.Kind.TheVariants as kind
use Rattle.disk_model.specs.Writing.{write_failed, write_then, write_wider}
use Rattle.height_store.proofs.Strays.{pages_within, drafts_within, stages_within, are_there, there_after_pages, there_after_drafts}
use Rattle.height_store.proofs.opening.sweep_strays.Goals as goal

pub sweep-requires-clause-there : goal.sweep-requires-clause-there
sweep-requires-clause-there g c = λ told. subst (AllByRecursion _) (sym c.deref.ensures.value) (are_there kind.Page _ _ (c.requires.pages told))

pub returns-in_err-sweep-clause-writes : goal.returns-in_err-sweep-clause-writes
returns-in_err-sweep-clause-writes g c =
    write_failed g.D.Disk c.sweep.result _ _ _ 0 0 _ _ c.from_residual.ensures.1 c.in_err-sweep.was (omega arith)
    (write_wider g.D.Disk _ _ _ 0 _ _ (pages_within _ c.args.named.now) c.sweep.ensures.writes)

pub sweep-requires-2-clause-there : goal.sweep-requires-2-clause-there
sweep-requires-2-clause-there g c = λ told.
    there_after_pages _ _ _ _ _ _ (sym c.deref-2.ensures.value) (c.requires.drafts told) (c.sweep.ensures.writes.only told).touches

pub returns-in_err-sweep-2-clause-writes : goal.returns-in_err-sweep-2-clause-writes
returns-in_err-sweep-2-clause-writes g c =
    write_failed g.D.Disk c.sweep-2.result _ _ _ 0 0 _ _ c.from_residual-in_err-sweep-2.ensures.1 c.in_err-sweep-2.was (omega arith)
    (write_then g.D.Disk _ _ _ 0 0 0 _ _ _ refl (omega arith)
    (write_wider g.D.Disk _ _ _ 0 _ _ (pages_within _ c.args.named.now) c.in_ok-sweep.ensures.writes)
    (write_wider g.D.Disk _ _ _ 0 _ _ (drafts_within _ c.args.named.now) c.sweep-2.ensures.writes))

pub sweep-requires-3-clause-there : goal.sweep-requires-3-clause-there
sweep-requires-3-clause-there g c = λ told.
    there_after_drafts _ _ _ _ _ _ _ _ (sym c.deref-3.ensures.value) (c.requires.stages told) (c.sweep.ensures.writes.only told).touches (c.sweep-2.ensures.writes.only told).touches

pub returns-clause-writes : goal.returns-clause-writes
returns-clause-writes g c =
    write_then g.D.Disk _ _ _ 0 0 0 _ _ _ refl (omega arith)
    (write_then g.D.Disk _ _ _ 0 0 0 _ _ _ refl (omega arith)
    (write_wider g.D.Disk _ _ _ 0 _ _ (pages_within _ c.args.named.now) c.in_ok-sweep.ensures.writes)
    (write_wider g.D.Disk _ _ _ 0 _ _ (drafts_within _ c.args.named.now) c.in_ok-sweep-2.ensures.writes))
    (write_wider g.D.Disk _ _ _ 0 _ _ (stages_within _ c.args.named.now) c.sweep-3.ensures.writes)
