use Rattle.std.proofs.Common.{arith, refl}
use Rattle.disk_model.specs.Writing.{write_failed, write_then, write_wider}
use Rattle.height_store.proofs.Others.{pages_apart, drafts_apart, stages_apart, others_gone}
use Rattle.height_store.proofs.sweeping.sweep_others.Goals as goal

pub returns-in_err-sweep_kind-clause-writes : goal.returns-in_err-sweep_kind-clause-writes
returns-in_err-sweep_kind-clause-writes g c =
    write_failed g.D.Disk c.sweep_kind.result _ _ _ 0 0 _ _ c.from_residual.ensures.1 c.in_err-sweep_kind.was (omega arith)
    (write_wider g.D.Disk _ _ _ 0 _ _ (pages_apart c.args.pages.now c.args.stages.now) c.sweep_kind.ensures.writes)

pub returns-in_err-sweep_kind-2-clause-writes : goal.returns-in_err-sweep_kind-2-clause-writes
returns-in_err-sweep_kind-2-clause-writes g c =
    write_failed g.D.Disk c.sweep_kind-2.result _ _ _ 0 0 _ _ c.from_residual-in_err-sweep_kind-2.ensures.1 c.in_err-sweep_kind-2.was (omega arith)
    (write_then g.D.Disk _ _ _ 0 0 0 _ _ _ refl (omega arith)
    (write_wider g.D.Disk _ _ _ 0 _ _ (pages_apart c.args.pages.now c.args.stages.now) c.in_ok-sweep_kind.ensures.writes)
    (write_wider g.D.Disk _ _ _ 0 _ _ (drafts_apart c.args.pages.now c.args.stages.now) c.sweep_kind-2.ensures.writes))

pub returns-clause-writes : goal.returns-clause-writes
returns-clause-writes g c =
    write_then g.D.Disk _ _ _ 0 0 0 _ _ _ refl (omega arith)
    (write_then g.D.Disk _ _ _ 0 0 0 _ _ _ refl (omega arith)
    (write_wider g.D.Disk _ _ _ 0 _ _ (pages_apart c.args.pages.now c.args.stages.now) c.in_ok-sweep_kind.ensures.writes)
    (write_wider g.D.Disk _ _ _ 0 _ _ (drafts_apart c.args.pages.now c.args.stages.now) c.in_ok-sweep_kind-2.ensures.writes))
    (write_wider g.D.Disk _ _ _ 0 _ _ (stages_apart c.args.pages.now c.args.stages.now) c.sweep_kind-3.ensures.writes)

pub returns-clause-gone : goal.returns-clause-gone
returns-clause-gone g c = λ told.
    others_gone c.sweep_kind-3.result c.args.pages.now c.args.stages.now _ _ _ (c.in_ok-sweep_kind.ensures.gone told) (c.in_ok-sweep_kind-2.ensures.gone told) (c.sweep_kind-3.ensures.gone told)
    (c.sweep_kind-2.ensures.writes.only told).touches (c.sweep_kind-3.ensures.writes.only told).touches
