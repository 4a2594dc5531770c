use Rattle.std.specs.Result.{is_ok}
use Rattle.std.proofs.Common.{ap, arith}
use Rattle.disk_model.specs.OnlyReads.{reads_only_call}
use Rattle.disk_model.specs.Writing.{write_failed, write_then, write_wider}
use Rattle.height_store.proofs.Others.{list_writes, kind_within, kind_gone, still_listed}
use Rattle.height_store.proofs.sweeping.sweep_kind.Goals as goal

pub returns-in_err-numbers-clause-writes : goal.returns-in_err-numbers-clause-writes
returns-in_err-numbers-clause-writes g c =
    write_failed g.D.Disk c.list.result _ _ _ 0 0 _ _ c.from_residual.ensures.1 c.in_err-numbers.was (omega arith)
    (list_writes g.D.Disk c.list.result _ _ _ c.list.ensures.reads_only c.list.ensures.cause)

pub sweep-requires-clause-there : goal.sweep-requires-clause-there
sweep-requires-clause-there g c = λ told.
    still_listed c.args.kind _ _ _ _ c.deref.ensures.value (reads_only_call 0 c.list.result _ _ (c.list.ensures.reads_only told)) (c.in_ok-numbers.ensures.listing told)

pub returns-clause-writes : goal.returns-clause-writes
returns-clause-writes g c =
    write_then g.D.Disk c.list.result _ _ 0 0 0 _ _ _ (ap (λ r. is_ok r) c.in_ok-numbers.was) (omega arith)
    (list_writes g.D.Disk c.list.result _ _ _ c.list.ensures.reads_only c.list.ensures.cause)
    (write_wider g.D.Disk _ _ _ 0 _ _ (kind_within c.args.kind _ c.args.keep.now) c.sweep.ensures.writes)

pub returns-clause-gone : goal.returns-clause-gone
returns-clause-gone g c = λ told.
    kind_gone c.sweep.result c.args.kind c.args.keep.now _ _ _ _ _ c.deref.ensures.value (reads_only_call 0 c.list.result _ _ (c.list.ensures.reads_only told)) (c.in_ok-numbers.ensures.listing told)
    (c.sweep.ensures.writes.only told).touches (c.sweep.ensures.gone told)
