use Rattle.std.proofs.Common.{arith}
use Rattle.disk_model.specs.Writing.{write_failed, write_done}
use Rattle.height_store.proofs.Swept.{one_swept}
use Rattle.height_store.proofs.sweeping.sweep_one.Goals as goal

pub returns-in_err-remove-clause-writes : goal.returns-in_err-remove-clause-writes
returns-in_err-remove-clause-writes g c =
    write_failed g.D.Disk c.remove.result _ _ _ 0 0 _ _ c.from_residual.ensures.1 c.in_err-remove.was (omega arith)
    (one_swept g.D.Disk c.args.kind c.args.number c.args.keep.now c.is_among.result c.name_in.result _ _ _ c.is_among.ensures c.if-not-is_among.true c.name_in.ensures (g.met.D.Disk.reads_as_image c.args.disk.now) c.remove.ensures.does c.remove.ensures.cause)

pub returns-in_ok-remove-clause-writes : goal.returns-in_ok-remove-clause-writes
returns-in_ok-remove-clause-writes g c =
    write_done g.D.Disk c.remove.result _ _ _ 0 _ _ c.in_ok-remove.was
    (one_swept g.D.Disk c.args.kind c.args.number c.args.keep.now c.is_among.result c.name_in.result _ _ _ c.is_among.ensures c.if-not-is_among.true c.name_in.ensures (g.met.D.Disk.reads_as_image c.args.disk.now) c.remove.ensures.does c.remove.ensures.cause)
