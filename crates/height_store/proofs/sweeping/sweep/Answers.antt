use Rattle.std.proofs.Common.{arith, get_or, refl}
use Rattle.disk_model.specs.Writing.{write_failed, write_done}
use Rattle.height_store.proofs.Swept.{still_there, more_swept, all_swept, gone_more, one_gone}
use Rattle.height_store.proofs.sweeping.sweep.Goals as goal

pub sweep_one-requires-clause-there : goal.sweep_one-requires-clause-there
sweep_one-requires-clause-there g c = λ told.
    still_there c.args.kind c.args.numbers.now c.args.keep.now c.loop-number.number-index _ _ (c.requires.ascend told) c.loop-number-test.true (c.requires.there told) (c.loop-number.invariant.writes.only told).touches

pub returns-in_err-sweep_one-clause-writes : goal.returns-in_err-sweep_one-clause-writes
returns-in_err-sweep_one-clause-writes g c =
    write_failed g.D.Disk c.sweep_one.result _ _ _ 0 0 _ _ c.from_residual.ensures.1 c.in_err-sweep_one.was (omega arith)
    (all_swept g.D.Disk _ c.args.kind c.args.numbers.now c.args.keep.now c.loop-number.number-index _ _
    (more_swept g.D.Disk _ _ c.args.kind c.args.numbers.now c.args.keep.now c.loop-number.number-index _ _ _ c.loop-number-test.true refl c.loop-number.invariant.writes c.sweep_one.ensures.writes))

pub loop-number-preserved : goal.loop-number-preserved
loop-number-preserved g c =
    let number = get_or c.args.numbers.now c.loop-number.number-index 0 in
    record {
      writes = write_done g.D.Disk c.sweep_one.result _ tt _ 0 _ _ c.in_ok-sweep_one.was
          (more_swept g.D.Disk _ _ c.args.kind c.args.numbers.now c.args.keep.now c.loop-number.number-index _ _ _ c.loop-number-test.true refl c.loop-number.invariant.writes c.sweep_one.ensures.writes);
      gone = λ told. gone_more c.args.kind c.args.numbers.now c.args.keep.now c.loop-number.number-index _ _ c.loop-number-test.true (c.loop-number.invariant.gone told)
          (one_gone c.args.kind number c.args.keep.now (g.D.Disk.view c.sweep_one.new.disk) (c.in_ok-sweep_one.ensures.gone told)) (c.sweep_one.ensures.writes.only told).touches;
    }
