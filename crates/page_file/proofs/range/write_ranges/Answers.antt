use Rattle.std.proofs.Common.{arith}
use Rattle.page_file.proofs.Steps.{written_more}
use Rattle.page_file.proofs.range.write_ranges.Goals as goal

pub loop-range-preserved : goal.loop-range-preserved
loop-range-preserved c = written_more _ _ _ c.args.ranges.now c.loop-range.range-index _ (omega arith) c.loop-range.invariant c.in_ok-write_range.ensures
