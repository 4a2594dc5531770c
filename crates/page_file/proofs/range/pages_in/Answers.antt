use Rattle.std.proofs.Common.{sym, arith}
use Rattle.std.proofs.lemmas.List.{drop_more}
use Rattle.page_file.proofs.Steps.{stands_then, count_then, bounds}
use Rattle.page_file.proofs.range.pages_in.Goals as goal

pub loop-range-preserved : goal.loop-range-preserved
loop-range-preserved c =
    let is = drop_more c.args.ranges.now c.loop-range.range-index _ (omega arith) in
    let within = bounds c.args.memory c.loop-range.least c.loop-range.place _ (sym c.if-not-may_stand.ensures) in
    record {
      rest = stands_then c.args.memory c.loop-range.least c.loop-range.place _ _ _ _ is (sym c.if-not-may_stand.ensures) c.loop-range.invariant.rest;
      count = count_then c.loop-range.place _ _ _ _ is c.loop-range.invariant.count;
      before = omega (arith, within.0, c.loop-range.invariant.before);
      within = omega (arith, within.1);
    }
