use Rattle.manifest.proofs.Growing.{sums_more}
use Rattle.manifest.proofs.adding.row_sums.Goals as goal

pub loop-i-preserved : goal.loop-i-preserved
loop-i-preserved c =
    sums_more c.args.size c.loop-i.i c.index-hashes-i.result c.args.hashes.now c.loop-i.sums.items c.add_row.new.sums.items c.loop-i-test.true c.index-hashes-i.is
    c.in_ok-add_row.ensures c.loop-i.invariant
