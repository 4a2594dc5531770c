use Rattle.page_delta.proofs.Filling.{Filling}
use Rattle.page_delta.proofs.keep.+keep_below.Given as goal

abbrev pub decreases-keep_below : goal.decreases-keep_below
decreases-keep_below l = l.level

abbrev pub invariant-loop-digit : goal.invariant-loop-digit
invariant-loop-digit l = Filling l.fn.nodes.slots l.nodes.slots l.fn.pool l.pool l.from l.node l.level l.b l.pages l.digit
