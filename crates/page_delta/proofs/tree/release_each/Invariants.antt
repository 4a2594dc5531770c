use Rattle.std.proofs.Common.{take}
use Rattle.page_delta.proofs.Pools.{Released}
use Rattle.page_delta.proofs.tree.release_each.Given as goal

abbrev pub invariant-loop-entry : goal.invariant-loop-entry
invariant-loop-entry l = Released l.fn.pool l.pool (take l.entry-index l.entries)
