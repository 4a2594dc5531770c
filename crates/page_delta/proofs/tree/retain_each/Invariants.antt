use Rattle.std.proofs.Common.{take}
use Rattle.page_delta.proofs.Pools.{Retained}
use Rattle.page_delta.proofs.tree.retain_each.Given as goal

abbrev pub invariant-loop-entry : goal.invariant-loop-entry
invariant-loop-entry l = Retained l.fn.pool l.pool (take l.entry-index l.entries)
