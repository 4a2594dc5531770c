use Rattle.std.proofs.Common.{◌≡◌, ◌++◌, Some}
use Rattle.page_delta.specs.Delta.{pages_after}
use Rattle.page_delta.specs.Nodes.{leaf_part}
use Rattle.page_delta.proofs.newer.newer_in.Given as goal

abbrev pub invariant-loop-digit : goal.invariant-loop-digit
invariant-loop-digit l = l.pages.items ≡ l.fn.pages.items ++ pages_after l.b (leaf_part (Some l.leaf) l.prefix l.digit)
