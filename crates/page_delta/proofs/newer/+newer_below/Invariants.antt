use Rattle.std.proofs.Common.{◌≡◌, ◌++◌, Some}
use Rattle.page_delta.specs.Delta.{pages_after}
use Rattle.page_delta.specs.Nodes.{part}
use Rattle.page_delta.proofs.newer.+newer_below.Given as goal

abbrev pub decreases-newer_below : goal.decreases-newer_below
decreases-newer_below l = l.level

abbrev pub invariant-loop-digit : goal.invariant-loop-digit
invariant-loop-digit l = l.pages.items ≡ l.fn.pages.items ++ pages_after l.b (part l.level l.nodes.slots (Some l.top) l.prefix l.digit)
