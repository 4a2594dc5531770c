use Rattle.std.proofs.Common.{◌≡◌, ℕ, ◌+◌, take}
use Rattle.page_delta.specs.Totals.{total}
use Rattle.page_delta.specs.Nodes.{node_at, count_in, node_with_count, once}
use Rattle.page_delta.specs.Shared.{Grows}
use Rattle.page_delta.proofs.tree.raise_each.Given as goal

abbrev pub invariant-loop-child : goal.invariant-loop-child
invariant-loop-child l =
    record {
      each : (m : ℕ) → node_at l.nodes.slots m ≡ node_with_count (node_at l.fn.nodes.slots m) (count_in (node_at l.fn.nodes.slots m) + total (once m) (take l.child-index l.children));
      grows : Grows l.fn.nodes l.nodes 0;
    }
