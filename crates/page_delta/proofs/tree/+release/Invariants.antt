use Rattle.std.proofs.Common.{ℕ, ◌+◌, Some, drop}
use Rattle.page_pool.specs.Pool.{count_at}
use Rattle.page_delta.specs.Totals.{total}
use Rattle.page_delta.specs.Nodes.{once}
use Rattle.page_delta.specs.Shared.{IsShared, IsCounted, Shrinks, Grows, KeepsBytes}
use Rattle.page_delta.proofs.tree.+release.Given as goal

abbrev pub decreases-release : goal.decreases-release
decreases-release l = l.level

abbrev pub invariant-loop-digit : goal.invariant-loop-digit
invariant-loop-digit l =
    record {
      shared : (hands loose : ℕ → ℕ) → IsShared l.fn.nodes.slots (count_at l.fn.pool) (λ m. hands m + once m (Some l.fn.node)) loose → IsShared l.nodes.slots (count_at l.pool) (λ m. hands m + total (once m) (drop l.digit l.children)) loose;
      counted : IsCounted l.pool;
      shrinks : Shrinks l.fn.nodes.slots l.nodes.slots;
      grows : Grows l.fn.nodes l.nodes 0;
      keeps : KeepsBytes l.fn.pool l.pool;
    }
