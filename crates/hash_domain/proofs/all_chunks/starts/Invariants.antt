use Rattle.std.proofs.Common.{◌≡◌, ◌+◌, ◌*◌, ◌≤◌, ℕ, ◌<◌, length, slice_index}
use Rattle.hash_domain.proofs.all_chunks.starts.Given as goal

abbrev pub invariant-lanes : goal.invariant-lanes
invariant-lanes l = (length l.starts ≡ 8)
    × ((j : ℕ) → j < l.j → slice_index l.starts j ≡ 1048576 * (l.first + j))
    × ((j : ℕ) → l.j ≤ j → j < 8 → slice_index l.starts j ≡ 1048576 * l.first)
