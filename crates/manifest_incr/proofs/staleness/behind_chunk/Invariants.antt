use Rattle.std.proofs.Common.{ℕ, ◌/◌, ◌<◌, ◌≤◌, length, slice_index}
use Rattle.manifest_incr.proofs.staleness.behind_chunk.Given as goal

abbrev pub invariant-loop-at : goal.invariant-loop-at
invariant-loop-at l = record {
  from : l.from ≤ l.at;
  within : l.at ≤ length l.pages;
  before : (i : ℕ) → l.from ≤ i → i < l.at → slice_index l.pages i / 256 ≤ l.chunk;
}
