use Rattle.std.proofs.Common.{◌≡◌, ℕ, ◌+◌, ◌<◌, slice_index_or}
use Rattle.height_store.proofs.store.first_free.Given as goal

abbrev pub invariant-loop-number : goal.invariant-loop-number
invariant-loop-number l = record {
  count : l.free ≡ l.fn.from + l.number-index;
  run : (k d : ℕ) → k < l.number-index → slice_index_or l.numbers k d ≡ l.fn.from + k;
}
