use Rattle.std.proofs.Common.{◌≡◌, ℕ, ◌<◌, length, ◌+◌, ◌*◌, slice_index}
use Rattle.sha2.specs.Sha256.{word_at}
use Rattle.hash_lanes.specs.Lanes.{lane_at}
use Rattle.hash_lanes.proofs.blocks.load.Given as goal

abbrev pub invariant-words : goal.invariant-words
invariant-words l = (length l.words ≡ 16) × ((j k : ℕ) → j < 8 → k < l.i
    → lane_at l.words k j ≡ word_at l.bytes (slice_index l.starts j + (l.at + 4 * k)))
