use Rattle.std.proofs.Common.{◌≡◌, ℕ, ◌<◌, List, slice_index, ◌*◌}
use Rattle.sha2.specs.Sha256.{IsRoundsAt, word_at}
use Rattle.hash_lanes.specs.Lanes.{lane, window}
use Rattle.hash_lanes.proofs.rounds.compress.Given as goal

abbrev pub invariant-schedule : goal.invariant-schedule
invariant-schedule l = (j : ℕ) (b : List ℕ) → j < 8 → ((k : ℕ) → k < 16 → slice_index (window j l.fn.words) k ≡ word_at b (4 * k))
    → IsRoundsAt b (lane j l.state) (window j l.w) (lane j l.v) (16 * l.turn)
