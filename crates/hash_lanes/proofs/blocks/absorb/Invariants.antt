use Rattle.std.proofs.Common.{◌≡◌, ℕ, ◌<◌, ◌+◌, drop, slice_index}
use Rattle.sha2.specs.Sha256.{hash_after}
use Rattle.hash_lanes.specs.Lanes.{lane}
use Rattle.hash_lanes.proofs.blocks.absorb.Given as goal

abbrev pub invariant-each : goal.invariant-each
invariant-each l = (j : ℕ) → j < 8 → lane j l.state ≡ hash_after (lane j l.fn.state) (drop (slice_index l.starts j + l.from) l.bytes) l.i
