use Rattle.std.proofs.Common.{◌≡◌, ◌+◌, ◌-◌, ◌*◌, ◌++◌, ℕ, ◌<◌, length, take, drop}
use Rattle.sha2.specs.Sha256.{padding}
use Rattle.hash_lanes.specs.Messages.{last_count}
use Rattle.hash_lanes.specs.Starts.{chunk_at, row}
use Rattle.hash_lanes.proofs.messages.last_rows.Given as goal

abbrev pub invariant-lanes : goal.invariant-lanes
invariant-lanes l = (length l.rows ≡ 1024)
    × ((j : ℕ) → j < l.j → take (64 * last_count (l.size - l.done)) (row 128 j l.rows) ≡ drop l.done (chunk_at l.bytes l.starts l.size j) ++ padding (l.size + 15))
