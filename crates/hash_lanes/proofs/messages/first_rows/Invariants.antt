use Rattle.std.proofs.Common.{◌≡◌, ℕ, ◌<◌, length}
use Rattle.format_spec.specs.Hashes.{chunk_string}
use Rattle.hash_lanes.specs.Starts.{chunk_at, row}
use Rattle.hash_lanes.proofs.messages.first_rows.Given as goal

abbrev pub invariant-lanes : goal.invariant-lanes
invariant-lanes l = (length l.rows ≡ 512) × ((j : ℕ) → j < l.j → row 64 j l.rows ≡ chunk_string (chunk_at l.bytes l.starts 49 j))
