-- The hashes of the first chunks of a byte string.
use Rattle.std.specs.Prelude.{◌≡◌, ℕ, ◌*◌, List, map, take, drop}
use Rattle.std.specs.List.{range_with_len}
use Rattle.format_spec.specs.Bytes.{Bytes}
use Rattle.format_spec.specs.Hashes.{chunk_hash}
use Rattle.format_spec.specs.declared.limits.TheConstants.{CHUNK_SIZE}

-- these are the hashes of the first k chunks
unfoldable pub HasFirst : List Bytes → Bytes → ℕ → Type 0
HasFirst hashes bytes k = hashes ≡ map chunk_hash (map (λ i. take CHUNK_SIZE (drop (i * CHUNK_SIZE) bytes)) (range_with_len 0 k))
