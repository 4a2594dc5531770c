-- The sums of a memory's chunks, of which only some are taken anew.
use Rattle.std.specs.Prelude.{◌≡◌, ℕ, ◌*◌, ◌<◌, false, List, length, map, take, drop, Option, None, slice_index_or, if◌then◌else◌}
use Rattle.std.specs.List.{range_with_len}
use Rattle.format_spec.specs.Bytes.{Bytes, part_count}
use Rattle.format_spec.specs.declared.limits.TheConstants.{CHUNK_SIZE}
use Rattle.state_spec.specs.Manifest.{sum_of}
use Rattle.page_spec.specs.Layers.{has_page}

abbrev pub Sums : Type 0
Sums = List (Option Bytes)

-- chunk i of these bytes
abbrev pub chunk_at : Bytes → ℕ → Bytes
chunk_at bytes i = take CHUNK_SIZE (drop (i * CHUNK_SIZE) bytes)

-- the sum of chunk i: that of these bytes where it is stale, else the one from before
abbrev pub sum_after : ℕ → List ℕ → Sums → Bytes → ℕ → Option Bytes
sum_after version stale sums bytes i = if has_page i stale then sum_of version (chunk_at bytes i) else slice_index_or sums i None

-- the sums of so many chunks
abbrev pub sums_after : ℕ → List ℕ → Sums → Bytes → ℕ → Sums
sums_after version stale sums bytes count = map (sum_after version stale sums bytes) (range_with_len 0 count)

-- the sum of each chunk of these bytes
unfoldable pub refreshed : ℕ → List ℕ → Sums → Bytes → Sums
refreshed version stale sums bytes = sums_after version stale sums bytes (part_count CHUNK_SIZE (length bytes))

-- each chunk of these bytes that isn't stale has its sum there
abbrev pub HasRest : ℕ → List ℕ → Sums → Bytes → Type 0
HasRest version stale sums bytes = (i : ℕ) → i < part_count CHUNK_SIZE (length bytes) → has_page i stale ≡ false
    → (i < length sums) × (slice_index_or sums i None ≡ sum_of version (chunk_at bytes i))
