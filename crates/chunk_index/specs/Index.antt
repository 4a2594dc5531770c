-- Where chunks are, by their sizes and hashes.
use Rattle.std.specs.Prelude.{◌≡◌, ℕ, ◌*◌, ◌/◌, ◌==◌, ◌&&◌, Bool, List, [], ◌∷◌, map, find, Option, Some, None}
use Rattle.std.specs.Option.{option_map}
use Rattle.std.specs.Map.{lookup}
use Rattle.format_spec.specs.Bytes.{Bytes, same_bytes}
use Rattle.format_spec.specs.Hashes.{ChunkSum}
use Rattle.format_spec.specs.declared.limits.TheConstants.{CHUNK_SIZE}
use Rattle.state_spec.specs.Manifest.{ChunkRow, chunk_sums}
use Rattle.chunk_index.specs.declared.index.ChunkKey.{ChunkKey}
use Rattle.chunk_index.specs.declared.index.Place.{Place}

-- ---- rows of chunks, in the order of files and chunks

-- a chunk has this size and hash
abbrev pub is_chunk : ℕ → Bytes → ChunkSum → Bool
is_chunk size hash sum = (sum.size == size) && same_bytes sum.hash hash

-- the chunk's file, and its number there
abbrev pub place_of : ChunkRow → Place
place_of r = record { file = r.file; chunk = r.sum.offset / CHUNK_SIZE }

-- the place of the first chunk with this size and hash
abbrev pub first_place : List ChunkRow → ℕ → Bytes → Option Place
first_place rows size hash = option_map place_of (find (λ r. is_chunk size hash r.sum) rows)

-- the rows of a file of this number and size, whose chunks have these hashes: None for a chunk that has no row
abbrev pub rows_of : ℕ → ℕ → List (Option Bytes) → List ChunkRow
rows_of file size hashes = map (λ sum. record { file = file; sum = sum }) (chunk_sums (record { name = []; size = size; hashes = hashes }))

-- one row: a chunk of this size and hash at this place
abbrev pub row_at : ℕ → Bytes → Place → ChunkRow
row_at size hash place = record { file = place.file; sum = record { size = size; offset = place.chunk * CHUNK_SIZE; hash = hash } }

-- the row of a chunk with this sum, and none where it has none
abbrev pub rows_at : ℕ → Option Bytes → Place → List ChunkRow
rows_at size None place = []
rows_at size (Some hash) place = row_at size hash place ∷ []

-- ---- an index

abbrev pub Places : Type 0
Places = List (ChunkKey × Place)

abbrev pub has_key : ℕ → Bytes → ChunkKey → Bool
has_key size hash key = (size == key.size) && same_bytes hash key.hash

-- the place that an index has for this size and hash
abbrev pub place_in : Places → ℕ → Bytes → Option Place
place_in places size hash = lookup (has_key size hash) places

-- an index has the first place of each size and hash of these rows, and no other size and hash
abbrev pub Indexes : Places → List ChunkRow → Type 0
Indexes places rows = (size : ℕ) (hash : Bytes) → place_in places size hash ≡ first_place rows size hash
