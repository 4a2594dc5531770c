-- The rows of a manifest as they are read: the rules of a field know only what they need of the rows before.
use Rattle.std.specs.Prelude.{◌≤◌, ◌<◌, ℕ, ◌+◌, ◌-◌, ◌*◌, ◌%◌, ◌==◌, ◌&&◌, nat_lt, nat_le, Bool, List, [], ◌∷◌, ◌++◌, length, codes}
use Rattle.std.specs.Prelude.{Option, Some, None, if◌then◌else◌}
use Rattle.std.specs.Int.{w32, w64}
use Rattle.format_spec.specs.Bytes.{Bytes, same_bytes}
use Rattle.format_spec.specs.Fields.{Reading, ◌>>=◌, gives, field, number, block, string8, any, each, magic}
use Rattle.format_spec.specs.declared.limits.TheConstants.{PAGE_SIZE, MAX_PIECES, HASH_SIZE, MAX_CANISTERS}
use Rattle.format_spec.specs.Versions.{is_version, memory_limit, state_limit}
use Rattle.state_spec.specs.State.{is_id}
use Rattle.state_spec.specs.Files.{system_name}
use Rattle.state_spec.specs.Manifest.{Manifest, FileRow, ChunkRow}
use Rattle.state_spec.specs.ManifestText.{Slot, at_slot, id_in, is_next_heap, is_its_stable, is_system_size, file_after, slot_after}
use Rattle.state_spec.specs.ManifestText.{row_after, memory_rows, memory_slots, system_slots}

-- the size of a memory, where those before have this size together
abbrev pub fits_memory : ℕ → ℕ → ℕ → Bool
fits_memory version total size =
    size % PAGE_SIZE == 0
    && nat_le size (memory_limit version * PAGE_SIZE)
    && nat_le (total + size) (state_limit version * PAGE_SIZE)

-- a row whose name and size keep these rules
abbrev pub file_with : (Bytes → Bool) → (ℕ → Bool) → Reading FileRow
file_with name_rule size_rule = do
  name ← field string8 name_rule
  size ← field (number w64) size_rule
  hash ← field (block HASH_SIZE) any
  gives (record { name = name; size = size; hash = hash })

-- the heap of an id above the last one
unfoldable pub heap_row : ℕ → Option Bytes → ℕ → Reading FileRow
heap_row version last total = file_with (λ name. is_next_heap last (id_in name) name) (fits_memory version total)

-- the stable memory of the id
unfoldable pub stable_row : ℕ → Bytes → ℕ → Reading FileRow
stable_row version id total = file_with (is_its_stable (Some id)) (fits_memory version total)

-- the system text
unfoldable pub system_row : Reading FileRow
system_row = file_with (λ name. same_bytes name system_name) is_system_size

-- a chunk in this slot
unfoldable pub chunk_in : Option Slot → Reading ChunkRow
chunk_in next = do
  file ← field (number w32) (at_slot next (λ s. s.file))
  size ← field (number w32) (at_slot next (λ s. s.size))
  offset ← field (number w64) (at_slot next (λ s. s.offset))
  hash ← field (block HASH_SIZE) any
  gives (record { file = file; sum = record { size = size; offset = offset; hash = hash } })

-- the id in a name, where it is one
abbrev pub only_id : Option Bytes → Option Bytes
only_id None = None
only_id (Some id) = if is_id id then Some id else None

-- the version of a meta-manifest and the number of its pieces
unfoldable pub meta_head : Reading (ℕ × ℕ)
meta_head = do
  version ← field (number w32) is_version
  count ← field (number w32) (λ n. nat_lt 0 n && nat_le n MAX_PIECES)
  gives (version, count)

-- how many rows there are, where the memories and the system text have so many slots
abbrev pub counts_rows : ℕ → ℕ → ℕ → ℕ → Bool
counts_rows version memories system n =
    if version == 1 then n == memories + system
    else nat_le system n && nat_le n (memories + system)

-- the row of a memory's chunk behind these: in version 1 that of the next of these slots
abbrev pub memory_row : ℕ → List FileRow → List Slot → List ChunkRow → Reading ChunkRow
memory_row version memories wanted before =
    if version == 1 then slot_after wanted before
    else row_after memories before

-- the rows of all chunks: those of these memories, which have the slots wanted, then those of the system text's own slots
unfoldable pub rows_in : ℕ → List FileRow → List Slot → List Slot → Reading (List ChunkRow)
rows_in version memories wanted own = do
  count ← field (number w32) (counts_rows version (length wanted) (length own))
  rows ← each (memory_row version memories wanted) (count - length own) []
  system ← each (slot_after own) (length own) []
  gives (rows ++ system)

-- a manifest whose rows are read so
abbrev pub manifest_by : (ℕ → List FileRow → Reading Manifest) → Reading Manifest
manifest_by rows_by = do
  _ ← magic (codes "ICMF")
  version ← field (number w32) is_version
  file_count ← field (number w32) (λ n. n % 2 == 1 && nat_le n (2 * MAX_CANISTERS + 1))
  files ← each (file_after version file_count) file_count []
  rows_by version files

-- in the slots that the files give
abbrev pub file_rows : ℕ → List FileRow → Reading (List ChunkRow)
file_rows version files = rows_in version (memory_rows files) (memory_slots files) (system_slots files)

unfoldable pub manifest_in_parts : Reading Manifest
manifest_in_parts = manifest_by (λ version files. file_rows version files >>= (λ rows. gives (record { version = version; files = files; chunks = rows })))

-- file numbers that don't fall, from one number on and below another
abbrev pub InOrder : ℕ → ℕ → List ChunkRow → Type 0
InOrder low end [] = Unit {0}
InOrder low end (r ∷ rows) = (low ≤ r.file) × (r.file < end) × InOrder r.file end rows
