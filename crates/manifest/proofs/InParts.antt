-- A manifest read in parts is the manifest read by its fields.
use Rattle.std.proofs.Common.{◌≡◌, ℕ, ◌+◌, ◌-◌, ◌==◌, ◌&&◌, List, [], ◌++◌, length, Result, Ok, Err, refl, ap, ◌∙◌}
use Rattle.std.specs.Prelude.{nat_le, if◌then◌else◌}
use Rattle.std.specs.Int.{w32}
use Rattle.std.proofs.lemmas.List.{length-append}
use Rattle.format_spec.specs.Fields.{Reading, Cursor, ◌>>=◌, and_then, gives, field, number, each}
use Rattle.state_spec.specs.Manifest.{Manifest, FileRow, ChunkRow}
use Rattle.state_spec.specs.ManifestText.{Slot, slots, is_row_count, memory_row_after, slot_after, memory_slots, system_slots, manifest_fields}
use Rattle.state_spec.proofs.ManifestReading.{slots_parts}
use Rattle.manifest.specs.Reading.{counts_rows, rows_in, file_rows, manifest_by, manifest_in_parts}

module _ (v : ℕ) (files : List FileRow) where
  abbrev own : List Slot
  own = system_slots files

  counts_same : (n : ℕ) → is_row_count v files n ≡ counts_rows v (length (memory_slots files)) (length own) n
  counts_same n =
      let all : length (slots 0 files) ≡ length (memory_slots files) + length own = ap length (slots_parts files) ∙ length-append (memory_slots files) own in
      ap (λ (k : ℕ). if v == 1 then n == k else nat_le (length own) n && nat_le n k) all

  abbrev with_rows : List ChunkRow → Reading Manifest
  with_rows rows = gives (record { version = v; files = files; chunks = rows })

  abbrev whole_end : List ChunkRow → List ChunkRow → Reading Manifest
  whole_end rows system = with_rows (rows ++ system)

  abbrev rows_end : List ChunkRow → List ChunkRow → Reading (List ChunkRow)
  rows_end rows system = gives (rows ++ system)

  abbrev read_own : Reading (List ChunkRow)
  read_own = each (slot_after own) (length own) []

  abbrev whole_system : List ChunkRow → Reading Manifest
  whole_system rows = read_own >>= whole_end rows

  abbrev rows_system : List ChunkRow → Reading (List ChunkRow)
  rows_system rows = read_own >>= rows_end rows

  abbrev read_memories : ℕ → Reading (List ChunkRow)
  read_memories n = each (memory_row_after v files) (n - length own) []

  abbrev whole_memories : ℕ → Reading Manifest
  whole_memories n = read_memories n >>= whole_system

  abbrev rows_memories : ℕ → Reading (List ChunkRow)
  rows_memories n = read_memories n >>= rows_system

  after_system : (rows : List ChunkRow) (r : Result (List ChunkRow × Cursor) ℕ) → and_then r (whole_end rows) ≡ and_then (and_then r (rows_end rows)) with_rows
  after_system rows (Err place) = refl
  after_system rows (Ok x) = refl

  after_memories : (r : Result (List ChunkRow × Cursor) ℕ) → and_then r whole_system ≡ and_then (and_then r rows_system) with_rows
  after_memories (Err place) = refl
  after_memories (Ok x) = after_system x.0 (read_own x.1)

  after_count : (r : Result (ℕ × Cursor) ℕ) → and_then r whole_memories ≡ and_then (and_then r rows_memories) with_rows
  after_count (Err place) = refl
  after_count (Ok x) = after_memories (read_memories x.0 x.1)

  ends_same : (c : Cursor) → (field (number w32) (is_row_count v files) >>= whole_memories) c ≡ (file_rows v files >>= with_rows) c
  unfolding rows_in
  ends_same c = (λ i. and_then (field (number w32) (λ n. counts_same n i) c) whole_memories) ∙ after_count (field (number w32) (counts_rows v (length (memory_slots files)) (length own)) c)

pub in_parts : (c : Cursor) → manifest_fields c ≡ manifest_in_parts c
unfolding manifest_fields manifest_in_parts
in_parts c = λ i. manifest_by (λ v files d. ends_same v files d i) c
