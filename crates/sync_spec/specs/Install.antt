-- The state that a sync installs, from the bytes of its chunks.
use Rattle.std.specs.Prelude.{ℕ, ◌+◌, ◌-◌, ◌*◌, ◌==◌, ◌&&◌, not, Bool, nat_lt, if◌then◌else◌, List, [], ◌∷◌, length, map}
use Rattle.std.specs.Prelude.{zip, take, find, replicate, count_by, Option, Some, None, Result, Ok, Err}
use Rattle.std.specs.List.{flat_map, range_with_len}
use Rattle.std.specs.Option.{option_map_or}
use Rattle.format_spec.specs.Bytes.{Bytes, same_bytes}
use Rattle.format_spec.specs.declared.limits.TheConstants.{PAGE_SIZE}
use Rattle.state_spec.specs.State.{State, SystemPart, CanisterPart, state_from}
use Rattle.state_spec.specs.Files.{heap_name}
use Rattle.state_spec.specs.Manifest.{Manifest, FileRow, ChunkRow}
use Rattle.state_spec.specs.ManifestText.{Slot, slots_of}
use Rattle.state_spec.specs.SystemText.{read_system, canister_text}
use Rattle.sync_spec.specs.Messages.{Item, chunk}
use Rattle.sync_spec.specs.Rows.{system_number, file_size}
use Rattle.sync_spec.specs.Core.{same_item}

-- the bytes of an item that is had
abbrev pub bytes_had : List (Item × Bytes) → Item → Bytes
bytes_had had item = option_map_or (λ x. x.1) (find (λ x. same_item x.0 item) had) []

-- the bytes of the chunks, in the order of the rows
abbrev pub chunks_had : Manifest → List (Item × Bytes) → List Bytes
chunks_had m had = map (λ i. bytes_had had (chunk i)) (range_with_len 0 (length m.chunks))

abbrev pub stands_at : Slot → ChunkRow × Bytes → Bool
stands_at slot x = x.0.file == slot.file && x.0.sum.offset == slot.offset

-- the bytes at a slot: those of the chunk whose row stands there, else zeros
abbrev pub slot_bytes : List (ChunkRow × Bytes) → Slot → Bytes
slot_bytes chunks slot = option_map_or (λ x. x.1) (find (stands_at slot) chunks) (replicate slot.size 0)

-- the bytes of a file of this number and size
abbrev pub bytes_by : List (ChunkRow × Bytes) → ℕ → ℕ → Bytes
bytes_by chunks n size = flat_map (slot_bytes chunks) (slots_of n size)

abbrev pub file_bytes : Manifest → List Bytes → ℕ → Bytes
file_bytes m chunks n = bytes_by (zip m.chunks chunks) n (file_size m n)

-- the memories that are not empty
abbrev pub memories_to_write : Manifest → ℕ
memories_to_write m = count_by (λ r. nat_lt 0 r.size) (take (system_number m) m.files)

-- ---- whether a system text agrees with the rows of the files

-- the next field of a canister that disagrees: its id, its pages of heap, its pages of stable memory
abbrev pub disagreement_from : ℕ → List (Bytes × CanisterPart) → List FileRow → Option ℕ
disagreement_from at (c ∷ cs) (heap ∷ stable ∷ rows) =
    if not (same_bytes (heap_name c.0) heap.name) then Some at
    else if not (c.1.heap * PAGE_SIZE == heap.size) then Some (at + length (canister_text c) - 8)
    else if not (c.1.stable * PAGE_SIZE == stable.size) then Some (at + length (canister_text c) - 4)
    else disagreement_from (at + length (canister_text c)) cs rows
disagreement_from at _ _ = None

-- the place in the text of the number of canisters, or else of the first field that disagrees
unfoldable pub disagreement : SystemPart → List FileRow → Option ℕ
disagreement s rows =
    if not (2 * length s.canisters + 1 == length rows) then Some 16 else disagreement_from 20 s.canisters rows

abbrev pub unless_disagrees : SystemPart → Option ℕ → Result SystemPart ℕ
unless_disagrees s (Some place) = Err place
unless_disagrees s None = Ok s

abbrev pub agreeing_parts : Result SystemPart ℕ → List FileRow → Result SystemPart ℕ
agreeing_parts (Err place) rows = Err place
agreeing_parts (Ok s) rows = unless_disagrees s (disagreement s rows)

-- the parts that a system text spells which agrees with the rows, or the place of the first field where it doesn't
unfoldable pub system_for : Manifest → Bytes → Result SystemPart ℕ
system_for m text = agreeing_parts (read_system m.version text) m.files

-- ---- the state

-- the parts that the text spells, with the bytes of the chunks; each birth is the height
unfoldable pub installed_state : ℕ → Manifest → SystemPart → List Bytes → State
installed_state height m s chunks =
    state_from m.version height s (map (file_bytes m chunks) (range_with_len 0 (system_number m)))
