-- Chunks that the published heights have already.
use Rattle.std.specs.Prelude.{ℕ, suc, ◌/◌, ◌==◌, ◌&&◌, ◌||◌, not, Bool, if◌then◌else◌, List, [], ◌∷◌, map, find}
use Rattle.std.specs.Prelude.{replicate, slice_get, Option, Some, None}
use Rattle.std.specs.List.{flat_map}
use Rattle.std.specs.Option.{option_map, option_map_or, option_and_then}
use Rattle.format_spec.specs.Bytes.{Bytes, parts, same_bytes}
use Rattle.format_spec.specs.Hashes.{ChunkSum, chunk_hash}
use Rattle.format_spec.specs.declared.limits.TheConstants.{CHUNK_SIZE}
use Rattle.state_spec.specs.State.{State}
use Rattle.state_spec.specs.Files.{files}
use Rattle.state_spec.specs.Manifest.{Manifest, ChunkRow, manifest_of}
use Rattle.sync_spec.specs.Rows.{row_version}

-- where a chunk is: in the file of this number of a published height, by its number in that file
pub record Source : Type 0 where
  pub height : ℕ
  pub file : ℕ
  pub from : ℕ

-- a chunk of a manifest that is had at once
pub record Hit : Type 0 where
  pub chunk : ℕ
  pub source : Source

-- the chunks of a height, in the order of files and chunks
abbrev pub sources_in : ℕ × Manifest → List (ChunkSum × Source)
sources_in p = map (λ r. (r.sum, record { height = p.0; file = r.file; from = r.sum.offset / CHUNK_SIZE })) p.1.chunks

abbrev pub same_chunk : ChunkSum → ChunkSum × Source → Bool
same_chunk sum x = (x.0.size == sum.size) && same_bytes x.0.hash sum.hash

-- the first chunk with this size and hash, in the order of heights, files and chunks
abbrev pub first_source : List (ChunkSum × Source) → ChunkSum → Option Source
first_source sources sum = option_map (λ x. x.1) (find (same_chunk sum) sources)

-- no chunk of zeros has a row in version 2 of a memory, so a row with their hash has no source
abbrev pub has_source : Manifest → ChunkRow → Bool
has_source m row = row_version m row == 1 || not (same_bytes row.sum.hash (chunk_hash (replicate row.sum.size 0)))

abbrev pub source_for : Manifest → List (ChunkSum × Source) → ChunkRow → Option Source
source_for m sources row = if has_source m row then first_source sources row.sum else None

abbrev pub hits_with : ℕ → Option Source → List Hit → List Hit
hits_with i None hits = hits
hits_with i (Some source) hits = record { chunk = i; source = source } ∷ hits

-- the rows numbered from i
abbrev pub hits_from : Manifest → ℕ → List (ChunkSum × Source) → List ChunkRow → List Hit
hits_from m i sources [] = []
hits_from m i sources (r ∷ rows) = hits_with i (source_for m sources r) (hits_from m (suc i) sources rows)

-- the chunks of a manifest that the manifests of published heights have, ascending, each with its first source
unfoldable pub local_hits : List (ℕ × Manifest) → Manifest → List Hit
local_hits heights m = hits_from m 0 (flat_map sources_in heights) m.chunks

-- ---- their bytes

abbrev pub manifests_of : List (ℕ × State) → List (ℕ × Manifest)
manifests_of heights = map (λ p. (p.0, manifest_of p.1)) heights

abbrev pub chunk_in : Source → State → Option Bytes
chunk_in source s = option_and_then (λ f. slice_get (parts CHUNK_SIZE f.bytes) source.from) (slice_get (files s) source.file)

abbrev pub bytes_at : List (ℕ × State) → Source → Bytes
bytes_at heights source =
    option_map_or (λ bytes. bytes) (option_and_then (λ p. chunk_in source p.1) (find (λ p. p.0 == source.height) heights)) []
