-- The chunks of published heights, by their sizes and hashes.
use Rattle.std.specs.Prelude.{ℕ, ◌+◌, ◌*◌, List, [], ◌∷◌, ◌++◌, map, Option}
use Rattle.std.specs.List.{flat_map}
use Rattle.std.specs.Option.{option_map}
use Rattle.format_spec.specs.Bytes.{Bytes}
use Rattle.format_spec.specs.declared.limits.TheConstants.{PAGE_SIZE}
use Rattle.state_spec.specs.State.{SystemPart}
use Rattle.state_spec.specs.Manifest.{Manifest, ChunkRow, manifest_from, file_sums}
use Rattle.sync_spec.specs.Local.{sources_in, first_source}
use Rattle.sys_state.specs.System.{part_of}
use Rattle.store_spec.specs.Mark.{Mark, MarkMemory}
use Rattle.chunk_index.specs.Index.{Places, Indexes, rows_of}
use Rattle.height_store.specs.Store.{StoredHeight, IsHeight}

-- the manifest of a state with these parts that has this mark
abbrev pub manifest_in : Mark → SystemPart → Manifest
manifest_in m s = manifest_from m.version (file_sums s (map (λ memory. memory.sums) m.memories))

-- the rows of its chunks
abbrev pub chunks_in : Mark → SystemPart → List ChunkRow
chunks_in m s = (manifest_in m s).chunks

-- the heights, each with its manifest
abbrev pub manifests_in : List StoredHeight → List (ℕ × Manifest)
manifests_in hs = map (λ h. (h.mark.height, manifest_in h.mark (part_of h.system))) hs

-- the first chunk with this size and hash, in the order of heights, files and chunks: its height, its file and its number there
abbrev pub chunk_in : List StoredHeight → ℕ → Bytes → Option (ℕ × ℕ × ℕ)
chunk_in hs size hash =
    option_map (λ source. (source.height, source.file, source.from))
    (first_source (flat_map sources_in (manifests_in hs)) (record { size = size; offset = 0; hash = hash }))

-- ---- the index of a height

-- a height, and the index of its chunks
pub record IsIndexed (places : Places) (h : StoredHeight) : Type 0 where
  pub good : IsHeight h
  pub chunks : Indexes places (chunks_in h.mark (part_of h.system))

-- the rows of memories of so many pages, their files numbered from n
abbrev pub memory_rows : ℕ → List MarkMemory → List ℕ → List ChunkRow
memory_rows n [] pages = []
memory_rows n (m ∷ ms) [] = []
memory_rows n (m ∷ ms) (count ∷ pages) = rows_of n (count * PAGE_SIZE) m.sums ++ memory_rows (n + 1) ms pages
