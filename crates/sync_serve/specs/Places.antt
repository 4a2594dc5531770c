-- In which file a chunk is.
use Rattle.std.specs.Prelude.{◌≡◌, ℕ, ◌*◌, ◌<◌, ◌≤◌, List, ◌++◌, length, map, slice_get, slice_index_or, Some}
use Rattle.std.specs.List.{flat_map}
use Rattle.format_spec.specs.Bytes.{Bytes, parts}
use Rattle.format_spec.specs.declared.limits.TheConstants.{CHUNK_SIZE, PAGE_SIZE}
use Rattle.sync_serve.specs.declared.chunks.Place.{Place}

-- the chunks of memories and, behind them, of the system text
abbrev pub chunks_in : List Bytes → Bytes → List Bytes
chunks_in memories system = flat_map (λ bytes. parts CHUNK_SIZE bytes) memories ++ parts CHUNK_SIZE system

-- memories of so many pages
abbrev pub HavePages : List ℕ → List Bytes → Type 0
HavePages pages memories = map (λ bytes. length bytes) memories ≡ map (λ count. count * PAGE_SIZE) pages

-- the chunk of this number is at this place, in each state whose memories have so many pages
pub record IsPlace (pages : List ℕ) (index : ℕ) (place : Place) : Type 0 where
  pub within : place.file ≤ length pages
  pub begins : (count : ℕ) → slice_get pages place.file ≡ Some count → place.chunk * CHUNK_SIZE < count * PAGE_SIZE
  pub there : (memories : List Bytes) (system : Bytes) → HavePages pages memories
      → slice_get (chunks_in memories system) index ≡ slice_get (parts CHUNK_SIZE (slice_index_or memories place.file system)) place.chunk
