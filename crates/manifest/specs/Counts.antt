-- What a manifest counts, and how the sizes of a state's parts give it.
use Rattle.std.specs.Prelude.{ℕ, ◌+◌, ◌*◌, List, [], ◌∷◌, length}
use Rattle.format_spec.specs.Bytes.{Bytes, part_count}
use Rattle.format_spec.specs.declared.limits.TheConstants.{PAGE_SIZE, CHUNK_SIZE, PIECE_SIZE, MANIFEST_HEAD, FILE_ROW, CHUNK_ROW}
use Rattle.state_spec.specs.State.{SystemPart}
use Rattle.state_spec.specs.SystemText.{system_text}
use Rattle.state_spec.specs.Files.{memories_in, system_name}
use Rattle.state_spec.specs.Manifest.{Manifest}
use Rattle.state_spec.specs.ManifestText.{manifest_text}
use Rattle.state_spec.specs.Root.{pieces_of}
use Rattle.manifest.specs.declared.counts.Counts.{Counts}

abbrev pub counts_in : Manifest → Counts
counts_in m = record {
  files = length m.files;
  chunks = length m.chunks;
  pieces = length (pieces_of m);
  bytes = length (manifest_text m);
}

-- the bytes of the rows of these memories, each by the name of its file and its pages
abbrev pub rows_size : List (Bytes × ℕ) → ℕ
rows_size [] = 0
rows_size (m ∷ ms) = FILE_ROW + length m.0 + rows_size ms

-- the chunks of these memories
abbrev pub chunks_in : List (Bytes × ℕ) → ℕ
chunks_in [] = 0
chunks_in (m ∷ ms) = part_count CHUNK_SIZE (m.1 * PAGE_SIZE) + chunks_in ms

-- by the number of memories, the bytes of their rows, and the number of all chunks
abbrev pub sized_counts : ℕ → ℕ → ℕ → Counts
sized_counts memories rows chunks =
    let bytes = MANIFEST_HEAD + 4 + (rows + (FILE_ROW + length system_name)) + CHUNK_ROW * chunks in
    record { files = memories + 1; chunks = chunks; pieces = part_count PIECE_SIZE bytes; bytes = bytes }

-- by the sizes of a state's parts
abbrev pub counts_by : SystemPart → Counts
counts_by p =
    let ms = memories_in p in
    sized_counts (length ms) (rows_size ms) (chunks_in ms + part_count CHUNK_SIZE (length (system_text p)))
