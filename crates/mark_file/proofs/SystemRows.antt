-- The rows of the system text's chunks are the last of a manifest.
use Rattle.std.proofs.Common.{◌≡◌, ℕ, suc, ◌+◌, ◌-◌, ◌≤◌, List, [], ◌∷◌, ◌++◌, length, map, drop, Option, refl, sym, ap, ◌∙◌, arith, append_assoc}
use Rattle.std.specs.List.{enumerate_from, flat_map}
use Rattle.std.proofs.lemmas.List.{append-nil, length-map, length-append, drop_at}
use Rattle.format_spec.specs.Bytes.{Bytes, part_count, parts}
use Rattle.format_spec.specs.Hashes.{ChunkSum, chunk_hash}
use Rattle.format_spec.specs.declared.limits.TheConstants.{CHUNK_SIZE}
use Rattle.state_spec.specs.State.{SystemPart}
use Rattle.state_spec.specs.SystemText.{system_text}
use Rattle.state_spec.specs.Files.{memories_in, system_file}
use Rattle.state_spec.specs.Manifest.{Manifest, FileSums, ChunkRow, sum_of, sums_of, row_of, chunk_sums, chunk_rows, memory_sums, file_sums, manifest_from}
use Rattle.format_spec.proofs.Parts.{parts_length}

abbrev rows_at : ℕ → List ChunkSum → List ChunkRow
rows_at k sums = map (λ c. record { file = k; sum = c }) sums

abbrev hash_of : ChunkRow → Bytes
hash_of row = row.sum.hash

rows_end : (n : ℕ) (fs : List FileSums) (f : FileSums) → (front : List ChunkRow) × (k : ℕ) × (chunk_rows n (fs ++ f ∷ []) ≡ front ++ rows_at k (chunk_sums f))
rows_end n [] f = ([], n, append-nil (rows_at n (chunk_sums f)))
rows_end n (g ∷ fs) f =
    let more = rows_end (suc n) fs f in
    let own = rows_at n (chunk_sums g) in
    (own ++ more.0, more.1, ap (λ (l : List ChunkRow). own ++ l) more.2 ∙ sym (append_assoc own more.0 (rows_at more.1 (chunk_sums f))))

-- each chunk of the system text has a row
hashes_back : (k size i : ℕ) (chunks : List Bytes) → map hash_of (rows_at k (flat_map (row_of size) (enumerate_from i (map (sum_of 1) chunks)))) ≡ map chunk_hash chunks
hashes_back k size i [] = refl
hashes_back k size i (c ∷ chunks) = ap (λ (hs : List Bytes). chunk_hash c ∷ hs) (hashes_back k size (i + 1) chunks)

behind : (front rows : List ChunkRow) → drop (length (front ++ rows) - length rows) (front ++ rows) ≡ rows
behind front rows = let count = length-append front rows in drop_at front rows (length (front ++ rows) - length rows) (omega (arith, count))

-- they are the last, and their hashes are those of the system text
pub system_rows : (m : Manifest) (version : ℕ) (s : SystemPart) (hashes : List (List (Option Bytes))) (size : ℕ) → m ≡ manifest_from version (file_sums s hashes) → size ≡ length (system_text s)
    → (part_count CHUNK_SIZE size ≤ length m.chunks) × (map hash_of (drop (length m.chunks - part_count CHUNK_SIZE size) m.chunks) ≡ map chunk_hash (parts CHUNK_SIZE (system_text s)))
unfolding manifest_from file_sums
system_rows m version s hashes size is sized =
    let f : FileSums = sums_of (system_file s) in
    let end = rows_end 0 (memory_sums (memories_in s) hashes) f in
    let rows = rows_at end.1 (chunk_sums f) in
    let chunks : m.chunks ≡ end.0 ++ rows = ap (λ (x : Manifest). x.chunks) is ∙ end.2 in
    let back : map hash_of rows ≡ map chunk_hash (parts CHUNK_SIZE (system_text s)) = hashes_back end.1 f.size 0 (parts CHUNK_SIZE (system_text s)) in
    let count : length rows ≡ part_count CHUNK_SIZE size =
    sym (length-map rows hash_of) ∙ ap length back ∙ length-map (parts CHUNK_SIZE (system_text s)) chunk_hash ∙ parts_length CHUNK_SIZE (system_text s) ∙ ap (part_count CHUNK_SIZE) (sym sized) in
    let all = length-append end.0 rows in
    let long : length m.chunks ≡ length (end.0 ++ rows) = ap length chunks in (
      omega (arith, long, all, count),
      ap (λ (k : ℕ). map hash_of (drop (length m.chunks - k) m.chunks)) (sym count)
          ∙ ap (λ (cs : List ChunkRow). map hash_of (drop (length cs - length rows) cs)) chunks
          ∙ ap (map hash_of) (behind end.0 rows) ∙ back,
    )
