-- The rows of the chunks of a mark, file by file.
use Rattle.std.proofs.Common.{◌≡◌, ℕ, ◌+◌, ◌*◌, ◌<◌, ◌≤◌, ◌^◌, zero, suc, List, [], ◌∷◌, ◌++◌, length, map, drop, drop-cons, get_or, Option, Some, refl, sym, ◌∙◌, ap, subst, arith, append_assoc}
use Rattle.std.specs.List.{AllZip}
use Rattle.std.proofs.lemmas.Slice.Zip.{AllZip-long}
use Rattle.std.proofs.lemmas.Grind.{div_ceil_times}
use Rattle.std.proofs.lemmas.List.{append-nil, length-map}
use Rattle.format_spec.specs.Bytes.{Bytes, part_count, parts}
use Rattle.format_spec.specs.Hashes.{chunk_hash}
use Rattle.format_spec.specs.declared.limits.TheConstants.{PAGE_SIZE, CHUNK_PAGES, CHUNK_SIZE}
use Rattle.state_spec.proofs.RowSizes.{length-chunk_hashes}
use Rattle.state_spec.specs.State.{SystemPart}
use Rattle.state_spec.specs.SystemText.{system_text}
use Rattle.state_spec.specs.Files.{memories_in, system_file}
use Rattle.state_spec.specs.Manifest.{ChunkRow, FileSums, chunk_rows, sum_of, chunk_hashes, sums_of, memory_sums, file_sums, manifest_from}
use Rattle.store_spec.specs.Mark.{Mark, MarkMemory, IsMark, FitsMemory}
use Rattle.chunk_index.specs.Index.{Places, Indexes, rows_of}
use Rattle.height_store.specs.Chunks.{chunks_in, memory_rows}

abbrev pages_of : List (Bytes × ℕ) → List ℕ
pages_of fs = map (λ f. f.1) fs

abbrev pub FitsCount : MarkMemory → ℕ → Type 0
FitsCount m count = length m.sums ≡ part_count CHUNK_PAGES count

-- ---- all files

file_rows : (v n : ℕ) (ms : List MarkMemory) (fs : List (Bytes × ℕ)) (last : FileSums) → AllZip (FitsMemory v) ms fs
    → chunk_rows n (memory_sums fs (map (λ m. m.sums) ms) ++ last ∷ []) ≡ memory_rows n ms (pages_of fs) ++ rows_of (n + length fs) last.size last.hashes
file_rows v n [] [] last fit = let e : n ≡ n + 0 = omega arith in append-nil (rows_of n last.size last.hashes) ∙ ap (λ (k : ℕ). rows_of k last.size last.hashes) e
file_rows v n [] (f ∷ fs) last fit = absurd fit
file_rows v n (m ∷ ms) [] last fit = absurd fit
file_rows v n (m ∷ ms) (f ∷ fs) last fit =
    let own : List ChunkRow = rows_of n (f.1 * PAGE_SIZE) m.sums in
    let one : suc n ≡ n + 1 = omega arith in
    let e : n + 1 + length fs ≡ n + suc (length fs) = omega arith in
    ap (λ (k : ℕ). own ++ chunk_rows k (memory_sums fs (map (λ m. m.sums) ms) ++ last ∷ [])) one
    ∙ ap (λ (rows : List ChunkRow). own ++ rows) (file_rows v (n + 1) ms fs last fit.1)
    ∙ sym (append_assoc own (memory_rows (n + 1) ms (pages_of fs)) (rows_of (n + 1 + length fs) last.size last.hashes))
    ∙ ap (λ (k : ℕ). (own ++ memory_rows (n + 1) ms (pages_of fs)) ++ rows_of k last.size last.hashes) e

-- in version 1 each chunk has a row
each_has_row : (chunks : List Bytes) → map Some (map chunk_hash chunks) ≡ map (sum_of 1) chunks
each_has_row [] = refl
each_has_row (c ∷ chunks) = ap (λ (sums : List (Option Bytes)). Some (chunk_hash c) ∷ sums) (each_has_row chunks)

-- the rows of memories and of a system text are those of the mark
pub mark_rows : (m : Mark) (s : SystemPart) (mems : List MarkMemory) (pages : List ℕ) (n size : ℕ) (hashes : List (Option Bytes)) → IsMark m s → mems ≡ m.memories → pages ≡ pages_of (memories_in s)
    → n ≡ length pages → size ≡ length m.system → hashes ≡ map Some m.system_sums → memory_rows 0 mems pages ++ rows_of n size hashes ≡ chunks_in m s
unfolding manifest_from file_sums
mark_rows m s mems pages n size hashes good mems_are pages_are n_is size_is hashes_are =
    let fs = memories_in s in
    let count : n ≡ 0 + length fs = omega (arith, n_is, ap (λ (l : List ℕ). length l) pages_are, length-map fs (λ (f : Bytes × ℕ). f.1)) in
    ap (λ (l : List MarkMemory). memory_rows 0 l pages ++ rows_of n size hashes) mems_are
    ∙ ap (λ (l : List ℕ). memory_rows 0 m.memories l ++ rows_of n size hashes) pages_are
    ∙ ap (λ (k : ℕ). memory_rows 0 m.memories (pages_of fs) ++ rows_of k size hashes) count
    ∙ ap (λ (k : ℕ). memory_rows 0 m.memories (pages_of fs) ++ rows_of (0 + length fs) k hashes) (size_is ∙ ap (λ (text : Bytes). length text) good.system_spelled)
    ∙ ap (λ (l : List (Option Bytes)). memory_rows 0 m.memories (pages_of fs) ++ rows_of (0 + length fs) (length (system_text s)) l)
    (hashes_are ∙ ap (map Some) good.system_sums ∙ each_has_row (parts CHUNK_SIZE m.system) ∙ ap (chunk_hashes 1) good.system_spelled)
    ∙ sym (file_rows m.version 0 m.memories fs (sums_of (system_file s)) good.memories_fit)

counts_fit : (v : ℕ) (ms : List MarkMemory) (fs : List (Bytes × ℕ)) → AllZip (FitsMemory v) ms fs → AllZip FitsCount ms (pages_of fs)
counts_fit v [] [] fit = tt
counts_fit v [] (f ∷ fs) fit = absurd fit
counts_fit v (m ∷ ms) [] fit = absurd fit
counts_fit v (m ∷ ms) (f ∷ fs) fit = (fit.0.each_chunk, counts_fit v ms fs fit.1)

-- each memory has as many hashes as its pages give
pub memories_fit : (m : Mark) (s : SystemPart) (mems : List MarkMemory) (pages : List ℕ) → IsMark m s → mems ≡ m.memories → pages ≡ pages_of (memories_in s) → AllZip FitsCount mems pages
memories_fit m s mems pages good mems_are pages_are =
    subst (λ (l : List MarkMemory). AllZip FitsCount l pages) (sym mems_are)
    (subst (λ (l : List ℕ). AllZip FitsCount m.memories l) (sym pages_are) (counts_fit m.version m.memories (memories_in s) good.memories_fit))

part_count_most : (n len : ℕ) → 0 < n → part_count n len ≤ len
part_count_most n len pos = grind (arith, div_ceil_times len n pos)

-- the hashes of the system text are fewer than its bytes
pub system_few : (m : Mark) (s : SystemPart) (hashes : List (Option Bytes)) → IsMark m s → hashes ≡ map Some m.system_sums → length hashes ≤ length m.system
system_few m s hashes good is =
    let long : length hashes ≡ part_count CHUNK_SIZE (length m.system) =
    ap (λ (l : List (Option Bytes)). length l) (is ∙ ap (map Some) good.system_sums ∙ each_has_row (parts CHUNK_SIZE m.system)) ∙ length-chunk_hashes 1 m.system in
    subst (λ (k : ℕ). k ≤ length m.system) (sym long) (part_count_most CHUNK_SIZE (length m.system) (omega arith))

-- ---- memory by memory

zip_at : (mems : List MarkMemory) (pages : List ℕ) (i : ℕ) (d : MarkMemory) → AllZip FitsCount mems pages → i < length mems → FitsCount (get_or mems i d) (get_or pages i 0)
zip_at [] pages i d fit lt = absurd (omega (arith, lt))
zip_at (m ∷ ms) [] i d fit lt = absurd fit
zip_at (m ∷ ms) (count ∷ pages) zero d fit lt = fit.0
zip_at (m ∷ ms) (count ∷ pages) (suc i) d fit lt = zip_at ms pages i d fit.1 (omega (arith, lt))

module _ (mems : List MarkMemory) (pages : List ℕ) (i : ℕ) where
  -- so far the places index rows behind which those of the memories from i on complete the list
  abbrev pub Halfway : Places → Type 0
  Halfway places = (rows : List ChunkRow) × Indexes places rows × (rows ++ memory_rows i (drop i mems) (drop i pages) ≡ memory_rows 0 mems pages)

  module _ (m : MarkMemory) (count : ℕ) (lt : i < length mems) (m_is : m ≡ get_or mems i m) (count_is : count ≡ get_or pages i 0) (fit : AllZip FitsCount mems pages) where
    pub few_hashes : (hashes : List (Option Bytes)) → hashes ≡ m.sums → count < 2 ^ 32 → length hashes ≤ 2 ^ 32
    few_hashes hashes is small =
        let long : length m.sums ≡ part_count CHUNK_PAGES count =
        subst (λ (k : ℕ). FitsCount m k) (sym count_is) (subst (λ (n : MarkMemory). FitsCount n (get_or pages i 0)) (sym m_is) (zip_at mems pages i m fit lt)) in
        omega (arith, ap (λ (l : List (Option Bytes)). length l) is, long, part_count_most CHUNK_PAGES count (omega arith), small)

    pub memory_turn : (old new : Places) (hashes : List (Option Bytes)) → hashes ≡ m.sums → ((rows : List ChunkRow) → Indexes old rows → Indexes new (rows ++ rows_of i (count * PAGE_SIZE) hashes))
        → Halfway old → (rows : List ChunkRow) × Indexes new rows × (rows ++ memory_rows (i + 1) (drop (i + 1) mems) (drop (i + 1) pages) ≡ memory_rows 0 mems pages)
    memory_turn old new hashes is put so_far =
        let own : List ChunkRow = rows_of i (count * PAGE_SIZE) hashes in
        let one : suc i ≡ i + 1 = omega arith in
        let within : i < length pages = omega (arith, lt, AllZip-long FitsCount mems pages fit) in
        let later : List ChunkRow = memory_rows (i + 1) (drop (i + 1) mems) (drop (i + 1) pages) in
        let mems_cut : drop i mems ≡ m ∷ drop (i + 1) mems = drop-cons mems i m lt ∙ ap (λ (n : MarkMemory). n ∷ drop (suc i) mems) (sym m_is) ∙ ap (λ (k : ℕ). m ∷ drop k mems) one in
        let pages_cut : drop i pages ≡ count ∷ drop (i + 1) pages = drop-cons pages i 0 within ∙ ap (λ (n : ℕ). n ∷ drop (suc i) pages) (sym count_is) ∙ ap (λ (k : ℕ). count ∷ drop k pages) one in (
          so_far.0 ++ own,
          put so_far.0 so_far.1,
          append_assoc so_far.0 own later
              ∙ ap (λ (l : List (Option Bytes)). so_far.0 ++ (rows_of i (count * PAGE_SIZE) l ++ later)) is
              ∙ sym (ap (λ (l : List MarkMemory). so_far.0 ++ memory_rows i l (drop i pages)) mems_cut ∙ ap (λ (l : List ℕ). so_far.0 ++ memory_rows i (m ∷ drop (i + 1) mems) l) pages_cut)
              ∙ so_far.2,
        )
