-- The manifest of a valid state has 1 to 128 pieces.
use Rattle.std.proofs.Common.{◌≡◌, ℕ, suc, ◌+◌, ◌*◌, ◌<◌, ◌≤◌, Bool, true, false, cond, List, [], ◌∷◌, ◌++◌, length, map, filter, codes, refl, sym, ap, ◌∙◌, subst, arith, length-append}
use Rattle.std.specs.List.{flat_map, AllByRecursion}
use Rattle.std.specs.Int.{div_ceil}
use Rattle.std.proofs.lemmas.Grind.{div_ceil_times}
use Rattle.std.proofs.lemmas.List.{length-map}
use Rattle.std.proofs.lemmas.List.Concat.{flat_map-append}
use Rattle.std.proofs.lemmas.List.Sums.{sum_by-cons, sum_by_push}
use Rattle.sha2.proofs.Facts256.{length-sha256}
use Rattle.format_spec.proofs.Cuts.{Are32, chunks_32}
use Rattle.format_spec.specs.Bytes.{Bytes, be32, parts}
use Rattle.format_spec.specs.Hashes.{chunk_hash, file_hash, piece_hash}
use Rattle.format_spec.specs.declared.limits.TheConstants.{CHUNK_SIZE, PIECE_SIZE, MAX_ID}
use Rattle.format_spec.proofs.StateLimits.{state_limits}
use Rattle.std.proofs.lemmas.Bool.{and_parts, leb-true}
use Rattle.std.proofs.Common.{nat_lt, nat_le}
use Rattle.state_spec.specs.State.{State, Canister, IsState, FitsCanister, system_of, all_pages}
use Rattle.state_spec.specs.SystemText.{system_text}
use Rattle.state_spec.specs.Files.{File, files, heap_file, stable_file, system_file, heap_name, stable_name}
use Rattle.state_spec.specs.Manifest.{FileRow, ChunkRow, file_row, chunk_rows, sums_of, has_row, row_chunks, manifest_from, manifest_of}
use Rattle.state_spec.specs.ManifestText.{manifest_text, file_row_text, chunk_row_text, all_sizes}
use Rattle.state_spec.specs.Root.{IsMeta, meta_of}
use Rattle.format_spec.proofs.Parts.{parts_length}
use Rattle.soundness.proofs.Texts.{chunks_in, hashes_in, row_hashes}
use Rattle.state_spec.proofs.SystemSizes.{system_size}
use Rattle.soundness.proofs.StateManifests.{rows_of, memory_rows, system_row, rows_are, row_count, rows_sum, ids_of, named}
use Rattle.state_spec.proofs.RowSizes.{length-file_name, length-file_row_text, length-chunk_row_text}

-- ---- rows of files

file_text : (f : File) → length (file_row_text (file_row (sums_of f))) ≡ 41 + length f.name
unfolding file_hash
file_text f = length-file_row_text (file_row (sums_of f)) (length-sha256 _)

rows_text : (v : ℕ) (cs : List (Bytes × Canister)) → AllByRecursion (FitsCanister v) (map named cs) → length (flat_map file_row_text (memory_rows v cs)) ≤ 228 * length cs
rows_text v [] h = omega arith
rows_text v (c ∷ cs) h =
    let heap : File = heap_file v c in
    let stable : File = stable_file v c in
    let rest : Bytes = flat_map file_row_text (memory_rows v cs) in
    let a : Bytes = file_row_text (file_row (sums_of heap)) in
    let b : Bytes = file_row_text (file_row (sums_of stable)) in
    let id = leb-true (length c.0) 29 (and_parts (nat_lt 0 (length c.0)) (nat_le (length c.0) MAX_ID) h.0.id).1 in
    let four : length (codes "heap") ≡ 4 = refl in
    let six : length (codes "stable") ≡ 6 = refl in
    let whole : length (flat_map file_row_text (memory_rows v (c ∷ cs))) ≡ length a + (length b + length rest) = length-append a (b ++ rest) ∙ ap (λ (n : ℕ). length a + n) (length-append b rest) in
    let la : length a ≡ 41 + length (heap_name c.0) = file_text heap in
    let lb : length b ≡ 41 + length (stable_name c.0) = file_text stable in
    step (length a) (length b) (length rest) (length (heap_name c.0)) (length (stable_name c.0)) (length c.0) (length cs) (length (flat_map file_row_text (memory_rows v (c ∷ cs)))) la lb (length-file_name c.0 (codes "heap")) (length-file_name c.0 (codes "stable")) id whole (rows_text v cs h.1)
  where
    step : (a b r h k i n w : ℕ) → a ≡ 41 + h → b ≡ 41 + k → h ≡ 10 + 2 * i + 4 → k ≡ 10 + 2 * i + 6 → i ≤ 29 → w ≡ a + (b + r) → r ≤ 228 * n → w ≤ 228 * suc n
    step a b r h k i n w p q s t u v x = omega arith

-- ---- rows of chunks

chunks_text : (rs : List ChunkRow) → Are32 (hashes_in rs) → length (flat_map chunk_row_text rs) ≡ 48 * length rs
chunks_text [] h = refl
chunks_text (r ∷ rs) h = omega (arith, length-chunk_row_text r h.0, chunks_text rs h.1, length-append (chunk_row_text r) (flat_map chunk_row_text rs))

filter_shorter : {X : Type 0} (test : X → Bool) (xs : List X) → length (filter test xs) ≤ length xs
filter_shorter test [] = omega arith
filter_shorter test (x ∷ xs) = elim (test x) as (λ b. length (cond b (x ∷ filter test xs) (filter test xs)) ≤ length (x ∷ xs)) [
  | true ↦ let le = filter_shorter test xs in omega (arith, le)
  | false ↦ let le = filter_shorter test xs in omega (arith, le)
]

chunks_bound : (fs : List File) → length (chunks_in fs) * CHUNK_SIZE ≤ all_sizes (rows_of fs) + length fs * CHUNK_SIZE
chunks_bound [] = omega arith
chunks_bound (f ∷ fs) =
    let size : FileRow → ℕ = λ r. r.size in
    let own = parts_length CHUNK_SIZE f.bytes in
    let bound : div_ceil (length f.bytes) CHUNK_SIZE * CHUNK_SIZE < length f.bytes + CHUNK_SIZE = (div_ceil_times (length f.bytes) CHUNK_SIZE (omega arith)).1 in
    let sum : all_sizes (rows_of (f ∷ fs)) ≡ length f.bytes + all_sizes (rows_of fs) = sum_by-cons size (file_row (sums_of f)) (rows_of fs) in
    let kept = filter_shorter (has_row f.version) (parts CHUNK_SIZE f.bytes) in
    step (length (chunks_in (f ∷ fs))) (length (row_chunks f)) (length (parts CHUNK_SIZE f.bytes)) (length (chunks_in fs)) (div_ceil (length f.bytes) CHUNK_SIZE) (length f.bytes) (all_sizes (rows_of (f ∷ fs))) (all_sizes (rows_of fs)) (length fs) (length-append (row_chunks f) (chunks_in fs)) kept own bound sum (chunks_bound fs)
  where
    step : (w c p r k l a b n : ℕ) → w ≡ c + r → c ≤ p → p ≡ k → k * 1048576 < l + 1048576 → a ≡ l + b → r * 1048576 ≤ b + n * 1048576 → w * 1048576 ≤ a + suc n * 1048576
    step w c p r k l a b n e j f g h i = omega arith

-- ---- the text

text_length : (s : State) → IsState s → (16 ≤ length (manifest_text (manifest_of s))) × (length (manifest_text (manifest_of s)) ≤ 435312)
unfolding manifest_text manifest_of manifest_from system_of
text_length s h =
    let cs : List (Bytes × Canister) = s.canisters in
    let fs : List File = files s in
    let rows : List FileRow = rows_of fs in
    let chunks : List ChunkRow = chunk_rows 0 (map sums_of fs) in
    let a : Bytes = codes "ICMF" ++ be32 s.version in
    let b : Bytes = a ++ be32 (length rows) in
    let c : Bytes = b ++ flat_map file_row_text rows in
    let d : Bytes = c ++ be32 (length chunks) in
    let all : length (manifest_text (manifest_of s)) ≡ 16 + length (flat_map file_row_text rows) + length (flat_map chunk_row_text chunks) =
    omega (arith, length-append (codes "ICMF") (be32 s.version), length-append a (be32 (length rows)), length-append b (flat_map file_row_text rows), length-append c (be32 (length chunks)), length-append d (flat_map chunk_row_text chunks)) in
    let last : length (file_row_text (system_row s)) ≡ 47 = file_text (system_file (system_of s)) in
    let files_text : length (flat_map file_row_text rows) ≡ length (flat_map file_row_text (memory_rows s.version cs)) + 47 =
    ap (λ (x : List FileRow). length (flat_map file_row_text x)) (rows_are s)
    ∙ ap (λ (x : Bytes). length x) (flat_map-append file_row_text (memory_rows s.version cs) (system_row s ∷ []))
    ∙ omega (arith, last, length-append (flat_map file_row_text (memory_rows s.version cs)) (flat_map file_row_text (system_row s ∷ [])), length-append (file_row_text (system_row s)) []) in
    let size : FileRow → ℕ = λ r. r.size in
    let sizes : all_sizes rows ≡ all_sizes (memory_rows s.version cs) + length (system_text (system_of s)) = ap (λ (x : List FileRow). all_sizes x) (rows_are s) ∙ sum_by_push size (memory_rows s.version cs) (system_row s) in
    let sums = rows_sum s.version cs h.memories in
    let named_count = length-map cs named in
    let ids_count = length-map cs (λ (x : Bytes × Canister). x.0) in
    let row_number : length rows ≡ length fs = length-map (map sums_of fs) file_row ∙ length-map fs sums_of in
    let rows_number : length rows ≡ length (memory_rows s.version cs) + 1 = ap (λ (x : List FileRow). length x) (rows_are s) ∙ length-append (memory_rows s.version cs) (system_row s ∷ []) in
    let chunk_number : length chunks ≡ length (chunks_in fs) = sym (length-map chunks (λ (r : ChunkRow). r.sum.hash)) ∙ ap (λ (x : List Bytes). length x) (row_hashes 0 fs) ∙ length-map (chunks_in fs) chunk_hash in
    let chunk_text = chunks_text chunks (subst Are32 (sym (row_hashes 0 fs)) (chunks_32 (chunks_in fs))) in
    step (length (manifest_text (manifest_of s))) (length (flat_map file_row_text rows)) (length (flat_map chunk_row_text chunks)) (length (flat_map file_row_text (memory_rows s.version cs))) (length cs) (length chunks)
    (length (chunks_in fs)) (all_sizes rows) (all_sizes (memory_rows s.version cs)) (length (system_text (system_of s))) (all_pages (map named cs)) (length fs) (length rows) (length (memory_rows s.version cs)) (length (ids_of cs)) (length (map named cs))
    all files_text (rows_text s.version cs h.system.canisters_fit) chunk_text chunk_number (chunks_bound fs) sizes sums (few h.system.pages_fit (state_limits s.version).1) (system_size s.version (system_of s) h.system).1 row_number rows_number (row_count s.version cs) ids_count named_count h.system.few_canisters
  where
    few : {p n : ℕ} → p ≤ n → n ≤ 524288 → p ≤ 524288
    few a b = omega (arith, a, b)

    step : (w f c m n k j a b t p g r q i d : ℕ) → w ≡ 16 + f + c → f ≡ m + 47 → m ≤ 228 * n → c ≡ 48 * k → k ≡ j → j * 1048576 ≤ a + g * 1048576 → a ≡ b + t → b ≡ p * 4096 → p ≤ 524288 → t ≤ 67108864 → r ≡ g → r ≡ q + 1 → q ≡ 2 * i → i ≡ n → d ≡ n → d ≤ 1024 → (16 ≤ w) × (w ≤ 435312)
    step w f c m n k j a b t p g r q i d e1 e2 e3 e4 e5 e6 e7 e8 e9 e10 e11 e12 e13 e14 e15 e16 = (omega arith, omega arith)

hashes_32 : (xs : List Bytes) → Are32 (map piece_hash xs)
unfolding piece_hash
hashes_32 [] = tt
hashes_32 (x ∷ xs) = (length-sha256 _, hashes_32 xs)

pub meta_good : (s : State) → IsState s → IsMeta (meta_of (manifest_of s))
unfolding meta_of manifest_of manifest_from
meta_good s h =
    let text : Bytes = manifest_text (manifest_of s) in
    let n = text_length s h in
    let count = parts_length PIECE_SIZE text in
    let bounds = div_ceil_times (length text) PIECE_SIZE (omega arith) in
    let number = length-map (parts PIECE_SIZE text) piece_hash in
    let low : length text ≤ div_ceil (length text) PIECE_SIZE * PIECE_SIZE = bounds.0 in
    let high : div_ceil (length text) PIECE_SIZE * PIECE_SIZE < length text + PIECE_SIZE = bounds.1 in
    let both = step (length text) (length (parts PIECE_SIZE text)) (div_ceil (length text) PIECE_SIZE) (length (map piece_hash (parts PIECE_SIZE text))) n.0 n.1 count low high number in
    record { version = h.version; some_piece = both.0; few_pieces = both.1; hashes = hashes_32 (parts PIECE_SIZE text) }
  where
    step : (l p k m : ℕ) → 16 ≤ l → l ≤ 435312 → p ≡ k → l ≤ k * 4096 → k * 4096 < l + 4096 → m ≡ p → (1 ≤ m) × (m ≤ 128)
    step l p k m a b c d e f = (omega arith, omega arith)
