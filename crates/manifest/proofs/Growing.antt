-- A manifest that grows by files.
use Rattle.std.proofs.Common.{◌≡◌, ℕ, suc, ◌+◌, ◌<◌, ◌≤◌, List, [], ◌∷◌, ◌++◌, length, map, take, get_or, Option, Some, None, sym, ap, ◌∙◌, append_assoc, arith}
use Rattle.std.specs.List.{enumerate_from, flat_map}
use Rattle.std.proofs.lemmas.List.{append-nil, take_more, map_push, length-map, length-take}
use Rattle.std.proofs.lemmas.List.Concat.{flat_map-append}
use Rattle.format_spec.specs.Bytes.{Bytes}
use Rattle.format_spec.specs.Hashes.{ChunkSum}
use Rattle.state_spec.specs.Manifest.{Manifest, FileRow, FileSums, ChunkRow, file_row, chunk_sums, chunk_rows, manifest_from, row_of}
use Rattle.manifest.specs.Adding.{Adds, sums_from}

-- ---- the sums of a file's chunks

enumerate_push : {X : Type 0} (n : ℕ) (xs : List X) (x : X) → enumerate_from n (xs ++ x ∷ []) ≡ enumerate_from n xs ++ (n + length xs, x) ∷ []
enumerate_push {X = X} n [] x = ap (λ (k : ℕ). enumerate_one k x) (omega arith)
  where
    enumerate_one : ℕ → X → List (ℕ × X)
    enumerate_one k x = (k, x) ∷ []
enumerate_push {X = X} n (y ∷ xs) x =
    let e : n + 1 + length xs ≡ n + suc (length xs) = omega arith in
    ap (λ (es : List (ℕ × X)). (n, y) ∷ es) (enumerate_push (n + 1) xs x ∙ ap (λ (k : ℕ). enumerate_from (n + 1) xs ++ (k, x) ∷ []) e)

few_rows : (size k : ℕ) (hashes : List (Option Bytes)) → length (flat_map (row_of size) (enumerate_from k hashes)) ≤ length hashes
few_rows size k [] = omega arith
few_rows size k (None ∷ hashes) = let more = few_rows size (k + 1) hashes in omega (arith, more)
few_rows size k (Some hash ∷ hashes) = let more = few_rows size (k + 1) hashes in omega (arith, more)

-- no more rows than chunks
pub few_sums : (size : ℕ) (hashes : List (Option Bytes)) → length (sums_from size hashes) ≤ length hashes
few_sums size hashes = few_rows size 0 hashes

pub sums_more : (size i : ℕ) (hash : Option Bytes) (hashes : List (Option Bytes)) (sums new : List ChunkSum) → i < length hashes → hash ≡ get_or hashes i hash
    → new ≡ sums ++ row_of size (i, hash) → sums ≡ sums_from size (take i hashes) → new ≡ sums_from size (take (i + 1) hashes)
sums_more size i hash hashes sums new lt is pushed so_far =
    let front = take i hashes in
    let place : 0 + length front ≡ i = omega (arith, length-take i hashes) in
    let more : take (i + 1) hashes ≡ front ++ hash ∷ [] = take_more hashes i hash lt ∙ ap (λ (h : Option Bytes). front ++ h ∷ []) (sym is) in
    let pairs : enumerate_from 0 (take (i + 1) hashes) ≡ enumerate_from 0 front ++ (i, hash) ∷ [] =
    ap (enumerate_from 0) more ∙ enumerate_push 0 front hash ∙ ap (λ (k : ℕ). enumerate_from 0 front ++ (k, hash) ∷ []) place in
    pushed ∙ ap (λ (ss : List ChunkSum). ss ++ row_of size (i, hash)) so_far
    ∙ ap (λ (ss : List ChunkSum). sums_from size front ++ ss) (sym (append-nil (row_of size (i, hash))))
    ∙ sym (flat_map-append (row_of size) (enumerate_from 0 front) ((i, hash) ∷ []))
    ∙ sym (ap (flat_map (row_of size)) pairs)

-- ---- files

abbrev rows_of : ℕ → FileSums → List ChunkRow
rows_of n f = map (λ c. record { file = n; sum = c }) (chunk_sums f)

rows_more : (n : ℕ) (fs : List FileSums) (f : FileSums) → chunk_rows n (fs ++ f ∷ []) ≡ chunk_rows n fs ++ rows_of (n + length fs) f
rows_more n [] f = let e : n ≡ n + 0 = omega arith in append-nil (rows_of n f) ∙ ap (λ (k : ℕ). rows_of k f) e
rows_more n (g ∷ fs) f =
    let e : suc n + length fs ≡ n + suc (length fs) = omega arith in
    ap (λ (rows : List ChunkRow). rows_of n g ++ rows) (rows_more (suc n) fs f ∙ ap (λ (k : ℕ). chunk_rows (suc n) fs ++ rows_of k f) e)
    ∙ sym (append_assoc (rows_of n g) (chunk_rows (suc n) fs) (rows_of (n + suc (length fs)) f))

pub added : (v : ℕ) (old new : Manifest) (fs : List FileSums) (f : FileSums) → Adds old new f → old ≡ manifest_from v fs → new ≡ manifest_from v (fs ++ f ∷ [])
unfolding manifest_from
added v old new fs f adds is =
    let files_are : old.files ≡ map file_row fs = ap (λ (m : Manifest). m.files) is in
    let chunks_are : old.chunks ≡ chunk_rows 0 fs = ap (λ (m : Manifest). m.chunks) is in
    let number : length old.files ≡ 0 + length fs = ap length files_are ∙ length-map fs file_row ∙ omega arith in
    let version : new.version ≡ v = adds.version ∙ ap (λ (m : Manifest). m.version) is in
    let files : new.files ≡ map file_row (fs ++ f ∷ []) = adds.files ∙ ap (λ (rows : List FileRow). rows ++ file_row f ∷ []) files_are ∙ sym (map_push file_row fs f) in
    let chunks : new.chunks ≡ chunk_rows 0 (fs ++ f ∷ []) =
    adds.chunks ∙ ap (λ (k : ℕ). old.chunks ++ rows_of k f) number ∙ ap (λ (rows : List ChunkRow). rows ++ rows_of (0 + length fs) f) chunks_are ∙ sym (rows_more 0 fs f) in
    λ i. record { version = version i; files = files i; chunks = chunks i }
