-- Files of one manifest with the same chunks that have rows are the same.
use Rattle.std.proofs.Common.{◌≡◌, ℕ, suc, ◌+◌, ◌-◌, ◌*◌, ◌<◌, ◌≤◌, ◌==◌, ◌||◌, not, min, Bool, true, false, cond, List, [], ◌∷◌, ◌++◌, length, map, filter, Option, Some, None, refl, sym, ap, ◌∙◌, subst, arith, take, drop, if◌then◌else◌}
use Rattle.std.specs.List.{flat_map, AllByRecursion, enumerate_from, list_all, range_with_len}
use Rattle.std.proofs.lemmas.Bool.{and_parts, eqb-true}
use Rattle.std.proofs.lemmas.List.{map-append, length-map, length-take, length-drop}
use Rattle.sha2.proofs.Facts256.{length-sha256}
use Rattle.format_spec.proofs.Cuts.{cut_front, cons_same, heads, Are32}
use Rattle.format_spec.specs.Bytes.{Bytes, parts, part_count}
use Rattle.format_spec.specs.Hashes.{ChunkSum, chunk_hash, file_hash}
use Rattle.format_spec.specs.declared.limits.TheConstants.{CHUNK_SIZE}
use Rattle.state_spec.specs.Files.{File}
use Rattle.state_spec.specs.Manifest.{FileRow, ChunkRow, row_of, chunk_sums, file_row, chunk_rows, sum_of, sums_of, has_row, is_zeros, row_chunks}
use Rattle.format_spec.proofs.Parts.{joined, joined_parts}

-- ---- rows and their chunks

abbrev pub HashesOf : List FileRow → Type 0
HashesOf rs = AllByRecursion (λ r. length r.hash ≡ 32) rs

abbrev pub hashes_in : List ChunkRow → List Bytes
hashes_in rs = map (λ r. r.sum.hash) rs

-- the chunks that have rows
abbrev pub chunks_in : List File → List Bytes
chunks_in fs = flat_map row_chunks fs

abbrev pub contents : List File → List Bytes
contents fs = map (λ f. f.bytes) fs

-- the rows of chunks from this one on
abbrev pub rows_from : ℕ → ℕ → ℕ → List Bytes → List ChunkSum
rows_from v size k ps = flat_map (row_of size) (enumerate_from k (map (sum_of v) ps))

abbrev pub with_rows : ℕ → List Bytes → List Bytes
with_rows v ps = filter (has_row v) ps

abbrev hash_of : ChunkSum → Bytes
hash_of c = c.hash

pub own_hashes : (v size k : ℕ) (ps : List Bytes) → map hash_of (rows_from v size k ps) ≡ map chunk_hash (with_rows v ps)
own_hashes v size k [] = refl
own_hashes v size k (p ∷ ps) = go (has_row v p) (own_hashes v size (k + 1) ps)
  where
    go : (b : Bool) → map hash_of (rows_from v size (k + 1) ps) ≡ map chunk_hash (with_rows v ps)
        → map hash_of (row_of size (k, (if b then Some (chunk_hash p) else None)) ++ rows_from v size (k + 1) ps) ≡ map chunk_hash (cond b (p ∷ with_rows v ps) (with_rows v ps))
    go true h = cons_same (chunk_hash p) (chunk_hash p) _ _ refl h
    go false h = h

pub own_count : (f : File) → length (chunk_sums (sums_of f)) ≡ length (row_chunks f)
own_count f = sym (length-map (chunk_sums (sums_of f)) hash_of) ∙ ap length (own_hashes f.version (length f.bytes) 0 (parts CHUNK_SIZE f.bytes)) ∙ length-map (row_chunks f) chunk_hash

abbrev pub numbered : ℕ → ChunkSum → ChunkRow
numbered n c = record { file = n; sum = c }

numbered_hashes : (n : ℕ) (cs : List ChunkSum) → hashes_in (map (numbered n) cs) ≡ map hash_of cs
numbered_hashes n [] = refl
numbered_hashes n (c ∷ cs) = cons_same c.hash c.hash _ _ refl (numbered_hashes n cs)

pub row_hashes : (n : ℕ) (fs : List File) → hashes_in (chunk_rows n (map sums_of fs)) ≡ map chunk_hash (chunks_in fs)
row_hashes n [] = refl
row_hashes n (f ∷ fs) =
    map-append (λ (r : ChunkRow). r.sum.hash) (map (numbered n) (chunk_sums (sums_of f))) (chunk_rows (suc n) (map sums_of fs))
    ∙ ap (λ (x : List Bytes). x ++ hashes_in (chunk_rows (suc n) (map sums_of fs))) (numbered_hashes n (chunk_sums (sums_of f)) ∙ own_hashes f.version (length f.bytes) 0 (parts CHUNK_SIZE f.bytes))
    ∙ ap (λ (x : List Bytes). map chunk_hash (row_chunks f) ++ x) (row_hashes (suc n) fs)
    ∙ sym (map-append chunk_hash (row_chunks f) (chunks_in fs))

pub rows_32 : (fs : List File) → HashesOf (map file_row (map sums_of fs))
unfolding file_hash
rows_32 [] = tt
rows_32 (f ∷ fs) = (length-sha256 _, rows_32 fs)

-- ---- chunks of zeros

zeros_same : (p q : Bytes) → is_zeros p ≡ true → is_zeros q ≡ true → length p ≡ length q → p ≡ q
unfolding is_zeros
zeros_same [] [] a b e = refl
zeros_same [] (y ∷ q) a b e = absurd (omega arith)
zeros_same (x ∷ p) [] a b e = absurd (omega arith)
zeros_same (x ∷ p) (y ∷ q) a b e =
    let s = and_parts (x == 0) (list_all (λ c. c == 0) p) a in
    let t = and_parts (y == 0) (list_all (λ c. c == 0) q) b in
    cons_same x y p q (eqb-true x 0 s.0 ∙ sym (eqb-true y 0 t.0)) (zeros_same p q s.1 t.1 (omega (arith, e)))

no_row : (v : ℕ) (p : Bytes) → has_row v p ≡ false → is_zeros p ≡ true
no_row v p h = go (v == 1) (is_zeros p) h
  where
    go : (a b : Bool) → (a || not b) ≡ false → b ≡ true
    go true b e = absurd cc
    go false true e = refl
    go false false e = absurd cc

-- ---- the chunks of one file

behind : (v size k : ℕ) (ps : List Bytes) → AllByRecursion (λ (c : ChunkSum). k * CHUNK_SIZE ≤ c.offset) (rows_from v size k ps)
behind v size k [] = tt
behind v size k (p ∷ ps) = go (has_row v p) (lower (rows_from v size (k + 1) ps) (behind v size (k + 1) ps))
  where
    lower : (cs : List ChunkSum) → AllByRecursion (λ (c : ChunkSum). (k + 1) * CHUNK_SIZE ≤ c.offset) cs → AllByRecursion (λ (c : ChunkSum). k * CHUNK_SIZE ≤ c.offset) cs
    lower [] h = tt
    lower (c ∷ cs) h = (let low : (k + 1) * CHUNK_SIZE ≤ c.offset = h.0 in omega (arith, low), lower cs h.1)

    go : (b : Bool) → AllByRecursion (λ (c : ChunkSum). k * CHUNK_SIZE ≤ c.offset) (rows_from v size (k + 1) ps)
        → AllByRecursion (λ (c : ChunkSum). k * CHUNK_SIZE ≤ c.offset) (row_of size (k, (if b then Some (chunk_hash p) else None)) ++ rows_from v size (k + 1) ps)
    go true h = (omega arith, h)
    go false h = h

-- a row of chunk k is no row of chunks behind it
not_behind : (v size k : ℕ) (c : ChunkSum) (cs : List ChunkSum) (qs : List Bytes) → c.offset ≡ k * CHUNK_SIZE → c ∷ cs ≡ rows_from v size (k + 1) qs → ⊥
not_behind v size k c cs qs at e =
    let all = subst (AllByRecursion (λ (x : ChunkSum). (k + 1) * CHUNK_SIZE ≤ x.offset)) (sym e) (behind v size (k + 1) qs) in
    let low : (k + 1) * CHUNK_SIZE ≤ c.offset = all.0 in
    omega (arith, low, at)

abbrev lengths : List Bytes → List ℕ
lengths ps = map (λ p. length p) ps

-- chunks of the same lengths, with the same rows and the same bytes where they have rows
same_parts : (v size k : ℕ) (ps qs : List Bytes) → lengths ps ≡ lengths qs → rows_from v size k ps ≡ rows_from v size k qs → with_rows v ps ≡ with_rows v qs → ps ≡ qs
same_parts v size k [] [] l r c = refl
same_parts v size k [] (q ∷ qs) l r c = absurd cc
same_parts v size k (p ∷ ps) [] l r c = absurd cc
same_parts v size k (p ∷ ps) (q ∷ qs) l r c =
    let h = heads (length p) (length q) (lengths ps) (lengths qs) l in
    go (has_row v p) refl (has_row v q) refl (λ e f. same_parts v size (k + 1) ps qs h.1 e f) h.0 r c
  where
    sum : Bytes → ChunkSum
    sum x = record { size = min CHUNK_SIZE (size - k * CHUNK_SIZE); offset = k * CHUNK_SIZE; hash = chunk_hash x }

    go : (a : Bool) → has_row v p ≡ a → (b : Bool) → has_row v q ≡ b → (rows_from v size (k + 1) ps ≡ rows_from v size (k + 1) qs → with_rows v ps ≡ with_rows v qs → ps ≡ qs) → length p ≡ length q
        → row_of size (k, (if a then Some (chunk_hash p) else None)) ++ rows_from v size (k + 1) ps ≡ row_of size (k, (if b then Some (chunk_hash q) else None)) ++ rows_from v size (k + 1) qs
        → cond a (p ∷ with_rows v ps) (with_rows v ps) ≡ cond b (q ∷ with_rows v qs) (with_rows v qs) → p ∷ ps ≡ q ∷ qs
    go true ip true iq more len rows chunks =
        let c2 = heads p q (with_rows v ps) (with_rows v qs) chunks in
        let r2 = heads (sum p) (sum q) (rows_from v size (k + 1) ps) (rows_from v size (k + 1) qs) rows in
        cons_same p q ps qs c2.0 (more r2.1 c2.1)
    go false ip false iq more len rows chunks = cons_same p q ps qs (zeros_same p q (no_row v p ip) (no_row v q iq) len) (more rows chunks)
    go true ip false iq more len rows chunks = absurd (not_behind v size k (sum p) (rows_from v size (k + 1) ps) qs refl rows)
    go false ip true iq more len rows chunks = absurd (not_behind v size k (sum q) (rows_from v size (k + 1) qs) ps refl (sym rows))

part_lengths : (xs ys : Bytes) → length xs ≡ length ys → lengths (parts CHUNK_SIZE xs) ≡ lengths (parts CHUNK_SIZE ys)
unfolding parts
part_lengths xs ys e =
    sizes xs (range_with_len 0 (part_count CHUNK_SIZE (length xs)))
    ∙ ap (λ (n : ℕ). map (λ i. min CHUNK_SIZE (n - i * CHUNK_SIZE)) (range_with_len 0 (part_count CHUNK_SIZE n))) e
    ∙ sym (sizes ys (range_with_len 0 (part_count CHUNK_SIZE (length ys))))
  where
    sizes : (s : Bytes) (is : List ℕ) → lengths (map (λ i. take CHUNK_SIZE (drop (i * CHUNK_SIZE) s)) is) ≡ map (λ i. min CHUNK_SIZE (length s - i * CHUNK_SIZE)) is
    sizes s [] = refl
    sizes s (i ∷ is) = cons_same _ _ _ _ (length-take CHUNK_SIZE (drop (i * CHUNK_SIZE) s) ∙ ap (λ (n : ℕ). min CHUNK_SIZE n) (length-drop (i * CHUNK_SIZE) s)) (sizes s is)

same_file : (f g : File) → f.version ≡ g.version → length f.bytes ≡ length g.bytes → chunk_sums (sums_of f) ≡ chunk_sums (sums_of g) → row_chunks f ≡ row_chunks g → f.bytes ≡ g.bytes
same_file f g v n rows chunks =
    let ps : List Bytes = parts CHUNK_SIZE f.bytes in
    let qs : List Bytes = parts CHUNK_SIZE g.bytes in
    let r : rows_from f.version (length f.bytes) 0 ps ≡ rows_from f.version (length f.bytes) 0 qs = rows ∙ (λ i. rows_from (sym v i) (sym n i) 0 qs) in
    let c : with_rows f.version ps ≡ with_rows f.version qs = chunks ∙ ap (λ (x : ℕ). with_rows x qs) (sym v) in
    sym (joined_parts CHUNK_SIZE f.bytes (omega arith)) ∙ ap joined (same_parts f.version (length f.bytes) 0 ps qs (part_lengths f.bytes g.bytes n) r c) ∙ joined_parts CHUNK_SIZE g.bytes (omega arith)

-- ---- all files

above : (n : ℕ) (fs : List File) → AllByRecursion (λ r. n ≤ r.file) (chunk_rows n (map sums_of fs))
above n [] = tt
above n (f ∷ fs) = own (chunk_sums (sums_of f)) (lower (chunk_rows (suc n) (map sums_of fs)) (above (suc n) fs))
  where
    lower : (rs : List ChunkRow) → AllByRecursion (λ r. suc n ≤ r.file) rs → AllByRecursion (λ r. n ≤ r.file) rs
    lower [] h = tt
    lower (r ∷ rs) h = (let low : suc n ≤ r.file = h.0 in omega (arith, low), lower rs h.1)

    own : (cs : List ChunkSum) → AllByRecursion (λ r. n ≤ r.file) (chunk_rows (suc n) (map sums_of fs)) → AllByRecursion (λ r. n ≤ r.file) (map (numbered n) cs ++ chunk_rows (suc n) (map sums_of fs))
    own [] h = h
    own (c ∷ cs) h = (omega arith, own cs h)

-- rows of one file and those of files behind it
rows_cut : (n : ℕ) (xs ys : List ChunkSum) (us ws : List ChunkRow) → AllByRecursion (λ r. suc n ≤ r.file) us → AllByRecursion (λ r. suc n ≤ r.file) ws → map (numbered n) xs ++ us ≡ map (numbered n) ys ++ ws → (xs ≡ ys) × (us ≡ ws)
rows_cut n [] [] us ws p q e = (refl, e)
rows_cut n [] (y ∷ ys) us ws p q e = absurd (other n (numbered n y) (map (numbered n) ys ++ ws) us refl p e)
  where
    other : (n : ℕ) (r : ChunkRow) (rest us : List ChunkRow) → r.file ≡ n → AllByRecursion (λ x. suc n ≤ x.file) us → us ≡ r ∷ rest → ⊥
    other n r rest us file p e = let all = subst (AllByRecursion (λ x. suc n ≤ x.file)) e p in let low : suc n ≤ r.file = all.0 in omega (arith, low, file)
rows_cut n (x ∷ xs) [] us ws p q e = absurd (other n (numbered n x) (map (numbered n) xs ++ us) ws refl q (sym e))
  where
    other : (n : ℕ) (r : ChunkRow) (rest ws : List ChunkRow) → r.file ≡ n → AllByRecursion (λ y. suc n ≤ y.file) ws → ws ≡ r ∷ rest → ⊥
    other n r rest ws file q e = let all = subst (AllByRecursion (λ y. suc n ≤ y.file)) e q in let low : suc n ≤ r.file = all.0 in omega (arith, low, file)
rows_cut n (x ∷ xs) (y ∷ ys) us ws p q e =
    let h = heads (numbered n x) (numbered n y) (map (numbered n) xs ++ us) (map (numbered n) ys ++ ws) e in
    let more = rows_cut n xs ys us ws p q h.1 in
    (cons_same x y xs ys (ap (λ (r : ChunkRow). r.sum) h.0) more.0, more.1)

abbrev pub versions : List File → List ℕ
versions fs = map (λ f. f.version) fs

abbrev pub sizes_of : List File → List ℕ
sizes_of fs = map (λ f. length f.bytes) fs

pub same_contents : (n : ℕ) (fs gs : List File) → versions fs ≡ versions gs → sizes_of fs ≡ sizes_of gs → chunk_rows n (map sums_of fs) ≡ chunk_rows n (map sums_of gs) → chunks_in fs ≡ chunks_in gs → contents fs ≡ contents gs
same_contents n [] [] v z r c = refl
same_contents n [] (g ∷ gs) v z r c = absurd cc
same_contents n (f ∷ fs) [] v z r c = absurd cc
same_contents n (f ∷ fs) (g ∷ gs) v z r c =
    let v2 = heads f.version g.version (versions fs) (versions gs) v in
    let z2 = heads (length f.bytes) (length g.bytes) (sizes_of fs) (sizes_of gs) z in
    let rows = rows_cut n (chunk_sums (sums_of f)) (chunk_sums (sums_of g)) (chunk_rows (suc n) (map sums_of fs)) (chunk_rows (suc n) (map sums_of gs)) (above (suc n) fs) (above (suc n) gs) r in
    let count : length (row_chunks f) ≡ length (row_chunks g) = sym (own_count f) ∙ ap length rows.0 ∙ own_count g in
    let chunks = cut_front (row_chunks f) (chunks_in fs) (row_chunks g) (chunks_in gs) count c in
    cons_same f.bytes g.bytes (contents fs) (contents gs) (same_file f g v2.0 z2.0 rows.0 chunks.0) (same_contents (suc n) fs gs v2.1 z2.1 rows.1 chunks.1)
