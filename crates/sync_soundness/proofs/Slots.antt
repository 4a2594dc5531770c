-- The bytes at slots of a file, from the chunks of rows.
use Rattle.std.proofs.Common.{◌≡◌, ◌≢◌, ℕ, zero, suc, ◌+◌, ◌*◌, ◌<◌, ◌==◌, ◌&&◌, ◌||◌, not, cond, if◌then◌else◌, Bool, true, false, List, [], ◌∷◌, ◌++◌, length, map, find, zip, replicate, Option, Some, None, refl, sym, ap, ◌∙◌, arith}
use Rattle.std.specs.List.{flat_map, AllByRecursion, range_with_len, list_all}
use Rattle.std.specs.Option.{option_map_or}
use Rattle.std.proofs.lemmas.Bool.{eq-eqb, eqb-true, ne_eqb, and_parts, and_from}
use Rattle.format_spec.specs.Bytes.{Bytes}
use Rattle.format_spec.specs.Hashes.{ChunkSum, chunk_hash}
use Rattle.format_spec.specs.declared.limits.TheConstants.{CHUNK_SIZE}
use Rattle.format_spec.proofs.Parts.{joined}
use Rattle.state_spec.specs.Manifest.{ChunkRow, row_of, is_zeros, has_row, chunk_size_at, chunk_offset}
use Rattle.state_spec.specs.ManifestText.{Slot}
use Rattle.soundness.proofs.Texts.{numbered, rows_from, with_rows}
use Rattle.sync_spec.specs.Install.{stands_at, slot_bytes, bytes_by}

abbrev pub Pair : Type 0
Pair = ChunkRow × Bytes

abbrev pub sum_at : ℕ → ℕ → Bytes → ChunkSum
sum_at size i hash = record { size = chunk_size_at size i; offset = chunk_offset i; hash = hash }

abbrev pub slot_in : ℕ → ℕ → ℕ → Slot
slot_in n size i = record { file = n; size = chunk_size_at size i; offset = chunk_offset i }

pub zip_joined : (xs : List ChunkRow) (cs : List Bytes) (ys : List ChunkRow) (ds : List Bytes) → length xs ≡ length cs → zip (xs ++ ys) (cs ++ ds) ≡ zip xs cs ++ zip ys ds
zip_joined [] [] ys ds e = refl
zip_joined [] (c ∷ cs) ys ds e = absurd (omega (arith, e))
zip_joined (x ∷ xs) [] ys ds e = absurd (omega (arith, e))
zip_joined (x ∷ xs) (c ∷ cs) ys ds e = ap (λ (zs : List Pair). (x, c) ∷ zs) (zip_joined xs cs ys ds (omega (arith, e)))

-- ---- zeros

pub zeros_are : (c : Bytes) → is_zeros c ≡ true → c ≡ replicate (length c) 0
unfolding is_zeros
zeros_are [] e = refl
zeros_are (b ∷ bs) e =
    let p = and_parts (b == 0) (list_all (λ x. x == 0) bs) e in
    let first : b ≡ 0 = eqb-true b 0 p.0 in
    let rest = zeros_are bs p.1 in
    λ i. first i ∷ rest i

pub are_zeros : (n : ℕ) → is_zeros (replicate n 0) ≡ true
unfolding is_zeros
are_zeros zero = refl
are_zeros (suc n) = are_zeros n

-- a chunk that has no row is zeros
pub unrowed : (v : ℕ) (c : Bytes) → has_row v c ≡ false → is_zeros c ≡ true
unrowed v c e = by (v == 1) (is_zeros c) e
  where
    by : (a b : Bool) → (a || not b) ≡ false → b ≡ true
    by true b e = absurd cc
    by false true e = refl
    by false false e = absurd cc

-- and in version 2 zeros have no row
pub zeros_unrowed : (v n : ℕ) → v ≢ 1 → has_row v (replicate n 0) ≡ false
zeros_unrowed v n other = ap (λ (b : Bool). b || not (is_zeros (replicate n 0))) (ne_eqb v 1 other) ∙ ap (λ (b : Bool). not b) (are_zeros n)

-- ---- the bytes at slots

abbrev or_zeros : Slot → Option Pair → Bytes
or_zeros s o = option_map_or (λ (x : Pair). x.1) o (replicate s.size 0)

at_first : (s : Slot) (x : Pair) (xs : List Pair) → stands_at s x ≡ true → slot_bytes (x ∷ xs) s ≡ x.1
at_first s x xs e = ap (λ b. or_zeros s (cond b (Some x) (find (stands_at s) xs))) e

not_first : (s : Slot) (x : Pair) (xs : List Pair) → stands_at s x ≡ false → slot_bytes (x ∷ xs) s ≡ slot_bytes xs s
not_first s x xs e = ap (λ b. or_zeros s (cond b (Some x) (find (stands_at s) xs))) e

at_none : (s : Slot) (xs : List Pair) → AllByRecursion (λ x. stands_at s x ≡ false) xs → slot_bytes xs s ≡ replicate s.size 0
at_none s [] h = refl
at_none s (x ∷ xs) h = not_first s x xs h.0 ∙ at_none s xs h.1

pub same_slots : (f g : Slot → Bytes) (at : ℕ → Slot) (is : List ℕ) → ((i : ℕ) → f (at i) ≡ g (at i)) → flat_map f (map at is) ≡ flat_map g (map at is)
same_slots f g at [] same = refl
same_slots f g at (i ∷ is) same = let first = same i in let rest = same_slots f g at is same in λ j. first j ++ rest j

-- ---- rows of other files

abbrev pub AreOthers : ℕ → List ChunkRow → Type 0
AreOthers j rows = AllByRecursion (λ r. (r.file == j) ≡ false) rows

others_before : (j size i : ℕ) (rows : List ChunkRow) (cs : List Bytes) (qs : List Pair) → AreOthers j rows → slot_bytes (zip rows cs ++ qs) (slot_in j size i) ≡ slot_bytes qs (slot_in j size i)
others_before j size i [] cs qs h = refl
others_before j size i (r ∷ rows) [] qs h = refl
others_before j size i (r ∷ rows) (c ∷ cs) qs h =
    not_first (slot_in j size i) (r, c) (zip rows cs ++ qs) (ap (λ b. b && r.sum.offset == chunk_offset i) h.0) ∙ others_before j size i rows cs qs h.1

others_alone : (j size i : ℕ) (rows : List ChunkRow) (cs : List Bytes) → AreOthers j rows → slot_bytes (zip rows cs) (slot_in j size i) ≡ replicate (chunk_size_at size i) 0
others_alone j size i [] cs h = refl
others_alone j size i (r ∷ rows) [] h = refl
others_alone j size i (r ∷ rows) (c ∷ cs) h =
    not_first (slot_in j size i) (r, c) (zip rows cs) (ap (λ b. b && r.sum.offset == chunk_offset i) h.0) ∙ others_alone j size i rows cs h.1

others_behind : (j size i : ℕ) (ps : List Pair) (rows : List ChunkRow) (cs : List Bytes) → AreOthers j rows → slot_bytes (ps ++ zip rows cs) (slot_in j size i) ≡ slot_bytes ps (slot_in j size i)
others_behind j size i [] rows cs h = others_alone j size i rows cs h
others_behind j size i (p ∷ ps) rows cs h = by (stands_at (slot_in j size i) p) (others_behind j size i ps rows cs h)
  where
    by : (b : Bool) → slot_bytes (ps ++ zip rows cs) (slot_in j size i) ≡ slot_bytes ps (slot_in j size i)
        → or_zeros (slot_in j size i) (cond b (Some p) (find (stands_at (slot_in j size i)) (ps ++ zip rows cs))) ≡ or_zeros (slot_in j size i) (cond b (Some p) (find (stands_at (slot_in j size i)) ps))
    by true ih = refl
    by false ih = ih

pub bytes_behind : (j size : ℕ) (rows : List ChunkRow) (cs : List Bytes) (qs : List Pair) → AreOthers j rows → bytes_by (zip rows cs ++ qs) j size ≡ bytes_by qs j size
bytes_behind j size rows cs qs h = same_slots (slot_bytes (zip rows cs ++ qs)) (slot_bytes qs) (slot_in j size) _ (λ i. others_before j size i rows cs qs h)

pub bytes_before : (j size : ℕ) (ps : List Pair) (rows : List ChunkRow) (cs : List Bytes) → AreOthers j rows → bytes_by (ps ++ zip rows cs) j size ≡ bytes_by ps j size
bytes_before j size ps rows cs h = same_slots (slot_bytes (ps ++ zip rows cs)) (slot_bytes ps) (slot_in j size) _ (λ i. others_behind j size i ps rows cs h)

pub file_others : (n j : ℕ) (sums : List ChunkSum) → (n == j) ≡ false → AreOthers j (map (numbered n) sums)
file_others n j [] e = tt
file_others n j (s ∷ sums) e = (e, file_others n j sums e)

-- ---- one file, from its chunks: those numbered from a, of a file of this number and size, which have rows by this version

-- the rows with their chunks
abbrev pub pairs : ℕ → ℕ → ℕ → ℕ → List Bytes → List Pair
pairs v n size a [] = []
pairs v n size a (c ∷ cs) = cond (has_row v c) ((numbered n (sum_at size a (chunk_hash c)), c) ∷ pairs v n size (a + 1) cs) (pairs v n size (a + 1) cs)

pub sums_cons : (v size a : ℕ) (c : Bytes) (cs : List Bytes) → rows_from v size a (c ∷ cs) ≡ cond (has_row v c) (sum_at size a (chunk_hash c) ∷ rows_from v size (a + 1) cs) (rows_from v size (a + 1) cs)
sums_cons v size a c cs = by (has_row v c)
  where
    by : (b : Bool) → row_of size (a, if b then Some (chunk_hash c) else None) ++ rows_from v size (a + 1) cs ≡ cond b (sum_at size a (chunk_hash c) ∷ rows_from v size (a + 1) cs) (rows_from v size (a + 1) cs)
    by true = refl
    by false = refl

pub paired : (v n size a : ℕ) (cs : List Bytes) → zip (map (numbered n) (rows_from v size a cs)) (with_rows v cs) ≡ pairs v n size a cs
paired v n size a [] = refl
paired v n size a (c ∷ cs) = ap (λ (xs : List ChunkSum). zip (map (numbered n) xs) (with_rows v (c ∷ cs))) (sums_cons v size a c cs) ∙ by (has_row v c) (paired v n size (a + 1) cs)
  where
    by : (b : Bool) → zip (map (numbered n) (rows_from v size (a + 1) cs)) (with_rows v cs) ≡ pairs v n size (a + 1) cs
        → zip (map (numbered n) (cond b (sum_at size a (chunk_hash c) ∷ rows_from v size (a + 1) cs) (rows_from v size (a + 1) cs))) (cond b (c ∷ with_rows v cs) (with_rows v cs))
        ≡ cond b ((numbered n (sum_at size a (chunk_hash c)), c) ∷ pairs v n size (a + 1) cs) (pairs v n size (a + 1) cs)
    by true ih = ap (λ (ps : List Pair). (numbered n (sum_at size a (chunk_hash c)), c) ∷ ps) ih
    by false ih = ih

-- each chunk has the size of its place
abbrev pub Sized : ℕ → ℕ → List Bytes → Type 0
Sized size a [] = Unit {0}
Sized size a (c ∷ cs) = (length c ≡ chunk_size_at size a) × Sized size (a + 1) cs

and_no : (a b : Bool) → b ≡ false → (a && b) ≡ false
and_no true b e = e
and_no false b e = refl

-- a row of another chunk of the file
apart : (n size a b : ℕ) (hash c : Bytes) → a ≢ b → stands_at (slot_in n size a) (numbered n (sum_at size b hash), c) ≡ false
apart n size a b hash c differ = and_no (n == n) (b * CHUNK_SIZE == a * CHUNK_SIZE) (ne_eqb (b * CHUNK_SIZE) (a * CHUNK_SIZE) (λ e. differ (omega (arith, e))))

later_apart : (v n size a b : ℕ) (cs : List Bytes) → a < b → AllByRecursion (λ x. stands_at (slot_in n size a) x ≡ false) (pairs v n size b cs)
later_apart v n size a b [] below = tt
later_apart v n size a b (c ∷ cs) below = by (has_row v c) (later_apart v n size a (b + 1) cs (omega (arith, below)))
  where
    by : (t : Bool) → AllByRecursion (λ x. stands_at (slot_in n size a) x ≡ false) (pairs v n size (b + 1) cs)
        → AllByRecursion (λ x. stands_at (slot_in n size a) x ≡ false) (cond t ((numbered n (sum_at size b (chunk_hash c)), c) ∷ pairs v n size (b + 1) cs) (pairs v n size (b + 1) cs))
    by true ih = (apart n size a b (chunk_hash c) c (λ e. omega (arith, e, below)), ih)
    by false ih = ih

-- a row says nothing of later slots
past_first : (n size a b k : ℕ) (hash c : Bytes) (ps : List Pair) → a < b
    → flat_map (slot_bytes ((numbered n (sum_at size a hash), c) ∷ ps)) (map (slot_in n size) (range_with_len b k)) ≡ flat_map (slot_bytes ps) (map (slot_in n size) (range_with_len b k))
past_first n size a b zero hash c ps below = refl
past_first n size a b (suc k) hash c ps below =
    let first = not_first (slot_in n size b) (numbered n (sum_at size a hash), c) ps (apart n size b a hash c (λ e. omega (arith, e, below))) in
    let rest = past_first n size a (b + 1) k hash c ps (omega (arith, below)) in
    λ i. first i ++ rest i

-- the slots give the chunks back, those that have no row as zeros
pub given_back : (v n size a : ℕ) (cs : List Bytes) → Sized size a cs → flat_map (slot_bytes (pairs v n size a cs)) (map (slot_in n size) (range_with_len a (length cs))) ≡ joined cs
given_back v n size a [] h = refl
given_back v n size a (c ∷ cs) h = by (has_row v c) refl (given_back v n size (a + 1) cs h.1)
  where
    rest : List Pair
    rest = pairs v n size (a + 1) cs

    slots : List Slot
    slots = map (slot_in n size) (range_with_len (a + 1) (length cs))

    here : stands_at (slot_in n size a) (numbered n (sum_at size a (chunk_hash c)), c) ≡ true
    here = and_from (n == n) (a * CHUNK_SIZE == a * CHUNK_SIZE) (eq-eqb n n refl) (eq-eqb (a * CHUNK_SIZE) (a * CHUNK_SIZE) refl)

    no_row : has_row v c ≡ false → replicate (chunk_size_at size a) 0 ≡ c
    no_row e = ap (λ (k : ℕ). replicate k 0) (sym h.0) ∙ sym (zeros_are c (unrowed v c e))

    by : (b : Bool) → has_row v c ≡ b → flat_map (slot_bytes rest) slots ≡ joined cs
        → slot_bytes (cond b ((numbered n (sum_at size a (chunk_hash c)), c) ∷ rest) rest) (slot_in n size a)
        ++ flat_map (slot_bytes (cond b ((numbered n (sum_at size a (chunk_hash c)), c) ∷ rest) rest)) slots
        ≡ c ++ joined cs
    by true e ih =
        let first = at_first (slot_in n size a) (numbered n (sum_at size a (chunk_hash c)), c) rest here in
        let more = past_first n size a (a + 1) (length cs) (chunk_hash c) c rest (omega arith) ∙ ih in
        λ i. first i ++ more i
    by false e ih =
        let first = at_none (slot_in n size a) rest (later_apart v n size a (a + 1) cs (omega arith)) ∙ no_row e in
        λ i. first i ++ ih i
