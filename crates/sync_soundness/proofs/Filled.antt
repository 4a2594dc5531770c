-- Chunks that are right by rows are those of a file that have rows, where the others are zeros.
use Rattle.std.proofs.Common.{◌≡◌, ◌≢◌, ◌⊎◌, ℕ, zero, suc, ◌+◌, ◌<◌, ◌≤◌, ◌==◌, min, cond, if◌then◌else◌, Bool, true, false, List, [], ◌∷◌, ◌++◌, length, map, drop, replicate, refl, sym, ap, ◌∙◌, subst, inl, inr, arith, append_assoc}
use Rattle.std.specs.List.{AllByRecursion, range_with_len}
use Rattle.std.proofs.lemmas.Bool.{eq-eqb, ne_eqb}
use Rattle.std.proofs.lemmas.Bool.Decides.{eqb_tells}
use Rattle.std.proofs.lemmas.List.{length-replicate, take-append-drop, length-take}
use Rattle.format_spec.specs.Bytes.{Bytes}
use Rattle.format_spec.specs.Hashes.{chunk_hash}
use Rattle.format_spec.proofs.Cuts.{heads}
use Rattle.format_spec.proofs.Lists.{all_join}
use Rattle.state_spec.specs.Manifest.{Manifest, FileRow, ChunkRow, has_row, chunk_size_at, chunk_offset}
use Rattle.state_spec.specs.ManifestText.{Slot, slots, slots_of, slot_of, memory_rows, memory_slots, system_slots, AreSome, HaveRows}
use Rattle.sync_spec.specs.Rows.{system_number, file_version}
use Rattle.soundness.proofs.Texts.{numbered, rows_from, with_rows}
use Rattle.sync_soundness.proofs.Slots.{sum_at, slot_in, zeros_unrowed, sums_cons, Sized}
use Rattle.sync_soundness.proofs.Files.{other}

-- ---- which slots have rows

-- each of these slots in turn has a row, or none, which isn't so in version 1
abbrev pub InTurn : ℕ → List Slot → List Slot → Type 0
InTurn v xs [] = xs ≡ []
InTurn v xs (s ∷ ss) = ((ys : List Slot) × (xs ≡ s ∷ ys) × InTurn v ys ss) ⊎ ((v ≢ 1) × InTurn v xs ss)

turn_itself : (v : ℕ) (ss : List Slot) → InTurn v ss ss
turn_itself v [] = refl
turn_itself v (s ∷ ss) = inl (ss, refl, turn_itself v ss)

turn_none : (v : ℕ) → v ≢ 1 → (ss : List Slot) → InTurn v [] ss
turn_none v other [] = refl
turn_none v other (s ∷ ss) = inr (other, turn_none v other ss)

turn_behind : (v : ℕ) → v ≢ 1 → (x : Slot) (xs front rest : List Slot) → InTurn v xs rest → InTurn v (x ∷ xs) (front ++ x ∷ rest)
turn_behind v other x xs [] rest h = inl (xs, refl, h)
turn_behind v other x xs (s ∷ front) rest h = inr (other, turn_behind v other x xs front rest h)

turn_some : (v : ℕ) → v ≢ 1 → (xs ss : List Slot) → AreSome xs ss → InTurn v xs ss
turn_some v other [] ss h = turn_none v other ss
turn_some v other (x ∷ xs) ss h = subst (InTurn v (x ∷ xs)) (sym h.2) (turn_behind v other x xs h.0 h.1 (turn_some v other xs h.1 h.3))

abbrev Cut : ℕ → List Slot → List Slot → List Slot → Type 0
Cut v xs ss ts = (a : List Slot) × (b : List Slot) × (xs ≡ a ++ b) × InTurn v a ss × InTurn v b ts

turn_cut : (v : ℕ) (xs ss ts : List Slot) → InTurn v xs (ss ++ ts) → Cut v xs ss ts
turn_cut v xs [] ts h = ([], xs, refl, refl, h)
turn_cut v xs (s ∷ ss) ts (inl h) =
    let c = turn_cut v h.0 ss ts h.2 in
    (s ∷ c.0, c.1, h.1 ∙ ap (λ (zs : List Slot). s ∷ zs) c.2, inl (c.0, refl, c.3), c.4)
turn_cut v xs (s ∷ ss) ts (inr h) =
    let c = turn_cut v xs ss ts h.1 in
    (c.0, c.1, c.2, inr (h.0, c.3), c.4)

turn_all : (P : Slot → Type 0) (v : ℕ) (xs ss : List Slot) → InTurn v xs ss → AllByRecursion P ss → AllByRecursion P xs
turn_all P v xs [] h all = subst (AllByRecursion P) (sym h) tt
turn_all P v xs (s ∷ ss) (inl h) all = subst (AllByRecursion P) (sym h.1) (all.0, turn_all P v h.0 ss h.2 all.1)
turn_all P v xs (s ∷ ss) (inr h) all = turn_all P v xs ss h.1 all.1

-- ---- which rows files have: each by its version

abbrev pub RowsOf : (ℕ → ℕ) → ℕ → List FileRow → List Slot → Type 0
RowsOf v n [] xs = xs ≡ []
RowsOf v n (f ∷ fs) xs = (a : List Slot) × (b : List Slot) × (xs ≡ a ++ b) × InTurn (v n) a (slots_of n f.size) × RowsOf v (suc n) fs b

each_row : (v : ℕ → ℕ) (n : ℕ) (fs : List FileRow) → RowsOf v n fs (slots n fs)
each_row v n [] = refl
each_row v n (f ∷ fs) = (slots_of n f.size, slots (suc n) fs, refl, turn_itself (v n) (slots_of n f.size), each_row v (suc n) fs)

some_rows : (v : ℕ → ℕ) (w n : ℕ) (fs ends : List FileRow) (xs ys : List Slot) → ((i : ℕ) → n ≤ i → i < n + length fs → v i ≡ w) → InTurn w xs (slots n fs) → RowsOf v (n + length fs) ends ys → RowsOf v n (fs ++ ends) (xs ++ ys)
some_rows v w n [] ends xs ys is h rest =
    let here : n + 0 ≡ n = omega arith in
    subst (λ (zs : List Slot). RowsOf v n ends (zs ++ ys)) (sym h) (subst (λ (k : ℕ). RowsOf v k ends ys) here rest)
some_rows v w n (f ∷ fs) ends xs ys is h rest =
    let c = turn_cut w xs (slots_of n f.size) (slots (suc n) fs) h in
    let next : n + suc (length fs) ≡ suc n + length fs = omega arith in
    let mine : InTurn (v n) c.0 (slots_of n f.size) = subst (λ (k : ℕ). InTurn k c.0 (slots_of n f.size)) (sym (is n (omega arith) (omega arith))) c.3 in
    let more = some_rows v w (suc n) fs ends c.1 ys (λ i low high. is i (omega (arith, low)) (omega (arith, high))) c.4 (subst (λ (k : ℕ). RowsOf v k ends ys) next rest) in
    (c.0, c.1 ++ ys, ap (λ (zs : List Slot). zs ++ ys) c.2 ∙ append_assoc c.0 c.1 ys, mine, more)

pub memory_version : (m : Manifest) (i : ℕ) → i < system_number m → file_version m i ≡ m.version
memory_version m i below = ap (λ (b : Bool). if b then 1 else m.version) (ne_eqb i (system_number m) (λ e. omega (arith, e, below)))

pub system_version : (m : Manifest) → file_version m (system_number m) ≡ 1
system_version m = ap (λ (b : Bool). if b then 1 else m.version) (eq-eqb (system_number m) (system_number m) refl)

-- those of a manifest
pub rows_of : (m : Manifest) (rows : List Slot) → HaveRows m.version m.files rows → RowsOf (file_version m) 0 m.files rows
rows_of m rows h = by (eqb_tells m.version 1)
  where
    n : ℕ
    n = system_number m

    long : length (memory_rows m.files) ≡ n
    long = length-take n m.files ∙ (let low : min n (length m.files) ≡ n = omega arith in low)

    whole : InTurn m.version h.memories (memory_slots m.files) → RowsOf (file_version m) 0 m.files rows
    whole turn =
        let at : n ≡ 0 + length (memory_rows m.files) = omega (arith, long) in
        let ends : RowsOf (file_version m) (0 + length (memory_rows m.files)) (drop n m.files) (system_slots m.files) =
        subst (λ (k : ℕ). RowsOf (file_version m) k (drop n m.files) (system_slots m.files)) at (each_row (file_version m) n (drop n m.files)) in
        let all = some_rows (file_version m) m.version 0 (memory_rows m.files) (drop n m.files) h.memories (system_slots m.files) (λ i low high. memory_version m i (omega (arith, high, long))) turn ends in
        subst (RowsOf (file_version m) 0 m.files) (sym h.all) (subst (λ (fs : List FileRow). RowsOf (file_version m) 0 fs (h.memories ++ system_slots m.files)) (take-append-drop n m.files) all)

    by : ((m.version == 1) ≡ true) × (m.version ≡ 1) ⊎ ((m.version == 1) ≡ false) × (m.version ≢ 1) → RowsOf (file_version m) 0 m.files rows
    by (inl one) = whole (subst (λ (xs : List Slot). InTurn m.version xs (memory_slots m.files)) (sym (h.each_first one.1)) (turn_itself m.version (memory_slots m.files)))
    by (inr two) = whole (turn_some m.version two.1 h.memories (memory_slots m.files) h.some)

-- ---- rows with their chunks

-- each chunk has the size and the hash of its row, and by the version of its file it has one
abbrev pub Fit : (ℕ → ℕ) → List ChunkRow → List Bytes → Type 0
Fit v [] [] = Unit {0}
Fit v (r ∷ rs) (c ∷ cs) = (length c ≡ r.sum.size) × (chunk_hash c ≡ r.sum.hash) × (has_row (v r.file) c ≡ true) × Fit v rs cs
Fit v rs cs = ⊥

pub cut_fit : (v : ℕ → ℕ) (xs ys : List ChunkRow) (cs : List Bytes) → Fit v (xs ++ ys) cs → (ps : List Bytes) × (qs : List Bytes) × (cs ≡ ps ++ qs) × Fit v xs ps × Fit v ys qs
cut_fit v [] ys cs h = ([], cs, refl, tt, h)
cut_fit v (x ∷ xs) ys [] h = absurd h
cut_fit v (x ∷ xs) ys (c ∷ cs) h =
    let k = cut_fit v xs ys cs h.3 in
    (c ∷ k.0, k.1, ap (λ (zs : List Bytes). c ∷ zs) k.2, (h.0, h.1, h.2, k.3), k.4)

pub fit_long : (v : ℕ → ℕ) (xs : List ChunkRow) (ps : List Bytes) → Fit v xs ps → length xs ≡ length ps
fit_long v [] [] h = refl
fit_long v [] (a ∷ ps) h = absurd h
fit_long v (x ∷ xs) [] h = absurd h
fit_long v (x ∷ xs) (a ∷ ps) h = ap suc (fit_long v xs ps h.3)

-- the chunks of a file, numbered from a, of which these have rows
pub record Filled (v n size a k : ℕ) (xs : List ChunkRow) (ps : List Bytes) : Type 0 where
  pub chunks : List Bytes
  pub many : length chunks ≡ k
  pub sized : Sized size a chunks
  pub rows : map (numbered n) (rows_from v size a chunks) ≡ xs
  pub are : with_rows v chunks ≡ ps

more_sums : (v n size a : ℕ) (c : Bytes) (cs : List Bytes) (b : Bool) → has_row v c ≡ b
    → map (numbered n) (rows_from v size a (c ∷ cs)) ≡ cond b (numbered n (sum_at size a (chunk_hash c)) ∷ map (numbered n) (rows_from v size (a + 1) cs)) (map (numbered n) (rows_from v size (a + 1) cs))
more_sums v n size a c cs b is = ap (map (numbered n)) (sums_cons v size a c cs ∙ ap (λ (t : Bool). cond t (sum_at size a (chunk_hash c) ∷ rows_from v size (a + 1) cs) (rows_from v size (a + 1) cs)) is) ∙ by b
  where
    by : (b : Bool) → map (numbered n) (cond b (sum_at size a (chunk_hash c) ∷ rows_from v size (a + 1) cs) (rows_from v size (a + 1) cs))
        ≡ cond b (numbered n (sum_at size a (chunk_hash c)) ∷ map (numbered n) (rows_from v size (a + 1) cs)) (map (numbered n) (rows_from v size (a + 1) cs))
    by true = refl
    by false = refl

pub filled : (v : ℕ → ℕ) (n size k a : ℕ) (xs : List ChunkRow) (ps : List Bytes) → InTurn (v n) (map slot_of xs) (map (slot_in n size) (range_with_len a k)) → Fit v xs ps → Filled (v n) n size a k xs ps
filled v n size zero a [] [] h fit = record { chunks = []; many = refl; sized = tt; rows = refl; are = refl }
filled v n size zero a [] (c ∷ ps) h fit = absurd fit
filled v n size zero a (r ∷ xs) ps h fit = absurd cc
filled v n size (suc k) a [] ps (inl h) fit = absurd (none h.0 h.1)
  where
    none : (ys : List Slot) → [] ≡ slot_in n size a ∷ ys → ⊥
    none ys e = cc
filled v n size (suc k) a (r ∷ xs) [] (inl h) fit = absurd fit
filled v n size (suc k) a (r ∷ xs) (c ∷ ps) (inl h) fit =
    let s = heads (slot_of r) (slot_in n size a) (map slot_of xs) h.0 h.1 in
    let file : r.file ≡ n = ap (λ (x : Slot). x.file) s.0 in
    let long : r.sum.size ≡ chunk_size_at size a = ap (λ (x : Slot). x.size) s.0 in
    let place : r.sum.offset ≡ chunk_offset a = ap (λ (x : Slot). x.offset) s.0 in
    let rest = filled v n size k (a + 1) xs ps (subst (λ (ss : List Slot). InTurn (v n) ss (map (slot_in n size) (range_with_len (a + 1) k))) (sym s.1) h.2) fit.3 in
    let has : has_row (v n) c ≡ true = subst (λ (j : ℕ). has_row (v j) c ≡ true) file fit.2 in
    let row : numbered n (sum_at size a (chunk_hash c)) ≡ r = λ i. record { file = sym file i; sum = record { size = sym long i; offset = sym place i; hash = fit.1 i } } in
    record {
      chunks = c ∷ rest.chunks;
      many = ap suc rest.many;
      sized = (fit.0 ∙ long, rest.sized);
      rows = more_sums (v n) n size a c rest.chunks true has ∙ (λ i. row i ∷ rest.rows i);
      are = ap (λ b. cond b (c ∷ with_rows (v n) rest.chunks) (with_rows (v n) rest.chunks)) has ∙ ap (λ (cs : List Bytes). c ∷ cs) rest.are;
    }
filled v n size (suc k) a xs ps (inr h) fit =
    let c : Bytes = replicate (chunk_size_at size a) 0 in
    let none : has_row (v n) c ≡ false = zeros_unrowed (v n) (chunk_size_at size a) h.0 in
    let rest = filled v n size k (a + 1) xs ps h.1 fit in
    record {
      chunks = c ∷ rest.chunks;
      many = ap suc rest.many;
      sized = (length-replicate (chunk_size_at size a) 0, rest.sized);
      rows = more_sums (v n) n size a c rest.chunks false none ∙ rest.rows;
      are = ap (λ b. cond b (c ∷ with_rows (v n) rest.chunks) (with_rows (v n) rest.chunks)) none ∙ rest.are;
    }

-- rows behind are of later files
later_slots : (j m size : ℕ) (is : List ℕ) → (m == j) ≡ false → AllByRecursion (λ s. (s.file == j) ≡ false) (map (slot_in m size) is)
later_slots j m size [] e = tt
later_slots j m size (i ∷ is) e = (e, later_slots j m size is e)

pub rows_behind : (v : ℕ → ℕ) (j m : ℕ) (fs : List FileRow) (xs : List Slot) → j < m → RowsOf v m fs xs → AllByRecursion (λ s. (s.file == j) ≡ false) xs
rows_behind v j m [] xs below h = subst (AllByRecursion (λ s. (s.file == j) ≡ false)) (sym h) tt
rows_behind v j m (f ∷ fs) xs below h =
    subst (AllByRecursion (λ s. (s.file == j) ≡ false)) (sym h.2)
    (all_join (λ (s : Slot). (s.file == j) ≡ false) h.0 h.1
    (turn_all (λ (s : Slot). (s.file == j) ≡ false) (v m) h.0 (slots_of m f.size) h.3 (later_slots j m f.size _ (other m j below)))
    (rows_behind v j (suc m) fs h.1 (omega (arith, below)) h.4))
