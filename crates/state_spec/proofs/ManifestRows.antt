-- The rows of memories behind one another are some of the memories' slots, in order.
use Rattle.std.proofs.Common.{◌≡◌, ◌⊎◌, inl, inr, ℕ, zero, suc, ◌+◌, ◌-◌, ◌*◌, ◌/◌, ◌^◌, ◌<◌, ◌≤◌, ◌==◌, ◌&&◌, ◌||◌, not, min, Bool, true, false, List, [], ◌∷◌, ◌++◌, map, length, Option, Some, None, refl, sym, ap, subst, ◌∙◌, eq-eqb, eqb, arith, append_assoc}
use Rattle.std.specs.Prelude.{slice_get, nat_le, nat_lt}
use Rattle.std.specs.List.{AllByRecursion, range_with_len, last_or, list_any}
use Rattle.std.proofs.lemmas.Bool.{and_parts, and_from, eqb-true, leb-true, le-leb, ltb-true, lt-ltb, cases_Bool}
use Rattle.std.proofs.lemmas.List.{length-append}
use Rattle.std.proofs.lemmas.Option.{same_Some, slice_get_within}
use Rattle.format_spec.specs.declared.limits.TheConstants.{CHUNK_SIZE}
use Rattle.format_spec.specs.Bytes.{part_count}
use Rattle.format_spec.proofs.Readings.{FitInTurn}
use Rattle.format_spec.proofs.Lists.{all_join, all_parts, last_or-push, cases_eqb}
use Rattle.state_spec.specs.Manifest.{FileRow, ChunkRow, chunk_size_at, chunk_offset}
use Rattle.state_spec.specs.ManifestText.{Slot, slots_of, slots, slot_of, AreSome, is_row_file, is_row_size, is_chunk_at, is_further, is_not_below}
use Rattle.state_spec.proofs.ManifestReading.{RowFits, memory_rules, MemoryRowFits}
use Rattle.state_spec.proofs.ManifestSlots.{Hash32, slot_in}

-- ---- some of a list

pub some_itself : {X : Type 0} (xs : List X) → AreSome xs xs
some_itself [] = tt
some_itself (x ∷ xs) = ([], xs, refl, some_itself xs)

pub some_more : {X : Type 0} (xs ys : List X) (y : X) → AreSome xs ys → AreSome xs (y ∷ ys)
some_more [] ys y h = tt
some_more {X = X} (x ∷ xs) ys y h = (y ∷ h.0, h.1, ap (λ (l : List X). y ∷ l) h.2, h.3)

pub some_all : {X : Type 0} (P : X → Type 0) (xs ys : List X) → AreSome xs ys → AllByRecursion P ys → AllByRecursion P xs
some_all P [] ys h all = tt
some_all P (x ∷ xs) ys h all =
    let p = all_parts P h.0 (x ∷ h.1) (subst (AllByRecursion P) h.2 all) in
    (p.1.0, some_all P xs h.1 h.3 p.1.1)

pub some_length : {X : Type 0} (xs ys : List X) → AreSome xs ys → length xs ≤ length ys
some_length [] ys h = omega arith
some_length (x ∷ xs) ys h =
    let all = ap length h.2 in
    let more = some_length xs h.1 h.3 in
    omega (arith, all, more, length-append h.0 (x ∷ h.1))

some_behind : {X : Type 0} (xs ys zs : List X) → AreSome xs zs → AreSome xs (ys ++ zs)
some_behind xs [] zs h = h
some_behind xs (y ∷ ys) zs h = some_more xs (ys ++ zs) y (some_behind xs ys zs h)

pub some_join : {X : Type 0} (xs ys zs ws : List X) → AreSome xs ys → AreSome zs ws → AreSome (xs ++ zs) (ys ++ ws)
some_join [] ys zs ws h g = some_behind zs ys ws g
some_join {X = X} (x ∷ xs) ys zs ws h g = (h.0, h.1 ++ ws, ap (λ (l : List X). l ++ ws) h.2 ∙ append_assoc h.0 (x ∷ h.1) ws, some_join xs h.1 zs ws h.3 g)

-- ---- slots ascend

-- the number of a slot among all that there may be
abbrev pub key : Slot → ℕ
key s = s.file * 4096 + s.offset / CHUNK_SIZE

-- they ascend, from this number on
abbrev pub Above : ℕ → List Slot → Type 0
Above k [] = Unit {0}
Above k (s ∷ ss) = (k ≤ key s) × Above (suc (key s)) ss

above_lower : (k j : ℕ) (ss : List Slot) → j ≤ k → Above k ss → Above j ss
above_lower k j [] le h = tt
above_lower k j (s ∷ ss) le h = let low : k ≤ key s = h.0 in (omega (arith, low, le), h.1)

above_behind : (k : ℕ) (front : List Slot) (s : Slot) (rest : List Slot) → Above k (front ++ s ∷ rest) → (k ≤ key s) × Above (suc (key s)) rest
above_behind k [] s rest h = h
above_behind k (f ∷ front) s rest h =
    let low : k ≤ key f = h.0 in
    let more = above_behind (suc (key f)) front s rest h.1 in
    let next : suc (key f) ≤ key s = more.0 in
    (omega (arith, low, next), more.1)

pub some_above : (xs ys : List Slot) (k : ℕ) → AreSome xs ys → Above k ys → Above k xs
some_above [] ys k h above = tt
some_above (x ∷ xs) ys k h above =
    let b = above_behind k h.0 x h.1 (subst (Above k) h.2 above) in
    (b.0, some_above xs h.1 (suc (key x)) h.3 b.1)

-- ---- one of them

abbrev pub In : Slot → List Slot → Type 0
In x [] = ⊥
In x (y ∷ ys) = (x ≡ y) ⊎ In x ys

abbrev AllIn : List Slot → List Slot → Type 0
AllIn xs ys = AllByRecursion (λ x. In x ys) xs

in_left : (x : Slot) (xs ys : List Slot) → In x xs → In x (xs ++ ys)
in_left x [] ys h = absurd h
in_left x (y ∷ xs) ys h = elim h [ inl e ↦ inl e | inr more ↦ inr (in_left x xs ys more) ]

in_right : (x : Slot) (xs ys : List Slot) → In x ys → In x (xs ++ ys)
in_right x [] ys h = h
in_right x (y ∷ xs) ys h = inr (in_right x xs ys h)

stripped : (xs : List Slot) (k : ℕ) (y : Slot) (ys : List Slot) → key y < k → Above k xs → AllIn xs (y ∷ ys) → AllIn xs ys
stripped [] k y ys lt above all = tt
stripped (x ∷ xs) k y ys lt above all =
    let low : k ≤ key x = above.0 in
    let here : In x ys = elim all.0 [ inl e ↦ absurd (let same : key x ≡ key y = ap key e in omega (arith, same, low, lt)) | inr more ↦ more ] in
    (here, stripped xs (suc (key x)) y ys (omega (arith, low, lt)) above.1 all.1)

pub some_of : (ys xs : List Slot) (k : ℕ) → Above k ys → Above k xs → AllIn xs ys → AreSome xs ys
some_of [] [] k above ascend all = tt
some_of [] (x ∷ xs) k above ascend all = absurd all.0
some_of (y ∷ ys) [] k above ascend all = tt
some_of (y ∷ ys) (x ∷ xs) k above ascend all = elim all.0 [
  | inl e ↦
      let same : key x ≡ key y = ap key e in
      let behind = above_lower (suc (key x)) (suc (key y)) xs (omega (arith, same)) ascend.1 in
      ([], ys, ap (λ (s : Slot). s ∷ ys) (sym e), some_of ys xs (suc (key y)) above.1 behind (stripped xs (suc (key y)) y ys (omega arith) behind all.1))
  | inr more ↦
      let later : key y < key x = in_above x ys (suc (key y)) above.1 more in
      let ascend2 : Above (suc (key y)) (x ∷ xs) = (later, ascend.1) in
      some_more (x ∷ xs) ys y (some_of ys (x ∷ xs) (suc (key y)) above.1 ascend2 (more, stripped xs (suc (key x)) y ys (omega (arith, later)) ascend.1 all.1))
]
  where
    in_above : (z : Slot) (zs : List Slot) (j : ℕ) → Above j zs → In z zs → j ≤ key z
    in_above z [] j a h = absurd h
    in_above z (w ∷ zs) j a h =
        let low : j ≤ key w = a.0 in
        elim h [
          | inl e ↦ let same : key z ≡ key w = ap key e in omega (arith, same, low)
          | inr more ↦ let next : suc (key w) ≤ key z = in_above z zs (suc (key w)) a.1 more in omega (arith, low, next)
        ]

-- ---- the slots of files

abbrev pub Small : FileRow → Type 0
Small r = r.size ≤ 2 ^ 31

range_above : (n size k a : ℕ) (rest : List Slot) → size ≤ 2 ^ 31 → a + k ≤ part_count CHUNK_SIZE size → Above (suc n * 4096) rest → Above (n * 4096 + a) (map (slot_in n size) (range_with_len a k) ++ rest)
range_above n size zero a rest small le above = above_lower (suc n * 4096) (n * 4096 + a) rest (omega arith) above
range_above n size (suc k) a rest small le above =
    let here : key (slot_in n size a) ≡ n * 4096 + a = omega arith in
    (omega (arith, here), above_lower (n * 4096 + (a + 1)) (suc (key (slot_in n size a))) _ (omega (arith, here)) (range_above n size k (a + 1) rest small (omega arith) above))

pub slots_above : (fs : List FileRow) (n : ℕ) → AllByRecursion Small fs → Above (n * 4096) (slots n fs)
slots_above [] n small = tt
slots_above (f ∷ fs) n small = above_lower (n * 4096 + 0) (n * 4096) _ (omega arith) (range_above n f.size (part_count CHUNK_SIZE f.size) 0 (slots (suc n) fs) small.0 (omega arith) (slots_above fs (suc n) small.1))

-- a slot of one of these files, which have the numbers from n on
pub record IsSlot (n : ℕ) (fs : List FileRow) (s : Slot) : Type 0 where
  pub place : ℕ
  pub file : s.file ≡ n + place
  pub row : FileRow
  pub there : slice_get fs place ≡ Some row
  pub index : ℕ
  pub within : index < part_count CHUNK_SIZE row.size
  pub size : s.size ≡ chunk_size_at row.size index
  pub offset : s.offset ≡ chunk_offset index

in_range : (n size k a i : ℕ) → a ≤ i → i < a + k → In (slot_in n size i) (map (slot_in n size) (range_with_len a k))
in_range n size zero a i low high = absurd (omega arith)
in_range n size (suc k) a i low high = elim (cases_eqb a i) [
  | inl same ↦ inl (ap (slot_in n size) (sym same.0))
  | inr other ↦ inr (in_range n size k (a + 1) i (let apart = other.0 in above_one a i low apart) (omega arith))
]
  where
    above_one : (a i : ℕ) → a ≤ i → ((a ≡ i) → ⊥) → a + 1 ≤ i
    above_one a i le ne = omega (arith, le, ne)

in_slots : (fs : List FileRow) (n : ℕ) (s : Slot) → IsSlot n fs s → In s (slots n fs)
in_slots [] n s h = absurd (none h.place h.there)
  where
    none : (k : ℕ) → slice_get [] k ≡ Some h.row → ⊥
    none zero e = cc
    none (suc k) e = cc
in_slots (f ∷ fs) n s h = go (λ k t. in_slots fs (suc n) s t) h.place refl
  where
    go : (ℕ → IsSlot (suc n) fs s → In s (slots (suc n) fs)) → (k : ℕ) → h.place ≡ k → In s (slots n (f ∷ fs))
    go behind zero e =
        let row : f ≡ h.row = same_Some f h.row (ap (slice_get (f ∷ fs)) (sym e) ∙ h.there) in
        let within : h.index < part_count CHUNK_SIZE f.size = subst (λ (r : FileRow). h.index < part_count CHUNK_SIZE r.size) (sym row) h.within in
        let file : s.file ≡ n = h.file ∙ omega (arith, e) in
        let size : s.size ≡ chunk_size_at f.size h.index = h.size ∙ ap (λ (r : FileRow). chunk_size_at r.size h.index) (sym row) in
        let same : s ≡ slot_in n f.size h.index = λ i. record { file = file i; size = size i; offset = h.offset i } in
        in_left s (slots_of n f.size) (slots (suc n) fs) (subst (λ (x : Slot). In x (slots_of n f.size)) (sym same) (in_range n f.size (part_count CHUNK_SIZE f.size) 0 h.index (omega arith) (omega (arith, within))))
    go behind (suc k) e =
        in_right s (slots_of n f.size) (slots (suc n) fs)
        (behind k (record { place = k; file = h.file ∙ omega (arith, e); row = h.row; there = ap (slice_get (f ∷ fs)) (sym e) ∙ h.there; index = h.index; within = h.within; size = h.size; offset = h.offset }))

range_known : (fs : List FileRow) (n place : ℕ) (row : FileRow) → slice_get fs place ≡ Some row → (k a : ℕ) → a + k ≤ part_count CHUNK_SIZE row.size → AllByRecursion (IsSlot n fs) (map (slot_in (n + place) row.size) (range_with_len a k))
range_known fs n place row there zero a le = tt
range_known fs n place row there (suc k) a le =
    (record { place = place; file = refl; row = row; there = there; index = a; within = omega arith; size = refl; offset = refl }, range_known fs n place row there k (a + 1) (omega arith))

known_behind : (f : FileRow) (fs : List FileRow) (n : ℕ) (ss : List Slot) → AllByRecursion (IsSlot (suc n) fs) ss → AllByRecursion (IsSlot n (f ∷ fs)) ss
known_behind f fs n [] h = tt
known_behind f fs n (s ∷ ss) h =
    let k = h.0.file in
    (record { place = suc h.0.place; file = omega (arith, k); row = h.0.row; there = h.0.there; index = h.0.index; within = h.0.within; size = h.0.size; offset = h.0.offset }, known_behind f fs n ss h.1)

pub slots_known : (fs : List FileRow) (n : ℕ) → AllByRecursion (IsSlot n fs) (slots n fs)
slots_known [] n = tt
slots_known (f ∷ fs) n =
    let here = range_known (f ∷ fs) n 0 f refl (part_count CHUNK_SIZE f.size) 0 (omega arith) in
    let start : n + 0 ≡ n = omega arith in
    all_join (IsSlot n (f ∷ fs)) (slots_of n f.size) (slots (suc n) fs) (subst (λ (k : ℕ). AllByRecursion (IsSlot n (f ∷ fs)) (map (slot_in k f.size) (range_with_len 0 (part_count CHUNK_SIZE f.size)))) start here) (known_behind f fs n (slots (suc n) fs) (slots_known fs (suc n)))

-- ---- rows by their rules

-- the number that the next slot has at least
abbrev pub bound : Option ChunkRow → ℕ
bound None = 0
bound (Some r) = suc (key (slot_of r))

abbrev pub LastKnown : List FileRow → Option ChunkRow → Type 0
LastKnown fs None = Unit {0}
LastKnown fs (Some r) = IsSlot 0 fs (slot_of r)

small_at : (fs : List FileRow) (k : ℕ) (r : FileRow) → AllByRecursion Small fs → slice_get fs k ≡ Some r → Small r
small_at [] zero r small is = absurd cc
small_at [] (suc k) r small is = absurd cc
small_at (f ∷ fs) zero r small is = subst Small (same_Some f r is) small.0
small_at (f ∷ fs) (suc k) r small is = small_at fs k r small.1 is

row_at : (fs : List FileRow) (k : ℕ) → k < length fs → (r : FileRow) × (slice_get fs k ≡ Some r)
row_at [] k lt = absurd (omega arith)
row_at (f ∷ fs) zero lt = (f, refl)
row_at (f ∷ fs) (suc k) lt = row_at fs k (omega arith)

-- the chunk that has this size and offset
chunk_there : (total size offset k a : ℕ) → list_any (λ s. s.size == size && s.offset == offset) (map (slot_in 0 total) (range_with_len a k)) ≡ true
    → (i : ℕ) × (i < a + k) × (size ≡ chunk_size_at total i) × (offset ≡ chunk_offset i)
chunk_there total size offset zero a h = absurd cc
chunk_there total size offset (suc k) a h = elim (cases_Bool (chunk_size_at total a == size && chunk_offset a == offset)) [
  | inl hit ↦
      let p = and_parts (chunk_size_at total a == size) (chunk_offset a == offset) hit in
      (a, omega arith, sym (eqb-true (chunk_size_at total a) size p.0), sym (eqb-true (chunk_offset a) offset p.1))
  | inr other ↦
      let more = chunk_there total size offset k (a + 1) (sym (ap (λ (b : Bool). b || list_any (λ s. s.size == size && s.offset == offset) (map (slot_in 0 total) (range_with_len (a + 1) k))) other) ∙ h) in
      let lt = more.1 in
      (more.0, omega (arith, lt), more.2, more.3)
]

there_chunk : (total size offset k a i : ℕ) → a ≤ i → i < a + k → size ≡ chunk_size_at total i → offset ≡ chunk_offset i
    → list_any (λ s. s.size == size && s.offset == offset) (map (slot_in 0 total) (range_with_len a k)) ≡ true
there_chunk total size offset zero a i low high z o = absurd (omega arith)
there_chunk total size offset (suc k) a i low high z o = elim (cases_eqb a i) [
  | inl same ↦
      let hit : (chunk_size_at total a == size && chunk_offset a == offset) ≡ true = and_from (chunk_size_at total a == size) (chunk_offset a == offset)
      (eq-eqb (chunk_size_at total a) size (ap (chunk_size_at total) same.0 ∙ sym z)) (eq-eqb (chunk_offset a) offset (ap chunk_offset same.0 ∙ sym o)) in
      ap (λ (b : Bool). b || list_any (λ s. s.size == size && s.offset == offset) (map (slot_in 0 total) (range_with_len (a + 1) k))) hit
  | inr other ↦
      let apart = other.0 in
      or_right (chunk_size_at total a == size && chunk_offset a == offset) (list_any (λ s. s.size == size && s.offset == offset) (map (slot_in 0 total) (range_with_len (a + 1) k)))
      (there_chunk total size offset k (a + 1) i (omega (arith, low, apart)) (omega arith) z o)
]
  where
    or_right : (x y : Bool) → y ≡ true → (x || y) ≡ true
    or_right true y h = refl
    or_right false y h = h

-- where a slot's number is above that of the last row
further : (fs : List FileRow) (last : Option ChunkRow) (s : Slot) → AllByRecursion Small fs → LastKnown fs last → IsSlot 0 fs s → is_not_below last s.file ≡ true → is_further last s.file s.offset ≡ true → bound last ≤ key s
further fs None s small known h below beyond = omega arith
further fs (Some r) s small known h below beyond =
    let low : r.file ≤ s.file = leb-true r.file s.file below in
    let here = h.within in
    let there = known.within in
    let fits : h.row.size ≤ 2 ^ 31 = small_at fs h.place h.row small h.there in
    let fits2 : known.row.size ≤ 2 ^ 31 = small_at fs known.place known.row small known.there in
    let at = h.offset in
    let at2 = known.offset in
    elim (cases_eqb r.file s.file) [
      | inl same ↦
          let file = same.0 in
          let lt : r.sum.offset < s.offset = ltb-true r.sum.offset s.offset (sym (ap (λ (b : Bool). not b || nat_lt r.sum.offset s.offset) same.1) ∙ beyond) in
          step r.file s.file r.sum.offset s.offset known.index h.index known.row.size h.row.size file lt at2 at there here fits2 fits
      | inr other ↦ let ne = other.0 in apart r.file s.file r.sum.offset s.offset known.index h.index known.row.size h.row.size low ne at2 at there here fits2 fits
    ]
  where
    step : (f g o p i j y z : ℕ) → f ≡ g → o < p → o ≡ i * 1048576 → p ≡ j * 1048576 → i < part_count CHUNK_SIZE y → j < part_count CHUNK_SIZE z → y ≤ 2 ^ 31 → z ≤ 2 ^ 31 → suc (f * 4096 + o / 1048576) ≤ g * 4096 + p / 1048576
    step f g o p i j y z a b c d e k l m = omega arith

    apart : (f g o p i j y z : ℕ) → f ≤ g → ((f ≡ g) → ⊥) → o ≡ i * 1048576 → p ≡ j * 1048576 → i < part_count CHUNK_SIZE y → j < part_count CHUNK_SIZE z → y ≤ 2 ^ 31 → z ≤ 2 ^ 31 → suc (f * 4096 + o / 1048576) ≤ g * 4096 + p / 1048576
    apart f g o p i j y z a b c d e k l m = omega (arith, a, b, c, d, e, k, l, m)

-- what a row that keeps the rules is
row_known : (fs : List FileRow) (last : Option ChunkRow) (r : ChunkRow) → RowFits (memory_rules fs last) r → IsSlot 0 fs (slot_of r)
row_known fs last r h =
    let f = and_parts (nat_lt r.file (length fs)) (is_not_below last r.file) h.file.1 in
    let row = row_at fs r.file (ltb-true r.file (length fs) f.0) in
    let o = subst (λ (x : Option FileRow). (is_chunk_at x r.sum.size r.sum.offset && is_further last r.file r.sum.offset) ≡ true) row.1 h.offset.1 in
    let c = chunk_there row.0.size r.sum.size r.sum.offset (part_count CHUNK_SIZE row.0.size) 0 (and_parts (is_chunk_at (Some row.0) r.sum.size r.sum.offset) (is_further last r.file r.sum.offset) o).0 in
    record { place = r.file; file = omega arith; row = row.0; there = row.1; index = c.0; within = let lt = c.1 in omega (arith, lt); size = c.2; offset = c.3 }

-- rows in turn are of slots of the memories, which ascend
pub record RowsFound (fs : List FileRow) (last : Option ChunkRow) (rows : List ChunkRow) : Type 0 where
  pub inside : AllIn (map slot_of rows) (slots 0 fs)
  pub ascend : Above (bound last) (map slot_of rows)
  pub hashes : AllByRecursion Hash32 rows

pub rows_found : (fs : List FileRow) (rows before : List ChunkRow) → AllByRecursion Small fs → LastKnown fs (last_or None before) → FitInTurn (MemoryRowFits fs) before rows → RowsFound fs (last_or None before) rows
rows_found fs [] before small known fit = record { inside = tt; ascend = tt; hashes = tt }
rows_found fs (r ∷ rows) before small known fit =
    let last : Option ChunkRow = last_or None before in
    let here = row_known fs last r fit.0 in
    let f = and_parts (nat_lt r.file (length fs)) (is_not_below last r.file) fit.0.file.1 in
    let o = and_parts (is_chunk_at (slice_get fs r.file) r.sum.size r.sum.offset) (is_further last r.file r.sum.offset) fit.0.offset.1 in
    let next : last_or None (before ++ r ∷ []) ≡ Some r = last_or-push None before r in
    let more = rows_found fs rows (before ++ r ∷ []) small (subst (LastKnown fs) (sym next) here) fit.1 in
    record {
      inside = (in_slots fs 0 (slot_of r) here, more.inside);
      ascend = (further fs last (slot_of r) small known here f.1 o.1, subst (λ (l : Option ChunkRow). Above (bound l) (map slot_of rows)) next more.ascend);
      hashes = (fit.0.hash.0, more.hashes);
    }

pub some_rows : (fs : List FileRow) (rows : List ChunkRow) → AllByRecursion Small fs → FitInTurn (MemoryRowFits fs) [] rows → AreSome (map slot_of rows) (slots 0 fs) × AllByRecursion Hash32 rows
some_rows fs rows small fit =
    let found = rows_found fs rows [] small tt fit in
    (some_of (slots 0 fs) (map slot_of rows) 0 (slots_above fs 0 small) found.ascend found.inside, found.hashes)

-- ---- and slots that ascend keep the rules

beyond_last : (fs : List FileRow) (last : Option ChunkRow) (s : Slot) → AllByRecursion Small fs → LastKnown fs last → IsSlot 0 fs s → bound last ≤ key s → (is_not_below last s.file ≡ true) × (is_further last s.file s.offset ≡ true)
beyond_last fs None s small known h above = (refl, refl)
beyond_last fs (Some r) s small known h above =
    let here = h.within in
    let there = known.within in
    let fits : h.row.size ≤ 2 ^ 31 = small_at fs h.place h.row small h.there in
    let fits2 : known.row.size ≤ 2 ^ 31 = small_at fs known.place known.row small known.there in
    let low : r.file ≤ s.file = step r.file s.file r.sum.offset s.offset known.index h.index known.row.size h.row.size above known.offset h.offset there here fits2 fits in (
      le-leb r.file s.file low,
      elim (cases_eqb r.file s.file) [
        | inl same ↦ ap (λ (b : Bool). not b || nat_lt r.sum.offset s.offset) same.1
            ∙ lt-ltb r.sum.offset s.offset (behind r.file s.file r.sum.offset s.offset known.index h.index same.0 above known.offset h.offset)
        | inr other ↦ ap (λ (b : Bool). not b || nat_lt r.sum.offset s.offset) other.1
      ],
    )
  where
    step : (f g o p i j y z : ℕ) → suc (f * 4096 + o / 1048576) ≤ g * 4096 + p / 1048576 → o ≡ i * 1048576 → p ≡ j * 1048576 → i < part_count CHUNK_SIZE y → j < part_count CHUNK_SIZE z → y ≤ 2 ^ 31 → z ≤ 2 ^ 31 → f ≤ g
    step f g o p i j y z a b c d e k l = omega arith

    behind : (f g o p i j : ℕ) → f ≡ g → suc (f * 4096 + o / 1048576) ≤ g * 4096 + p / 1048576 → o ≡ i * 1048576 → p ≡ j * 1048576 → o < p
    behind f g o p i j a b c d = omega arith

chunk_size_good : (total i : ℕ) → i < part_count CHUNK_SIZE total → (nat_lt 0 (chunk_size_at total i) && (chunk_size_at total i == CHUNK_SIZE || chunk_size_at total i == chunk_size_at total (part_count CHUNK_SIZE total - 1))) ≡ true
chunk_size_good total i lt = and_from (nat_lt 0 (chunk_size_at total i)) (chunk_size_at total i == CHUNK_SIZE || chunk_size_at total i == chunk_size_at total (part_count CHUNK_SIZE total - 1))
    (lt-ltb 0 (chunk_size_at total i) (omega arith)) (elim (cases_eqb (chunk_size_at total i) CHUNK_SIZE) [
      | inl whole ↦ ap (λ (b : Bool). b || chunk_size_at total i == chunk_size_at total (part_count CHUNK_SIZE total - 1)) whole.1
      | inr less ↦ let short = less.0 in
          let last : i ≡ part_count CHUNK_SIZE total - 1 = omega (arith, short, lt) in
          ap (λ (b : Bool). b || chunk_size_at total i == chunk_size_at total (part_count CHUNK_SIZE total - 1)) less.1
          ∙ eq-eqb (chunk_size_at total i) (chunk_size_at total (part_count CHUNK_SIZE total - 1)) (ap (chunk_size_at total) last)
    ])

-- numbers that a row can spell
abbrev pub Spelled : Slot → Type 0
Spelled s = (s.file < 2 ^ 32) × (s.size < 2 ^ 32) × (s.offset < 2 ^ 64)

row_fits : (fs : List FileRow) (last : Option ChunkRow) (r : ChunkRow) → AllByRecursion Small fs → LastKnown fs last → IsSlot 0 fs (slot_of r) → bound last ≤ key (slot_of r) → Spelled (slot_of r) → Hash32 r → RowFits (memory_rules fs last) r
row_fits fs last r small known h above spelled hash =
    let place : h.place ≡ r.file = let e = h.file in omega (arith, e) in
    let there : slice_get fs r.file ≡ Some h.row = subst (λ (k : ℕ). slice_get fs k ≡ Some h.row) place h.there in
    let inside : r.file < length fs = slice_get_within fs r.file h.row there in
    let beyond = beyond_last fs last (slot_of r) small known h above in
    let size : is_row_size (Some h.row) r.sum.size ≡ true = subst (λ (z : ℕ). is_row_size (Some h.row) z ≡ true) (sym h.size) (chunk_size_good h.row.size h.index h.within) in
    let chunk = there_chunk h.row.size r.sum.size r.sum.offset (part_count CHUNK_SIZE h.row.size) 0 h.index (omega arith) (let w = h.within in omega (arith, w)) h.size h.offset in
    record {
      file = (spelled.0, and_from (nat_lt r.file (length fs)) (is_not_below last r.file) (lt-ltb r.file (length fs) inside) beyond.0);
      size = (spelled.1, subst (λ (o : Option FileRow). is_row_size o r.sum.size ≡ true) (sym there) size);
      offset = (spelled.2, and_from (is_chunk_at (slice_get fs r.file) r.sum.size r.sum.offset) (is_further last r.file r.sum.offset) (subst (λ (o : Option FileRow). is_chunk_at o r.sum.size r.sum.offset ≡ true) (sym there) chunk) beyond.1);
      hash = (hash, refl);
    }

pub rows_fit : (fs : List FileRow) (rows before : List ChunkRow) → AllByRecursion Small fs → LastKnown fs (last_or None before) → AllByRecursion (IsSlot 0 fs) (map slot_of rows) → Above (bound (last_or None before)) (map slot_of rows)
    → AllByRecursion Spelled (map slot_of rows) → AllByRecursion Hash32 rows → FitInTurn (MemoryRowFits fs) before rows
rows_fit fs [] before small known slots above spelled hashes = tt
rows_fit fs (r ∷ rows) before small known slots above spelled hashes =
    let next : last_or None (before ++ r ∷ []) ≡ Some r = last_or-push None before r in
    (row_fits fs (last_or None before) r small known slots.0 above.0 spelled.0 hashes.0, rows_fit fs rows (before ++ r ∷ []) small (subst (LastKnown fs) (sym next) slots.0) slots.1 (subst (λ (l : Option ChunkRow). Above (bound l) (map slot_of rows)) (sym next) above.1) spelled.1 hashes.1)
