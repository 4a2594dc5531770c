-- What is read of memories is what a mark may say of them, in its one spelling.
use Rattle.std.proofs.Common.{◌≡◌, ◌≢◌, inl, inr, ℕ, zero, suc, ◌*◌, ◌^◌, ◌<◌, ◌≤◌, Bool, true, false, not, List, [], ◌∷◌, ◌++◌, length, map, get_or, Option, Some, None, Ok, lit<, refl, sym, ap, subst, ◌∙◌, append_assoc, arith, eq-eqb}
use Rattle.std.specs.Prelude.{◌==◌, nat_le, slice_get, AllPairs, if◌then◌else◌}
use Rattle.std.specs.List.{flat_map, AllByRecursion, AllZip, list_any}
use Rattle.std.specs.Int.{w32, w64}
use Rattle.std.proofs.lemmas.Bool.{leb-true, le-leb, eqb-true, eqb-false, ne_eqb, not-true, false≢true}
use Rattle.std.proofs.lemmas.List.{append-nil, length-append, length-map, nil_from_length, get_or_append_left}
use Rattle.std.proofs.lemmas.List.Folds.{list_any_at, list_any_none}
use Rattle.std.proofs.lemmas.List.Quantifiers.{all_pairs_push}
use Rattle.std.proofs.Math.Seq.{get_or-append_seam}
use Rattle.format_spec.specs.Bytes.{Bytes, be32, be64, part_count}
use Rattle.format_spec.specs.Fields.{Reading, gives, ◌>>=◌, field, byte, number, block, any, each}
use Rattle.format_spec.specs.Versions.{is_version}
use Rattle.format_spec.specs.declared.limits.TheConstants.{CHUNK_PAGES, CHUNK_SIZE, PAGE_SIZE, MAX_LAYERS}
use Rattle.format_spec.proofs.Forms.{byte_law, block_law, number_law, wide32, wide64}
use Rattle.format_spec.proofs.Readings.{Took, cursor, IsReading, field_law, then_law, then_law_when, skip_law, gives_law, reading_when, each_law, FitInTurn}
use Rattle.store_spec.specs.Mark.{MarkMemory, sum_text, sums_text, mark_memory_text, IsSum, FitsMemory}
use Rattle.mark_file.specs.Reading.{most_layers, is_new, layer_after, hash_field, sum_behind, sum_of, sum_after, memory_of, memory_at, memory_after}
use Rattle.format_spec.proofs.Lists.{regroup_three}
use Rattle.state_spec.proofs.VersionCases.{version_cases}
use Rattle.store_spec.proofs.Marks.{same_memory}

-- ---- layers that are all different

abbrev LayerFits : List ℕ → ℕ → Type 0
LayerFits before n = (n < 2 ^ 64) × (is_new before n ≡ true)

abbrev Different : List ℕ → Type 0
Different xs = AllPairs (λ a b. a ≢ b) xs

none_before : Different []
none_before i j d lt within = absurd (omega (arith, within))

new_differs : (before : List ℕ) (x : ℕ) → is_new before x ≡ true → (k d : ℕ) → k < length before → get_or before k d ≢ x
new_differs before x new k d lt same = false≢true (sym (not-true (list_any (λ m. m == x) before) new) ∙ list_any_at (λ m. m == x) before k d lt (eq-eqb (get_or before k d) x same))

in_turn_different : (xs before : List ℕ) → Different before → FitInTurn LayerFits before xs → Different (before ++ xs)
in_turn_different [] before so_far h = subst Different (sym (append-nil before)) so_far
in_turn_different (x ∷ xs) before so_far h =
    subst Different (append_assoc before (x ∷ []) xs)
    (in_turn_different xs (before ++ x ∷ []) (all_pairs_push (λ a b. a ≢ b) before x so_far (new_differs before x h.0.1)) h.1)

in_turn_small : (xs before : List ℕ) → FitInTurn LayerFits before xs → AllByRecursion (λ n. n < 2 ^ 64) xs
in_turn_small [] before h = tt
in_turn_small (x ∷ xs) before h = (h.0.0, in_turn_small xs (before ++ x ∷ []) h.1)

differs_new : (before xs : List ℕ) (x : ℕ) → Different (before ++ x ∷ xs) → is_new before x ≡ true
differs_new before xs x all = ap not (list_any_none (λ m. m == x) before each_other)
  where
    each_other : (k d : ℕ) → k < length before → (get_or before k d == x) ≡ false
    each_other k d lt =
        ne_eqb (get_or before k d) x
        (λ same. all k (length before) d lt (omega (arith, length-append before (x ∷ xs))) (get_or_append_left before (x ∷ xs) d k lt ∙ same ∙ sym (get_or-append_seam before x xs d)))

different_in_turn : (xs before : List ℕ) → Different (before ++ xs) → AllByRecursion (λ n. n < 2 ^ 64) xs → FitInTurn LayerFits before xs
different_in_turn [] before all small = tt
different_in_turn (x ∷ xs) before all small =
    ((small.0, differs_new before xs x all), different_in_turn xs (before ++ x ∷ []) (subst Different (sym (append_assoc before (x ∷ []) xs)) all) small.1)

-- ---- sums

-- the same reading, when what fits is spelled in another way
reading_where : {X : Type 0} (m : Reading X) (text text' : X → Bytes) (Fits Fits' : X → Type 0) → ((x : X) → Fits' x → text x ≡ text' x) → ((x : X) → Fits x → Fits' x) → ((x : X) → Fits' x → Fits x)
    → IsReading m text Fits → IsReading m text' Fits'
reading_where m text text' Fits Fits' same there back law = record {
  again = λ x at rest fits. subst (λ (t : Bytes). (end : ℕ) × (m (cursor at (t ++ rest)) ≡ Ok (x, cursor end rest))) (same x fits) (law.again x at rest (back x fits));
  takes = λ c x d bytes e.
      let p = law.takes c x d bytes e in
      let fits = there x p.1 in
      (subst (λ (t : Bytes). Took c t d) (same x fits) p.0, fits);
}

-- the hash of a chunk that has one
abbrev hash_in : Option Bytes → Bytes
hash_in None = []
hash_in (Some hash) = hash

abbrev IsHash : Option Bytes → Type 0
IsHash None = ⊥
IsHash (Some hash) = length hash ≡ 32

some_hash : (x : Option Bytes) → length (hash_in x) ≡ 32 → IsHash x
some_hash None h = absurd (omega (arith, h))
some_hash (Some hash) h = h

hash_there : (x : Option Bytes) → IsHash x → length (hash_in x) ≡ 32
hash_there None h = absurd h
hash_there (Some hash) h = h

hash_end : (hash : Bytes) → length hash ≡ 32 → IsReading (gives (Some hash)) (λ x. []) (λ x. (hash_in x ≡ hash) × Unit {0})
hash_end hash long = reading_when (gives (Some hash)) (λ x. []) (λ x. []) (λ x. x ≡ Some hash) (λ x. (hash_in x ≡ hash) × Unit {0}) (λ x. refl)
    (λ x h. (ap hash_in h, tt)) (λ x h. by x h.0) (gives_law (Some hash))
  where
    by : (x : Option Bytes) → hash_in x ≡ hash → x ≡ Some hash
    by None h = absurd (omega (arith, ap (λ (k : Bytes). length k) h, long))
    by (Some y) h = ap Some h

hash_law : IsReading hash_field hash_in IsHash
hash_law = reading_when hash_field (λ x. hash_in x ++ []) hash_in (λ x. ((length (hash_in x) ≡ 32) × (any (hash_in x) ≡ true)) × Unit {0}) IsHash
    (λ x. append-nil (hash_in x)) (λ x h. some_hash x h.0.0) (λ x h. ((hash_there x h, refl), tt))
    (then_law_when (field (block 32) any) (λ hash. gives (Some hash)) hash_in (λ s. s) (λ s. (length s ≡ 32) × (any s ≡ true)) (λ x. []) (λ x. Unit {0})
    (field_law (block 32) (λ s. s) (λ s. length s ≡ 32) any (block_law 32)) (λ hash fits. hash_end hash fits.0))

abbrev SumLaw : ℕ → Type 0
SumLaw v = IsReading (sum_of v) (sum_text v) (IsSum v)

sum_law-1 : SumLaw 1
unfolding sum_of
sum_law-1 = reading_where (sum_of 1) (λ x. [] ++ hash_in x) (sum_text 1) IsHash (IsSum 1) text there back
    (skip_law (gives 1) sum_behind 1 (λ n. []) hash_in IsHash (gives_law 1) hash_law)
  where
    text : (x : Option Bytes) → IsSum 1 x → [] ++ hash_in x ≡ sum_text 1 x
    text None h = absurd (omega (arith, h))
    text (Some x) h = refl

    there : (x : Option Bytes) → IsHash x → IsSum 1 x
    there None h = absurd h
    there (Some x) h = h

    back : (x : Option Bytes) → IsSum 1 x → IsHash x
    back None h = absurd (omega (arith, h))
    back (Some x) h = h

-- the byte before a hash, and that of none
abbrev flag_in : Option Bytes → ℕ
flag_in None = 0
flag_in (Some hash) = 1

abbrev FlagFits : ℕ → Type 0
FlagFits n = (n < 2 ^ 8) × (nat_le n 1 ≡ true)

abbrev BehindFlag : ℕ → Option Bytes → Type 0
BehindFlag n x = (flag_in x ≡ n) × IsSum 2 x

abbrev none : Option Bytes
none = None

none_law : IsReading (gives none) hash_in (BehindFlag 0)
none_law = reading_where (gives none) (λ x. []) hash_in (λ x. x ≡ none) (BehindFlag 0) text there back (gives_law none)
  where
    text : (x : Option Bytes) → BehindFlag 0 x → [] ≡ hash_in x
    text None h = refl
    text (Some x) h = absurd (omega (arith, h.0))

    there : (x : Option Bytes) → x ≡ none → BehindFlag 0 x
    there None h = (refl, refl)
    there (Some x) h = absurd cc

    back : (x : Option Bytes) → BehindFlag 0 x → x ≡ none
    back None h = refl
    back (Some x) h = absurd (omega (arith, h.0))

some_law : IsReading hash_field hash_in (BehindFlag 1)
some_law = reading_when hash_field hash_in hash_in IsHash (BehindFlag 1) (λ x. refl) there back hash_law
  where
    there : (x : Option Bytes) → IsHash x → BehindFlag 1 x
    there None h = absurd h
    there (Some x) h = (refl, h)

    back : (x : Option Bytes) → BehindFlag 1 x → IsHash x
    back None h = absurd (omega (arith, h.0))
    back (Some x) h = h.1

behind_law : (n : ℕ) → FlagFits n → IsReading (sum_behind n) hash_in (BehindFlag n)
behind_law zero h = none_law
behind_law (suc zero) h = some_law
behind_law (suc (suc n)) h = absurd (omega (arith, leb-true (suc (suc n)) 1 h.1))

sum_law-2 : SumLaw 2
unfolding sum_of
sum_law-2 = reading_where (sum_of 2) (λ x. flag_in x ∷ hash_in x) (sum_text 2) (λ x. FlagFits (flag_in x) × IsSum 2 x) (IsSum 2) text (λ x h. h.1) back
    (then_law_when (field byte (λ n. nat_le n 1)) sum_behind flag_in (λ n. n ∷ []) FlagFits hash_in (IsSum 2)
    (field_law byte (λ n. n ∷ []) (λ n. n < 2 ^ 8) (λ n. nat_le n 1) byte_law) behind_law)
  where
    text : (x : Option Bytes) → IsSum 2 x → flag_in x ∷ hash_in x ≡ sum_text 2 x
    text None h = refl
    text (Some x) h = refl

    back : (x : Option Bytes) → IsSum 2 x → FlagFits (flag_in x) × IsSum 2 x
    back None h = ((lit< tt, refl), h)
    back (Some x) h = ((lit< tt, refl), h)

sum_law : (v : ℕ) → is_version v ≡ true → SumLaw v
sum_law v h = elim (version_cases v h) [ inl one ↦ subst SumLaw (sym one) sum_law-1 | inr two ↦ subst SumLaw (sym two) sum_law-2 ]

in_turn_sums : (v : ℕ) (xs before : List (Option Bytes)) → FitInTurn (λ before. IsSum v) before xs → AllByRecursion (IsSum v) xs
in_turn_sums v [] before h = tt
in_turn_sums v (x ∷ xs) before h = (h.0, in_turn_sums v xs (before ++ x ∷ []) h.1)

sums_in_turn : (v : ℕ) (xs before : List (Option Bytes)) → AllByRecursion (IsSum v) xs → FitInTurn (λ before. IsSum v) before xs
sums_in_turn v [] before h = tt
sums_in_turn v (x ∷ xs) before h = (h.0, sums_in_turn v xs (before ++ x ∷ []) h.1)

all_sums_law : (v : ℕ) → is_version v ≡ true → (n : ℕ) → IsReading (each (sum_after v) n []) (sums_text v) (λ xs. (length xs ≡ n) × AllByRecursion (IsSum v) xs)
all_sums_law v h n = reading_when (each (sum_after v) n []) (sums_text v) (sums_text v) (λ xs. (length xs ≡ n) × FitInTurn (λ before. IsSum v) [] xs) (λ xs. (length xs ≡ n) × AllByRecursion (IsSum v) xs) (λ xs. refl)
    (λ xs h. (h.0, in_turn_sums v xs [] h.1)) (λ xs h. (h.0, sums_in_turn v xs [] h.1))
    (each_law (sum_after v) (sum_text v) (λ before. IsSum v) (λ before. sum_law v h) n)

-- ---- one memory

abbrev pub FitsPages : ℕ → ℕ → MarkMemory → Type 0
FitsPages v pages m = FitsMemory v m ([], pages)

module _ (v : ℕ) (is : is_version v ≡ true) (pages : ℕ) where
  abbrev read_end : List ℕ → List (Option Bytes) → Reading MarkMemory
  read_end layers sums = gives (record { layers = layers; sums = sums })

  abbrev read_sums : List ℕ → Reading MarkMemory
  read_sums layers = each (sum_after v) (part_count CHUNK_PAGES pages) [] >>= read_end layers

  abbrev read_layers : ℕ → Reading MarkMemory
  read_layers count = each layer_after count [] >>= read_sums

  abbrev few : ℕ → Bool
  few n = nat_le n (most_layers pages)

  end_law : (layers : List ℕ) (sums : List (Option Bytes)) → IsReading (read_end layers sums) (λ m. []) (λ m. (m.sums ≡ sums) × (m.layers ≡ layers))
  end_law layers sums =
      let all : MarkMemory = record { layers = layers; sums = sums } in
      reading_when (read_end layers sums) (λ m. []) (λ m. []) (λ m. m ≡ all) (λ m. (m.sums ≡ sums) × (m.layers ≡ layers)) (λ m. refl)
      (λ m h. (ap (λ (x : MarkMemory). x.sums) h, ap (λ (x : MarkMemory). x.layers) h)) (λ m h. same_memory m all h.1 h.0) (gives_law all)

  abbrev SumsFit : List (Option Bytes) → Type 0
  SumsFit xs = (length xs ≡ part_count CHUNK_PAGES pages) × AllByRecursion (IsSum v) xs

  sums_law : (layers : List ℕ) → IsReading (read_sums layers) (λ m. sums_text v m.sums ++ []) (λ m. (m.layers ≡ layers) × SumsFit m.sums)
  sums_law layers = reading_when (read_sums layers) (λ m. sums_text v m.sums ++ []) (λ m. sums_text v m.sums ++ []) (λ m. SumsFit m.sums × (m.layers ≡ layers)) (λ m. (m.layers ≡ layers) × SumsFit m.sums) (λ m. refl)
      (λ m h. (h.1, h.0)) (λ m h. (h.1, h.0))
      (then_law (each (sum_after v) (part_count CHUNK_PAGES pages) []) (read_end layers) (λ m. m.sums) (sums_text v) SumsFit (λ m. []) (λ m. m.layers ≡ layers)
      (all_sums_law v is (part_count CHUNK_PAGES pages)) (end_law layers))

  abbrev LayersFit : List ℕ → Type 0
  LayersFit ls = FitInTurn LayerFits [] ls

  layers_law : (count : ℕ) → IsReading (read_layers count) (λ m. flat_map be64 m.layers ++ (sums_text v m.sums ++ [])) (λ m. (length m.layers ≡ count) × (LayersFit m.layers × SumsFit m.sums))
  layers_law count = reading_when (read_layers count) (λ m. flat_map be64 m.layers ++ (sums_text v m.sums ++ [])) (λ m. flat_map be64 m.layers ++ (sums_text v m.sums ++ []))
      (λ m. ((length m.layers ≡ count) × LayersFit m.layers) × SumsFit m.sums) (λ m. (length m.layers ≡ count) × (LayersFit m.layers × SumsFit m.sums)) (λ m. refl)
      (λ m h. (h.0.0, (h.0.1, h.1))) (λ m h. ((h.0, h.1.0), h.1.1))
      (then_law (each layer_after count []) read_sums (λ m. m.layers) (flat_map be64) (λ ls. (length ls ≡ count) × LayersFit ls) (λ m. sums_text v m.sums ++ []) (λ m. SumsFit m.sums)
      (each_law layer_after be64 LayerFits (λ before. field_law (number w64) be64 (λ n. n < 2 ^ 64) (is_new before) (number_law w64 (2 ^ 64) wide64)) count) sums_law)

  abbrev CountFits : ℕ → Type 0
  CountFits n = (n < 2 ^ 32) × (few n ≡ true)

  abbrev InTurn : MarkMemory → Type 0
  InTurn m = CountFits (length m.layers) × (LayersFit m.layers × SumsFit m.sums)

  at_most : (n : ℕ) → few n ≡ true → (n ≤ MAX_LAYERS) × (pages ≡ 0 → n ≡ 0)
  at_most n e = go (pages == 0) refl (leb-true n (most_layers pages) e)
    where
      go : (b : Bool) → (pages == 0) ≡ b → n ≤ (if b then 0 else MAX_LAYERS) → (n ≤ MAX_LAYERS) × (pages ≡ 0 → n ≡ 0)
      go true is le = (omega (arith, le), λ none. omega (arith, le))
      go false is le = (le, λ none. absurd (eqb-false pages 0 is none))

  are_few : (n : ℕ) → n ≤ MAX_LAYERS → (pages ≡ 0 → n ≡ 0) → few n ≡ true
  are_few n le none = le-leb n (most_layers pages) (go (pages == 0) refl)
    where
      go : (b : Bool) → (pages == 0) ≡ b → n ≤ (if b then 0 else MAX_LAYERS)
      go true is = let zero = none (eqb-true pages 0 is) in omega (arith, zero)
      go false is = le

  fits : (m : MarkMemory) → InTurn m → FitsPages v pages m
  fits m h =
      let few_layers = at_most (length m.layers) h.0.1 in
      record {
        few = few_layers.0;
        different = in_turn_different m.layers [] none_before h.1.0;
        numbers = in_turn_small m.layers [] h.1.0;
        none_if_empty = λ none. nil_from_length m.layers (few_layers.1 none);
        each_chunk = h.1.1.0;
        sums_fit = h.1.1.1;
      }

  in_turn : (m : MarkMemory) → FitsPages v pages m → InTurn m
  in_turn m f =
      let le : length m.layers ≤ MAX_LAYERS = f.few in
      ((omega (arith, le), are_few (length m.layers) le (λ none. ap length (f.none_if_empty none))), (different_in_turn m.layers [] f.different f.numbers, (f.each_chunk, f.sums_fit)))

  pub memory_law : IsReading (memory_of v pages) (mark_memory_text v) (FitsPages v pages)
  unfolding memory_of
  memory_law = reading_when (memory_of v pages) (λ m. be32 (length m.layers) ++ (flat_map be64 m.layers ++ (sums_text v m.sums ++ []))) (mark_memory_text v) InTurn (FitsPages v pages)
      (λ m. regroup_three (be32 (length m.layers)) (flat_map be64 m.layers) (sums_text v m.sums)) fits in_turn
      (then_law (field (number w32) few) read_layers (λ m. length m.layers) be32 CountFits (λ m. flat_map be64 m.layers ++ (sums_text v m.sums ++ [])) (λ m. LayersFit m.layers × SumsFit m.sums)
      (field_law (number w32) be32 (λ n. n < 2 ^ 32) few (number_law w32 (2 ^ 32) wide32)) layers_law)

-- ---- all memories

abbrev counts : List (Bytes × ℕ) → List ℕ
counts fs = map (λ (f : Bytes × ℕ). f.1) fs

there : (done fs : List (Bytes × ℕ)) (f : Bytes × ℕ) (n : ℕ) → n ≡ length done → slice_get (counts (done ++ f ∷ fs)) n ≡ Some f.1
there [] fs f n is = rw is refl
there (d ∷ done) fs f n is = rw is (there done fs f (length done) refl)

for_file : (v : ℕ) (m : MarkMemory) (f : Bytes × ℕ) → FitsPages v f.1 m → FitsMemory v m f
for_file v m f h = record { few = h.few; different = h.different; numbers = h.numbers; none_if_empty = h.none_if_empty; each_chunk = h.each_chunk; sums_fit = h.sums_fit }

for_pages : (v : ℕ) (m : MarkMemory) (f : Bytes × ℕ) → FitsMemory v m f → FitsPages v f.1 m
for_pages v m f h = record { few = h.few; different = h.different; numbers = h.numbers; none_if_empty = h.none_if_empty; each_chunk = h.each_chunk; sums_fit = h.sums_fit }

module _ (v : ℕ) (is : is_version v ≡ true) where
  abbrev FitsNext : Option ℕ → MarkMemory → Type 0
  FitsNext None m = ⊥
  FitsNext (Some pages) m = FitsPages v pages m

  next_law : (o : Option ℕ) → IsReading (memory_at v o) (mark_memory_text v) (FitsNext o)
  next_law None = record { again = λ x at rest fits. absurd fits; takes = λ c x d bytes e. absurd cc }
  next_law (Some pages) = record { again = (memory_law v is pages).again; takes = (memory_law v is pages).takes }

  abbrev FitsAt : List ℕ → List MarkMemory → MarkMemory → Type 0
  FitsAt pages before m = FitsNext (slice_get pages (length before)) m

  fit_each : (fs done : List (Bytes × ℕ)) (ms before : List MarkMemory) → length before ≡ length done → length ms ≡ length fs → FitInTurn (FitsAt (counts (done ++ fs))) before ms → AllZip (FitsMemory v) ms fs
  fit_each [] done [] before place count h = tt
  fit_each [] done (m ∷ ms) before place count h = absurd (omega (arith, count))
  fit_each (f ∷ fs) done [] before place count h = absurd (omega (arith, count))
  fit_each (f ∷ fs) done (m ∷ ms) before place count h = (
    for_file v m f (subst (λ (o : Option ℕ). FitsNext o m) (there done fs f (length before) place) h.0),
    fit_each fs (done ++ f ∷ []) ms (before ++ m ∷ []) (omega (arith, length-append before (m ∷ []), length-append done (f ∷ []), place)) (omega (arith, count))
        (subst (λ (x : List (Bytes × ℕ)). FitInTurn (FitsAt (counts x)) (before ++ m ∷ []) ms) (sym (append_assoc done (f ∷ []) fs)) h.1),
  )

  each_fits : (fs done : List (Bytes × ℕ)) (ms before : List MarkMemory) → length before ≡ length done → AllZip (FitsMemory v) ms fs → (length ms ≡ length fs) × FitInTurn (FitsAt (counts (done ++ fs))) before ms
  each_fits [] done [] before place h = (refl, tt)
  each_fits [] done (m ∷ ms) before place h = absurd h
  each_fits (f ∷ fs) done [] before place h = absurd h
  each_fits (f ∷ fs) done (m ∷ ms) before place h =
      let more = each_fits fs (done ++ f ∷ []) ms (before ++ m ∷ []) (omega (arith, length-append before (m ∷ []), length-append done (f ∷ []), place)) h.1 in (
        omega (arith, more.0),
        (
          subst (λ (o : Option ℕ). FitsNext o m) (sym (there done fs f (length before) place)) (for_pages v m f h.0),
          subst (λ (x : List (Bytes × ℕ)). FitInTurn (FitsAt (counts x)) (before ++ m ∷ []) ms) (append_assoc done (f ∷ []) fs) more.1,
        ),
      )

  -- memories of these files
  pub memories_law : (fs : List (Bytes × ℕ)) → IsReading (each (memory_after v (counts fs)) (length (counts fs)) []) (flat_map (mark_memory_text v)) (λ ms. AllZip (FitsMemory v) ms fs)
  memories_law fs = reading_when (each (memory_after v (counts fs)) (length (counts fs)) []) (flat_map (mark_memory_text v)) (flat_map (mark_memory_text v))
      (λ ms. (length ms ≡ length (counts fs)) × FitInTurn (FitsAt (counts fs)) [] ms) (λ ms. AllZip (FitsMemory v) ms fs) (λ ms. refl)
      (λ ms h. fit_each fs [] ms [] refl (h.0 ∙ length-map fs (λ (f : Bytes × ℕ). f.1)) h.1)
      (λ ms h. let e = each_fits fs [] ms [] refl h in (e.0 ∙ sym (length-map fs (λ (f : Bytes × ℕ). f.1)), e.1))
      (each_law (memory_after v (counts fs)) (mark_memory_text v) (FitsAt (counts fs)) (λ before. next_law (slice_get (counts fs) (length before))) (length (counts fs)))

-- ---- their sums are as many as the manifest wants

same_count : (pages : ℕ) → part_count CHUNK_PAGES pages ≡ part_count CHUNK_SIZE (pages * PAGE_SIZE)
same_count pages = omega arith

pub sums_fit : (v : ℕ) (ms : List MarkMemory) (fs : List (Bytes × ℕ)) → AllZip (FitsMemory v) ms fs
    → map (λ (list : List (Option Bytes)). length list) (map (λ (m : MarkMemory). m.sums) ms) ≡ map (λ (f : Bytes × ℕ). part_count CHUNK_SIZE (f.1 * PAGE_SIZE)) fs
sums_fit v [] [] h = refl
sums_fit v [] (f ∷ fs) h = absurd h
sums_fit v (m ∷ ms) [] h = absurd h
sums_fit v (m ∷ ms) (f ∷ fs) h =
    let first : length m.sums ≡ part_count CHUNK_SIZE (f.1 * PAGE_SIZE) = h.0.each_chunk ∙ same_count f.1 in
    let rest = sums_fit v ms fs h.1 in
    rw (first, rest) refl

pub few_layers : (v : ℕ) (ms : List MarkMemory) (fs : List (Bytes × ℕ)) → AllZip (FitsMemory v) ms fs → AllByRecursion (λ (m : MarkMemory). length m.layers < 2 ^ 32) ms
few_layers v [] [] h = tt
few_layers v [] (f ∷ fs) h = absurd h
few_layers v (m ∷ ms) [] h = absurd h
few_layers v (m ∷ ms) (f ∷ fs) h = let le : length m.layers ≤ MAX_LAYERS = h.0.few in (omega (arith, le), few_layers v ms fs h.1)
