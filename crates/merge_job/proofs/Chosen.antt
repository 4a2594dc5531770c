-- The pages of a merged layer.
use Rattle.std.proofs.Common.{inl, inr, ◌≡◌, ℕ, suc, zero, ◌+◌, ◌*◌, ◌<◌, ◌≤◌, ◌==◌, nat_le, Bool, true, false, ◌&&◌, List, [], ◌∷◌, ◌++◌, length, drop, filter, slice_index, Result, Ok, Err, IfOk, OnOk, Vec, Global, refl, sym, ◌∙◌, ap, subst, arith}
use Rattle.std.proofs.lemmas.Bool.{cases_Bool, cases_eq, eq-eqb, eqb-true}
use Rattle.std.proofs.lemmas.Bool.Decides.{nat_tests}
use Rattle.std.proofs.lemmas.List.FromFn.{length-range_with_len, map-range_with_len_more}
use Rattle.std.proofs.lemmas.List.{map-id}
use Rattle.std.specs.List.{AllByRecursion, list_all, list_any, range_with_len}
use Rattle.std.specs.Ordering.{nat_cmp, is_lt}
use Rattle.format_spec.specs.Bytes.{ascending}
use Rattle.format_spec.specs.declared.limits.TheConstants.{MAX_MEMORY_PAGES}
use Rattle.byte_codec.specs.declared.error.NoMemory.{NoMemory}
use Rattle.page_spec.specs.PageFile.{IsIndex}
use Rattle.page_spec.specs.Layers.{has_page, merged_pages, union}
use Rattle.page_file.specs.Files.{NumberedFile}
use Rattle.layer_stack.specs.Stacks.{EndBy, pages_in, sizes_of}
use Rattle.merge_job.specs.Merge.{merged_index}

-- ---- pages chosen from all

-- the pages from one on that pass
chosen_from : (p : ℕ → Bool) (n s : ℕ) → AllByRecursion (λ page. s ≤ page) (filter p (range_with_len s n))
chosen_from p zero s = tt
chosen_from p (suc n) s = elim (cases_Bool (p s)) [ inl hit ↦ rw hit ((omega arith), wider (filter p (range_with_len (s + 1) n)) (chosen_from p n (s + 1))) | inr miss ↦ rw miss (wider (filter p (range_with_len (s + 1) n)) (chosen_from p n (s + 1))) ]
  where
    wider : (pages : List ℕ) → AllByRecursion (λ page. s + 1 ≤ page) pages → AllByRecursion (λ page. s ≤ page) pages
    wider [] all = tt
    wider (page ∷ pages) all = (omega (arith, all.0), wider pages all.1)

chosen_until : (p : ℕ → Bool) (n s end : ℕ) → s + n ≤ end → AllByRecursion (λ page. page < end) (filter p (range_with_len s n))
chosen_until p zero s end le = tt
chosen_until p (suc n) s end le = elim (cases_Bool (p s)) [ inl hit ↦ rw hit ((omega arith), chosen_until p n (s + 1) end (omega arith)) | inr miss ↦ rw miss (chosen_until p n (s + 1) end (omega arith)) ]

all_later : (a : ℕ) (pages : List ℕ) → AllByRecursion (λ page. a + 1 ≤ page) pages → list_all (λ j. is_lt (nat_cmp a j)) pages ≡ true
all_later a [] all = refl
all_later a (k ∷ pages) all =
    let lt : a < k = omega (arith, all.0) in
    let e : is_lt (nat_cmp a k) ≡ true = grind arith in
    rw e (all_later a pages all.1)

chosen_ascend : (p : ℕ → Bool) (n s : ℕ) → ascending nat_cmp (filter p (range_with_len s n)) ≡ true
chosen_ascend p zero s = refl
chosen_ascend p (suc n) s = elim (cases_Bool (p s)) [
  | inl hit ↦ rw hit (rw (all_later s (filter p (range_with_len (s + 1) n)) (chosen_from p n (s + 1))) (chosen_ascend p n (s + 1)))
  | inr miss ↦ rw miss (chosen_ascend p n (s + 1))
]

-- pages of a memory that are chosen, more than none, are what a page file may have
chosen_is_index : (p : ℕ → Bool) (memory : ℕ) → memory ≤ MAX_MEMORY_PAGES → 1 ≤ memory → 1 ≤ length (filter p (range_with_len 0 memory)) → IsIndex (record { memory = memory; numbers = filter p (range_with_len 0 memory) })
chosen_is_index p memory fits memory_some some = record {
  some_memory = memory_some;
  memory_fits = fits;
  some_page = some;
  ascends = chosen_ascend p memory 0;
  within = chosen_until p memory 0 memory (omega arith);
}

-- all are chosen where each passes
pub chosen_are_all : (n s : ℕ) → filter (λ page. true) (range_with_len s n) ≡ range_with_len s n
chosen_are_all zero s = refl
chosen_are_all (suc n) s = ap (λ (l : List ℕ). s ∷ l) (chosen_are_all n (s + 1))

-- a page that passes is one of them
chosen_has : (p : ℕ → Bool) (page n s : ℕ) → s ≤ page → page < s + n → p page ≡ true → 1 ≤ length (filter p (range_with_len s n))
chosen_has p page zero s from below passes = absurd (omega arith)
chosen_has p page (suc n) s from below passes = elim (cases_Bool (p s)) [
  | inl hit ↦ rw hit (omega arith)
  | inr miss ↦ rw miss (chosen_has p page n (s + 1) (later miss) (omega arith) passes)
]
  where
    later : p s ≡ false → s + 1 ≤ page
    later none = elim (cases_eq s page) [ inl is ↦ absurd (let e : true ≡ false = sym passes ∙ ap p (sym is) ∙ none in cc) | inr apart ↦ omega (arith, apart) ]

-- layers of which one has a page have one below each number that they end by
union_some : (memory : ℕ) (file : NumberedFile) (stack : List NumberedFile) → EndBy memory (file ∷ stack) → 1 ≤ length file.index.numbers → (1 ≤ memory) × (1 ≤ length (union memory (pages_in (file ∷ stack))))
union_some memory file stack ends some = of file.index.numbers refl some ends.0
  where
    of : (pages : List ℕ) → file.index.numbers ≡ pages → 1 ≤ length pages → AllByRecursion (λ page. page < memory) pages → (1 ≤ memory) × (1 ≤ length (union memory (pages_in (file ∷ stack))))
    of [] is none all = absurd (omega arith)
    of (page ∷ pages) is some all =
        let p : ℕ → Bool = λ page. list_any (has_page page) (pages_in (file ∷ stack)) in
        let here : has_page page (page ∷ pages) ≡ true = rw (eq-eqb page page refl) refl in
        let there : has_page page file.index.numbers ≡ true = subst (λ (l : List ℕ). has_page page l ≡ true) (sym is) here in
        let passes : p page ≡ true = rw there refl in
        (omega (arith, all.0), chosen_has p page memory 0 (omega arith) (omega (arith, all.0)) passes)

few_chosen : (p : ℕ → Bool) (n s : ℕ) → length (filter p (range_with_len s n)) ≤ n
few_chosen p zero s = omega arith
few_chosen p (suc n) s = elim (cases_Bool (p s)) [ inl hit ↦ rw hit (omega (arith, few_chosen p n (s + 1))) | inr miss ↦ rw miss (omega (arith, few_chosen p n (s + 1))) ]

-- ---- all pages of the memory, or those that some layer has

pub few_merged : (memory : ℕ) (oldest : Bool) (layers : List (List ℕ)) → length (merged_pages memory oldest layers) ≤ memory
unfolding merged_pages
few_merged memory oldest layers = elim (cases_Bool (oldest && nat_le memory (2 * length (union memory layers)))) [
  | inl hit ↦ rw hit (omega (arith, length-range_with_len 0 memory))
  | inr miss ↦ rw miss (few_chosen (λ page. list_any (has_page page) layers) memory 0)
]

pub merged_all : (memory : ℕ) (oldest : Bool) (layers : List (List ℕ)) → (oldest && nat_le memory (2 * length (union memory layers))) ≡ true → merged_pages memory oldest layers ≡ range_with_len 0 memory
unfolding merged_pages
merged_all memory oldest layers hit = rw hit refl

pub merged_some : (memory : ℕ) (oldest : Bool) (layers : List (List ℕ)) → (oldest && nat_le memory (2 * length (union memory layers))) ≡ false → merged_pages memory oldest layers ≡ union memory layers
unfolding merged_pages
merged_some memory oldest layers miss = rw miss refl

merged_is_index : (memory from : ℕ) (file : NumberedFile) (stack : List NumberedFile) → memory ≤ MAX_MEMORY_PAGES → EndBy memory (file ∷ stack) → 1 ≤ length file.index.numbers → IsIndex (merged_index memory from (file ∷ stack))
unfolding merged_pages
merged_is_index memory from file stack few ends some =
    let p : ℕ → Bool = λ page. list_any (has_page page) (pages_in (file ∷ stack)) in
    let there = union_some memory file stack ends some in
    elim (cases_Bool ((from == 0) && nat_le memory (2 * length (union memory (pages_in (file ∷ stack)))))) [
      | inl hit ↦ rw hit (subst (λ (l : List ℕ). IsIndex (record { memory = memory; numbers = l })) (chosen_are_all memory 0)
          (chosen_is_index (λ page. true) memory few there.0 (omega (arith, there.0, ap (λ (l : List ℕ). length l) (chosen_are_all memory 0), length-range_with_len 0 memory))))
      | inr miss ↦ rw miss (chosen_is_index p memory few there.0 there.1)
    ]

is_first : (from n memory : ℕ) → from ≡ 0 → memory ≤ n → ((from == 0) && nat_le memory n) ≡ true
is_first from n memory is le = grind (arith, nat_tests)

is_more : (from n memory : ℕ) → n < memory → ((from == 0) && nat_le memory n) ≡ false
is_more from n memory lt = elim (cases_Bool (from == 0)) [ inl hit ↦ rw hit (grind (arith, nat_tests)) | inr miss ↦ rw miss refl ]

is_later : (from n memory : ℕ) → (from ≡ 0 → ⊥) → ((from == 0) && nat_le memory n) ≡ false
is_later from n memory ne = elim (cases_Bool (from == 0)) [ inl hit ↦ absurd (ne (eqb-true from 0 hit)) | inr miss ↦ rw miss refl ]

-- what is chosen, by the pages that some layer has
module _ (memory from : ℕ) (stack : List NumberedFile) (pages : List ℕ) (are : pages ≡ union memory (pages_in (drop from stack))) where
  pub chosen_all : from ≡ 0 → memory ≤ 2 * length pages → merged_pages memory (from == 0) (pages_in (drop from stack)) ≡ range_with_len 0 memory
  chosen_all is le = merged_all memory (from == 0) (pages_in (drop from stack)) (is_first from (2 * length (union memory (pages_in (drop from stack)))) memory is (omega (arith, le, ap (λ (l : List ℕ). length l) are)))

  pub chosen_more : 2 * length pages < memory → pages ≡ merged_pages memory (from == 0) (pages_in (drop from stack))
  chosen_more lt = are ∙ sym (merged_some memory (from == 0) (pages_in (drop from stack)) (is_more from (2 * length (union memory (pages_in (drop from stack)))) memory (omega (arith, lt, ap (λ (l : List ℕ). length l) are))))

  pub chosen_later : (from ≡ 0 → ⊥) → pages ≡ merged_pages memory (from == 0) (pages_in (drop from stack))
  chosen_later ne = are ∙ sym (merged_some memory (from == 0) (pages_in (drop from stack)) (is_later from (2 * length (union memory (pages_in (drop from stack)))) memory ne))

pub index_of_stack : (memory from at : ℕ) (stack : List NumberedFile) → at < length stack → 1 ≤ slice_index (sizes_of stack) at → EndBy memory stack → memory ≤ MAX_MEMORY_PAGES → IsIndex (merged_index memory from (drop at stack))
index_of_stack memory from at [] below some ends few = absurd (omega arith)
index_of_stack memory from zero (file ∷ stack) below some ends few = merged_is_index memory from file stack few ends some
index_of_stack memory from (suc at) (file ∷ stack) below some ends few = index_of_stack memory from at stack (omega arith) some ends.1 few

pub ends_dropped : (memory at : ℕ) (stack : List NumberedFile) → EndBy memory stack → EndBy memory (drop at stack)
ends_dropped memory zero stack ends = ends
ends_dropped memory (suc at) [] ends = tt
ends_dropped memory (suc at) (file ∷ stack) ends = ends_dropped memory at stack ends.1

-- ---- of results

pub one_more : (n : ℕ) (old new : List ℕ) → old ≡ range_with_len 0 n → new ≡ old ++ n ∷ [] → new ≡ range_with_len 0 (n + 1)
one_more n old new was is =
    is ∙ ap (λ (l : List ℕ). l ++ n ∷ []) was
    ∙ ap (λ (l : List ℕ). l ++ n ∷ []) (sym (map-id (range_with_len 0 n)))
    ∙ sym (map-range_with_len_more (λ (x : ℕ). x) 0 n n (omega arith))
    ∙ map-id (range_with_len 0 (n + 1))

pub ok_is : (r : Result (Vec ℕ Global) NoMemory) {a b : List ℕ} → a ≡ b → IfOk r (λ v. v.items ≡ b) → IfOk r (λ v. v.items ≡ a)
ok_is (Ok v) same is = is ∙ sym same
ok_is (Err e) same is = tt

pub ok_any : {P : Type 0} (r : Result (Vec ℕ Global) NoMemory) → P → OnOk r P
ok_any (Ok v) p = p
ok_any (Err e) p = tt
