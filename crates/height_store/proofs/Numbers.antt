-- The least number that isn't among some that ascend.
use Rattle.std.proofs.Common.{◌≡◌, ℕ, zero, suc, ◌+◌, ◌-◌, ◌≤◌, ◌<◌, Bool, true, false, ◌||◌, List, [], ◌∷◌, length, take, drop, get_or, nat_eq, refl, inl, inr, sym, ◌∙◌, ap, subst, arith}
use Rattle.std.specs.List.{list_any, AllPairs}
use Rattle.std.specs.List.Sorted.{IsStrictlyIncreasing}
use Rattle.std.specs.Prelude.{count_by, cond, nat_lt}
use Rattle.std.proofs.Math.Bool.{or-true}
use Rattle.std.proofs.lemmas.Bool.{cases_Bool, cases_lt, false≢true}
use Rattle.std.proofs.lemmas.Map.Views.{exact_unsigned_eq}
use Rattle.std.proofs.lemmas.Bool.Decides.{nat_tests}
use Rattle.std.proofs.lemmas.List.{take-append-drop, get_or_default, get_or-drop, get_or-take, length-drop, length-take, take_all}
use Rattle.std.proofs.lemmas.List.Folds.{list_any-append, list_any_at}
use Rattle.std.proofs.lemmas.List.Sums.{sum_by-cons}
use Rattle.std.proofs.lemmas.List.Kept.{AllPairs-from_increasing}
use Rattle.height_store.specs.Store.{IsNextFree}

-- a number that stands at no place is none of them
pub is_none : (n : ℕ) (xs : List ℕ) → ((k d : ℕ) → k < length xs → get_or xs k d ≡ n → ⊥) → list_any (nat_eq n) xs ≡ false
is_none n [] apart = refl
is_none n (x ∷ xs) apart =
    let here : nat_eq n x ≡ false = grind (arith, nat_tests, apart 0 0) in
    rw here (is_none n xs (λ k d lt. apart (suc k) d (omega (arith, lt))))

pub is_one : (n : ℕ) (xs : List ℕ) (k d : ℕ) → k < length xs → get_or xs k d ≡ n → list_any (nat_eq n) xs ≡ true
is_one n xs k d lt at = list_any_at (nat_eq n) xs k d lt (let e : nat_eq n (get_or xs k d) ≡ true = grind (arith, nat_tests, at) in e)

module _ (xs : List ℕ) (from i : ℕ) (ascend : AllPairs (λ m n. m < n) xs) (least : (k d : ℕ) → k < length xs → from ≤ get_or xs k d) (run : (k d : ℕ) → k < i → get_or xs k d ≡ from + k) where
  at_least : (j d : ℕ) → j ≡ i → j < length xs → from + j ≤ get_or xs j d
  at_least zero d is lt = omega (arith, least 0 d lt)
  at_least (suc j) d is lt = omega (arith, run j d (omega (arith, is)), ascend j (suc j) d (omega arith) lt)

  above : (k d : ℕ) → i < k → k < length xs → from + i < get_or xs k d
  above k d lt in' = omega (arith, at_least i d refl (omega (arith, lt, in')), ascend i k d lt in')

  -- the numbers so far are one behind the other, and the next isn't
  pub walked : i ≤ length xs → ((d : ℕ) → i < length xs → get_or xs i d ≡ from + i → ⊥) → IsNextFree xs from (from + i)
  walked le differs = record {
    not_before = omega arith;
    free = is_none (from + i) xs (λ k d lt at. elim (cases_lt k i) [
      | inl below ↦ absurd (omega (arith, below, at, run k d below))
      | inr other ↦ elim (cases_lt i k) [
        | inl later ↦ absurd (omega (arith, at, above k d later lt))
        | inr same ↦ let e : k ≡ i = omega (arith, other, same) in differs d (omega (arith, lt, e)) (ap (λ (j : ℕ). get_or xs j d) (sym e) ∙ at)
      ]
    ]);
    least = λ k not_before lt. is_one k xs (k - from) 0 (omega (arith, not_before, lt, le)) (run (k - from) 0 (omega (arith, not_before, lt)) ∙ (let e : from + (k - from) ≡ k = omega (arith, not_before) in e));
  }

-- numbers below the first that is asked for make no difference
pub with_smaller : (xs : List ℕ) (b from n : ℕ) → b ≤ length xs → ((k d : ℕ) → k < b → get_or xs k d < from) → IsNextFree (drop b xs) from n → IsNextFree xs from n
with_smaller xs b from n le below next = record {
  not_before = next.not_before;
  free = split n ∙ rw (is_none n (take b xs) (λ k d lt at. absurd (omega (arith, at, next.not_before, below k d (in_front k lt), sym (get_or-take b xs k d (in_front k lt)))))) next.free;
  least = λ k from_le lt. split k ∙ rw (next.least k from_le lt) (or-true (list_any (nat_eq k) (take b xs)));
}
  where
    in_front : (k : ℕ) → k < length (take b xs) → k < b
    in_front k lt = omega (arith, lt, length-take b xs)

    split : (k : ℕ) → list_any (nat_eq k) xs ≡ (list_any (nat_eq k) (take b xs) || list_any (nat_eq k) (drop b xs))
    split k = ap (list_any (nat_eq k)) (sym (take-append-drop b xs)) ∙ list_any-append (nat_eq k) (take b xs) (drop b xs)

-- what ascends from one to the next ascends behind a place
pub ascends_behind : (xs : List ℕ) (b : ℕ) → IsStrictlyIncreasing xs → AllPairs (λ m n. m < n) (drop b xs)
ascends_behind xs b ascends i j d lt in' =
    let step = AllPairs-from_increasing xs ascends (b + i) (b + j) d (omega (arith, lt)) (omega (arith, in', length-drop b xs)) in
    omega (arith, step, get_or-drop b xs i d, get_or-drop b xs j d)

pub run_more : (xs : List ℕ) (from free i : ℕ) → i < length xs → free ≡ from + i → get_or xs i 0 ≡ free → ((k d : ℕ) → k < i → get_or xs k d ≡ from + k) → (k d : ℕ) → k < i + 1 → get_or xs k d ≡ from + k
run_more xs from free i lt is at run k d below = elim (cases_lt k i) [
  | inl before ↦ run k d before
  | inr other ↦
      let e : k ≡ i = omega (arith, other, below) in
      ap (λ (j : ℕ). get_or xs j d) e ∙ get_or_default xs i d 0 lt ∙ at ∙ is ∙ ap (λ (j : ℕ). from + j) (sym e)
]

-- the walk ends before a number that is another
pub ends_before : (xs : List ℕ) (from free i : ℕ) → AllPairs (λ m n. m < n) xs → ((k d : ℕ) → k < length xs → from ≤ get_or xs k d) → free ≡ from + i → ((k d : ℕ) → k < i → get_or xs k d ≡ from + k)
    → i ≤ length xs → (i < length xs → get_or xs i 0 ≡ free → ⊥) → IsNextFree xs from free
ends_before xs from free i ascend least is run le differs =
    subst (IsNextFree xs from) (sym is) (walked xs from i ascend least run le (λ d lt at. differs lt (get_or_default xs i 0 d lt ∙ at ∙ sym is)))

pub rises : (xs : List ℕ) → IsStrictlyIncreasing xs → (i j d : ℕ) → i ≤ j → j < length xs → get_or xs i d ≤ get_or xs j d
rises xs ascends i j d le in' = elim (cases_lt i j) [
  | inl lt ↦ omega (arith, AllPairs-from_increasing xs ascends i j d lt in')
  | inr other ↦ let e : i ≡ j = omega (arith, le, other) in omega (arith, ap (λ (k : ℕ). get_or xs k d) e)
]

-- a slice up to the end is what is left behind its beginning
pub to_the_end : (xs : List ℕ) (b : ℕ) → take (length xs - b) (drop b xs) ≡ drop b xs
to_the_end xs b = take_all (length xs - b) (drop b xs) (omega (arith, length-drop b xs))

pub ascends_to_the_end : (named seen : List ℕ) (b : ℕ) → seen ≡ named → IsStrictlyIncreasing named → AllPairs (λ m n. m < n) (take (length seen - b) (drop b seen))
ascends_to_the_end named seen b is ascends = subst (AllPairs (λ m n. m < n)) (sym (to_the_end seen b)) (ascends_behind seen b (subst IsStrictlyIncreasing (sym is) ascends))

pub next_of_all : (named seen again : List ℕ) (b from n : ℕ) → seen ≡ named → again ≡ named → b ≤ length seen → ((k d : ℕ) → k < b → get_or seen k d < from) → IsNextFree (take (length again - b) (drop b again)) from n → IsNextFree named from n
next_of_all named seen again b from n is is' le below next =
    with_smaller named b from n (omega (arith, le, ap length is)) (λ k d lt. subst (λ (l : List ℕ). get_or l k d < from) is (below k d lt))
    (subst (λ (l : List ℕ). IsNextFree (drop b l) from n) is' (subst (λ (l : List ℕ). IsNextFree l from n) (to_the_end again b) next))

-- ---- how many are below

abbrev pub below : List ℕ → ℕ → ℕ
below xs k = count_by (λ n. nat_lt n k) xs

below_cons : (x : ℕ) (xs : List ℕ) (k : ℕ) → below (x ∷ xs) k ≡ cond (nat_lt x k) 1 0 + below xs k
below_cons x xs k = sum_by-cons (λ n. cond (nat_lt n k) 1 0) x xs

counts_on : (x k b c : ℕ) → b ≤ c → cond (nat_lt x k) 1 0 + b ≤ cond (nat_lt x (k + 1)) 1 0 + c
counts_on x k b c le = grind (arith, nat_tests, le)

pub below_grows : (xs : List ℕ) (k : ℕ) → below xs k ≤ below xs (k + 1)
below_grows [] k = omega arith
below_grows (x ∷ xs) k = omega (arith, below_cons x xs k, below_cons x xs (k + 1), counts_on x k (below xs k) (below xs (k + 1)) (below_grows xs k))

counts_here : (x k b c : ℕ) → x ≡ k → b ≤ c → cond (nat_lt x k) 1 0 + b + 1 ≤ cond (nat_lt x (k + 1)) 1 0 + c
counts_here x k b c is le = grind (arith, nat_tests, is, le)

counts_there : (x k b c : ℕ) → b + 1 ≤ c → cond (nat_lt x k) 1 0 + b + 1 ≤ cond (nat_lt x (k + 1)) 1 0 + c
counts_there x k b c le = grind (arith, nat_tests, le)

-- one more, where the number is among them
pub below_one : (xs : List ℕ) (k : ℕ) → list_any (nat_eq k) xs ≡ true → below xs k + 1 ≤ below xs (k + 1)
below_one [] k among = absurd (false≢true among)
below_one (x ∷ xs) k among = elim (cases_Bool (nat_eq k x)) [
  | inl here ↦ omega (arith, below_cons x xs k, below_cons x xs (k + 1), counts_here x k (below xs k) (below xs (k + 1)) (sym (exact_unsigned_eq k x here)) (below_grows xs k))
  | inr there ↦ omega (arith, below_cons x xs k, below_cons x xs (k + 1), counts_there x k (below xs k) (below xs (k + 1)) (below_one xs k (subst (λ (b : Bool). (b || list_any (nat_eq k) xs) ≡ true) there among)))
]

-- and as many more as are among them one behind the other
pub below_run : (xs : List ℕ) (from m : ℕ) → ((k : ℕ) → from ≤ k → k < from + m → list_any (nat_eq k) xs ≡ true) → below xs from + m ≤ below xs (from + m)
below_run xs from zero all = let e : from + 0 ≡ from = omega arith in omega (arith, ap (below xs) e)
below_run xs from (suc m) all =
    let e : from + suc m ≡ from + m + 1 = omega arith in
    omega (arith, ap (below xs) e, below_one xs (from + m) (all (from + m) (omega arith) (omega arith)), below_run xs from m (λ k le lt. all k le (omega (arith, lt))))

counts_at_most : (x k b c : ℕ) → b ≤ c → cond (nat_lt x k) 1 0 + b ≤ suc c
counts_at_most x k b c le = grind (arith, nat_tests, le)

pub below_all : (xs : List ℕ) (k : ℕ) → below xs k ≤ length xs
below_all [] k = omega arith
below_all (x ∷ xs) k = omega (arith, below_cons x xs k, counts_at_most x k (below xs k) (length xs) (below_all xs k))

-- what was passed is given or named, once the next free number is given
pub passed_next : (named : List ℕ) (given next n : ℕ) → next ≤ given + below named next → IsNextFree named next n → n + 1 ≤ given + 1 + below named (n + 1)
passed_next named given next n passed free =
    let e : next + (n - next) ≡ n = omega (arith, free.not_before) in
    let run = below_run named next (n - next) (λ k le lt. free.least k le (omega (arith, lt, e))) in
    omega (arith, passed, run, ap (below named) e, below_grows named n, free.not_before)
