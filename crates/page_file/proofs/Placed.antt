-- The ranges of an index, from its pages.
use Rattle.std.proofs.Common.{◌≡◌, ℕ, suc, ◌+◌, ◌<◌, ◌≤◌, true, ◌==◌, List, [], ◌∷◌, ◌++◌, length, refl, sym, ◌∙◌, ap, subst, arith, inl, inr}
use Rattle.std.specs.List.{range_with_len, AllByRecursion, list_all}
use Rattle.std.specs.Ordering.{nat_cmp, is_lt}
use Rattle.std.proofs.lemmas.Bool.{and_parts, cases_Bool, eqb-true, eqb-false}
use Rattle.std.proofs.lemmas.Bool.Decides.{nat_tests}
use Rattle.format_spec.specs.Bytes.{ascending}
use Rattle.page_spec.specs.PageFile.{runs_of, before_runs}
use Rattle.page_file.specs.declared.range.Range.{Range}
use Rattle.page_file.specs.Ranges.{numbers_in, AreRanges}

-- the ranges of these runs, with so many pages before them
abbrev pub placed : ℕ → List (ℕ × ℕ) → List Range
placed p [] = []
placed p (r ∷ rs) = record { first = r.0; length = r.1; place = p } ∷ placed (p + r.1) rs

pub length_placed : (p : ℕ) (rs : List (ℕ × ℕ)) → length (placed p rs) ≡ length rs
length_placed p [] = refl
length_placed p (r ∷ rs) = ap suc (length_placed (p + r.1) rs)

-- a page in front of these runs
module _ (m n : ℕ) where
  abbrev Front : List (ℕ × ℕ) → Type 0
  Front rs = (p : ℕ) → AreRanges m (n + 1) p (placed p rs)

  front : (rs : List (ℕ × ℕ)) → n < m → Front rs → (l p : ℕ) → l ≤ n → AreRanges m l p (placed p (before_runs n rs))
  front [] lt are l p le = (le, omega arith, omega arith, refl, tt)
  front (r ∷ rs) lt are l p le = elim (cases_Bool (r.0 == n + 1)) [
    | inl same ↦ rw same (joined (eqb-true _ _ same) (are (p + 1)))
    | inr apart ↦ rw apart (let first = are (p + 1) in (le, omega arith, omega arith, refl, (far (eqb-false _ _ apart) first.0, first.1, first.2, refl, first.4)))
  ]
    where
      far : (r.0 ≡ n + 1 → ⊥) → n + 1 ≤ r.0 → n + 1 + 1 ≤ r.0
      far ne le = omega (arith, ne)

      joined : r.0 ≡ n + 1 → AreRanges m (n + 1) (p + 1) (placed (p + 1) (r ∷ rs)) → AreRanges m l p (placed p ((n, r.1 + 1) ∷ rs))
      joined is h = let at : r.0 + r.1 + 1 ≡ n + (r.1 + 1) + 1 = omega (arith, is) in let from : p + 1 + r.1 ≡ p + (r.1 + 1) = omega arith in
          (le, omega arith, omega (arith, h.2, is), refl, subst (λ e. AreRanges m e (p + (r.1 + 1)) (placed (p + (r.1 + 1)) rs)) at (subst (λ q. AreRanges m (r.0 + r.1 + 1) q (placed q rs)) from h.4))

pub tail_below : (n : ℕ) (ns : List ℕ) → ascending nat_cmp (n ∷ ns) ≡ true → AllByRecursion (λ k. n + 1 ≤ k) ns × (ascending nat_cmp ns ≡ true)
tail_below n ns h = let parts = and_parts (list_all (λ j. is_lt (nat_cmp n j)) ns) (ascending nat_cmp ns) h in (all ns parts.0, parts.1)
  where
    all : (ns : List ℕ) → list_all (λ j. is_lt (nat_cmp n j)) ns ≡ true → AllByRecursion (λ k. n + 1 ≤ k) ns
    all [] h = tt
    all (k ∷ ns) h = let parts = and_parts (is_lt (nat_cmp n k)) (list_all (λ j. is_lt (nat_cmp n j)) ns) h in (above k parts.0, all ns parts.1)
      where
        above : (k : ℕ) → is_lt (nat_cmp n k) ≡ true → n + 1 ≤ k
        above k h = grind (arith, nat_tests)

-- Pages that ascend within a memory have such ranges.
pub placed_are : (m : ℕ) (ns : List ℕ) → ascending nat_cmp ns ≡ true → AllByRecursion (λ n. n < m) ns → (l p : ℕ) → AllByRecursion (λ n. l ≤ n) ns → AreRanges m l p (placed p (runs_of ns))
placed_are m [] asc within l p from = tt
placed_are m (n ∷ ns) asc within l p from = let parts = tail_below n ns asc in front m n (runs_of ns) within.0 (λ q. placed_are m ns parts.1 within.1 (n + 1) q parts.0) l p from.0

numbers_front : (n p : ℕ) (rs : List (ℕ × ℕ)) → numbers_in (placed p (before_runs n rs)) ≡ n ∷ numbers_in (placed (p + 1) rs)
numbers_front n p [] = refl
numbers_front n p (r ∷ rs) = elim (cases_Bool (r.0 == n + 1)) [
  | inl same ↦ rw same (let more : r.1 + 1 ≡ suc r.1 = omega arith in
      (λ i. range_with_len n (more i) ++ numbers_in (placed (p + (r.1 + 1)) rs)) ∙ ap (λ (l : List ℕ). n ∷ l) (joined (eqb-true _ _ same)))
  | inr apart ↦ rw apart refl
]
  where
    joined : r.0 ≡ n + 1 → range_with_len (n + 1) r.1 ++ numbers_in (placed (p + (r.1 + 1)) rs) ≡ range_with_len r.0 r.1 ++ numbers_in (placed (p + 1 + r.1) rs)
    joined is = let at : p + (r.1 + 1) ≡ p + 1 + r.1 = omega arith in (λ i. range_with_len (sym is i) r.1 ++ numbers_in (placed (at i) rs))

pub numbers_placed : (p : ℕ) (ns : List ℕ) → numbers_in (placed p (runs_of ns)) ≡ ns
numbers_placed p [] = refl
numbers_placed p (n ∷ ns) = numbers_front n p (runs_of ns) ∙ ap (λ (l : List ℕ). n ∷ l) (numbers_placed (p + 1) ns)
