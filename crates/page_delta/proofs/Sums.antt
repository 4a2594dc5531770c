-- Sums over places, after one of them changes.
use Rattle.std.proofs.Common.{◌≡◌, ◌≢◌, inl, inr, ℕ, zero, suc, ◌+◌, ◌*◌, ◌<◌, ◌≤◌, List, [], ◌∷◌, length, get_or, Option, Some, None, is_some, count_by, cond, refl, sym, ap, ◌∙◌, arith}
use Rattle.std.proofs.lemmas.Bool.{cases_eq}
use Rattle.std.proofs.lemmas.List.Recursion.{is_count_by}
use Rattle.page_delta.specs.Totals.{total}

module _ {X : Type 0} (w : Option X → ℕ) (none : w None ≡ 0) where
  pub total-none : (ys : List (Option X)) → ((k : ℕ) → w (get_or ys k None) ≡ 0) → total w ys ≡ 0
  total-none [] z = refl
  total-none (y ∷ ys) z = let rest = total-none ys (λ k. z (suc k)) in let here = z 0 in omega arith

  pub total-same : (xs ys : List (Option X)) → ((k : ℕ) → w (get_or ys k None) ≡ w (get_or xs k None)) → total w ys ≡ total w xs
  total-same [] ys same = total-none ys (λ k. same k ∙ none)
  total-same (x ∷ xs) [] same = sym (total-none (x ∷ xs) (λ k. sym (same k) ∙ none))
  total-same (x ∷ xs) (y ∷ ys) same =
      let rest = total-same xs ys (λ k. same (suc k)) in let here = same 0 in omega arith

  -- another thing at one place
  pub total-moved : (xs ys : List (Option X)) (key : ℕ) → ((k : ℕ) → k ≢ key → w (get_or ys k None) ≡ w (get_or xs k None)) → total w ys + w (get_or xs key None) ≡ total w xs + w (get_or ys key None)
  total-moved [] [] key same = refl
  total-moved [] (y ∷ ys) zero same =
      let rest = total-none ys (λ k. same (suc k) (λ e. omega arith) ∙ none) in omega (arith, none)
  total-moved [] (y ∷ ys) (suc key) same =
      let rest = total-moved [] ys key (λ k ne. same (suc k) (λ e. ne (omega arith))) in
      let here = same 0 (λ e. omega arith) in omega (arith, none)
  total-moved (x ∷ xs) [] zero same =
      let rest = total-none xs (λ k. sym (same (suc k) (λ e. omega arith)) ∙ none) in omega (arith, none)
  total-moved (x ∷ xs) [] (suc key) same =
      let rest = total-moved xs [] key (λ k ne. same (suc k) (λ e. ne (omega arith))) in
      let here = same 0 (λ e. omega arith) in omega (arith, none)
  total-moved (x ∷ xs) (y ∷ ys) zero same =
      let rest = total-same xs ys (λ k. same (suc k) (λ e. omega arith)) in omega arith
  total-moved (x ∷ xs) (y ∷ ys) (suc key) same =
      let rest = total-moved xs ys key (λ k ne. same (suc k) (λ e. ne (omega arith))) in
      let here = same 0 (λ e. omega arith) in omega arith

  pub total-has : (xs : List (Option X)) (key : ℕ) → w (get_or xs key None) ≤ total w xs
  total-has [] key = omega (arith, none)
  total-has (x ∷ xs) zero = omega arith
  total-has (x ∷ xs) (suc key) = let rest = total-has xs key in omega arith

  pub total-two : (xs : List (Option X)) (i j : ℕ) → i ≢ j → w (get_or xs i None) + w (get_or xs j None) ≤ total w xs
  total-two [] i j ne = omega (arith, none)
  total-two (x ∷ xs) zero zero ne = absurd (ne refl)
  total-two (x ∷ xs) zero (suc j) ne = let rest = total-has xs j in omega arith
  total-two (x ∷ xs) (suc i) zero ne = let rest = total-has xs i in omega arith
  total-two (x ∷ xs) (suc i) (suc j) ne = let rest = total-two xs i j (λ e. ne (ap suc e)) in omega arith

  pub total-le : (v : Option X → ℕ) (xs : List (Option X)) → ((k : ℕ) → w (get_or xs k None) ≤ v (get_or xs k None)) → total w xs ≤ total v xs
  total-le v [] le = omega arith
  total-le v (x ∷ xs) le = let rest = total-le v xs (λ k. le (suc k)) in let here = le 0 in omega arith

-- what adds up to something has a place that counts
pub total-place : {X : Type 0} (w : Option X → ℕ) → w None ≡ 0 → (xs : List (Option X)) → 0 < total w xs → (k : ℕ) × (0 < w (get_or xs k None))
total-place w none [] some = absurd (omega arith)
total-place w none (x ∷ xs) some = elim (cases_eq (w x) 0) [
  | inl e ↦ let rest = total-place w none xs (omega arith) in (suc rest.0, rest.1)
  | inr ne ↦ (0, omega arith)
]

-- each place counts at most one
pub total-length : {X : Type 0} (w : Option X → ℕ) (xs : List (Option X)) → ((o : Option X) → w o ≤ 1) → total w xs ≤ length xs
total-length w [] le = omega arith
total-length w (x ∷ xs) le = let rest = total-length w xs le in let here = le x in omega arith

abbrev pub present : {X : Type 0} → ℕ → Option X → ℕ
present each None = 0
present each (Some x) = each

-- how many places have something
pub total-present : {X : Type 0} (xs : List (Option X)) → total (present 1) xs ≡ count_by is_some xs
total-present {X} = is_count_by (λ (xs : List (Option X)). total (present 1) xs) is_some refl step
  where
    step : (x : Option X) (xs : List (Option X)) → total (present 1) (x ∷ xs) ≡ cond (is_some x) (1 + total (present 1) xs) (total (present 1) xs)
    step None xs = omega arith
    step (Some x) xs = refl

pub total-present32 : {X : Type 0} (xs : List (Option X)) → total (present 32) xs ≡ 32 * total (present 1) xs
total-present32 [] = omega arith
total-present32 (None ∷ xs) = let rest = total-present32 xs in omega arith
total-present32 (Some x ∷ xs) = let rest = total-present32 xs in omega arith
