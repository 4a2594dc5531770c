-- Layers that no merge takes are few: each has at least twice the pages of all after it.
use Rattle.std.proofs.Common.{◌≡◌, ℕ, zero, suc, ◌+◌, ◌-◌, ◌*◌, ◌^◌, ◌<◌, ◌≤◌, nat_lt, Bool, true, false, List, [], ◌∷◌, length, sum, Option, Some, None, option_map, refl, ap, ◌∙◌, arith}
use Rattle.std.specs.Prelude.{if◌then◌else◌}
use Rattle.std.proofs.lemmas.Bool.{ltb-false}
use Rattle.std.proofs.Math.Nat.{pow-succ'}
use Rattle.std.specs.List.{AllByRecursion, fold}
use Rattle.page_spec.specs.Layers.{plan}

mapped : (found : Option ℕ) → option_map suc found ≡ None → found ≡ None
mapped None e = refl
mapped (Some i) e = absurd cc

-- the oldest layer has at least twice the pages of the others, and no merge takes those
not_less : (size : ℕ) (later : List ℕ) → plan (size ∷ later) ≡ None → (2 * sum later ≤ size) × (plan later ≡ None)
not_less size later none = by (nat_lt size (2 * sum later)) refl none
  where
    by : (b : Bool) → nat_lt size (2 * sum later) ≡ b → (if b then Some 0 else option_map suc (plan later)) ≡ None → (2 * sum later ≤ size) × (plan later ≡ None)
    by true e h = absurd cc
    by false e h = (ltb-false size (2 * sum later) e, mapped (plan later) h)

fold_more : (more start : ℕ) (xs : List ℕ) → fold ◌+◌ (more + start) xs ≡ more + fold ◌+◌ start xs
fold_more more start [] = refl
fold_more more start (x ∷ xs) = let e : more + start + x ≡ more + (start + x) = omega arith in ap (λ (n : ℕ). fold ◌+◌ n xs) e ∙ fold_more more (start + x) xs

sum_first : (x : ℕ) (xs : List ℕ) → sum (x ∷ xs) ≡ x + sum xs
sum_first x xs = let e : 0 + x ≡ x + 0 = omega arith in ap (λ (n : ℕ). fold ◌+◌ n xs) e ∙ fold_more x 0 xs

module _ (most : ℕ) where
  abbrev AreSizes : List ℕ → Type 0
  AreSizes sizes = AllByRecursion (λ size. (1 ≤ size) × (size ≤ most)) sizes

  -- with each layer the sum is three times as large
  threefold : (size : ℕ) (later : List ℕ) → plan (size ∷ later) ≡ None → AreSizes (size ∷ later) → 3 ^ length later ≤ sum (size ∷ later)
  threefold size [] none are = omega (arith, are.0.0, sum_first size [])
  threefold size (next ∷ later) none are =
      let parts = not_less size (next ∷ later) none in
      let more : 3 ^ length (next ∷ later) ≡ 3 * 3 ^ length later = pow-succ' 3 (length later) in
      omega (arith, parts.0, threefold next later parts.1 are.1, sum_first size (next ∷ later), more)

  larger : (k n : ℕ) → 3 ^ n ≤ 3 ^ (n + k)
  larger zero n = let e : n ≡ n + 0 = omega arith in omega (arith, ap (λ (m : ℕ). 3 ^ m) e)
  larger (suc k) n = let e : n + suc k ≡ suc (n + k) = omega arith in omega (arith, larger k n, ap (λ (m : ℕ). 3 ^ m) e)

  pub few_layers : (sizes : List ℕ) (n : ℕ) → plan sizes ≡ None → AreSizes sizes → most < 2 * 3 ^ n → length sizes ≤ n + 1
  few_layers [] n none are less = omega arith
  few_layers (size ∷ []) n none are less = omega arith
  few_layers (size ∷ next ∷ later) n none are less = by (suc (length later) - n) refl
    where
      by : (k : ℕ) → suc (length later) - n ≡ k → length (size ∷ next ∷ later) ≤ n + 1
      by zero e = omega (arith, e)
      by (suc k) e =
          let parts = not_less size (next ∷ later) none in
          let long : n + k ≡ length later = omega (arith, e) in
          absurd (omega (arith, parts.0, threefold next later parts.1 are.1, larger k n, ap (λ (m : ℕ). 3 ^ m) long, are.0.1, less))
