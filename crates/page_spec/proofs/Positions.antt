-- Where a number stands among those of a range and of what is behind it.
use Rattle.std.proofs.Common.{◌≡◌, ℕ, zero, suc, ◌+◌, ◌-◌, ◌<◌, ◌≤◌, Bool, true, false, ◌==◌, nat_lt, List, [], ◌∷◌, ◌++◌, length, Option, Some, None, refl, sym, ◌∙◌, ap, arith, cond, inl, inr}
use Rattle.std.specs.List.{range_with_len, AllByRecursion, position, position_or_len}
use Rattle.std.specs.Option.{option_map}
use Rattle.std.proofs.lemmas.Bool.{lt-ltb, le-ltb, eq-eqb, ne_eqb, cases_lt, cases_eq}

abbrev pub plus : ℕ → Option ℕ → Option ℕ
plus k o = option_map (λ i. k + i) o

found : (n m : ℕ) → n < m → cond (nat_lt n m) (Some n) None ≡ Some n
found n m lt = rw (lt-ltb n m lt) refl

position_here : (p : ℕ → Bool) (x : ℕ) (xs : List ℕ) → p x ≡ true → position p (x ∷ xs) ≡ Some 0
position_here p x xs h = rw h (found 0 (suc (length xs)) (omega arith))

counted : (n m : ℕ) → cond (nat_lt (1 + n) (suc m)) (Some (1 + n)) None ≡ plus 1 (cond (nat_lt n m) (Some n) None)
counted n m = elim (cases_lt n m) [
  | inl below ↦ rw (lt-ltb n m below, lt-ltb (1 + n) (suc m) (omega arith)) refl
  | inr past ↦ rw (le-ltb n m past, le-ltb (1 + n) (suc m) (omega arith)) refl
]

pub position_later : (p : ℕ → Bool) (x : ℕ) (xs : List ℕ) → p x ≡ false → position p (x ∷ xs) ≡ plus 1 (position p xs)
position_later p x xs h = rw h (counted (position_or_len p xs) (length xs))

pub plus_plus : (a b : ℕ) (o : Option ℕ) → plus a (plus b o) ≡ plus (a + b) o
plus_plus a b None = refl
plus_plus a b (Some n) = let e : a + (b + n) ≡ a + b + n = omega arith in ap Some e

pub plus_zero : (o : Option ℕ) → plus 0 o ≡ o
plus_zero None = refl
plus_zero (Some n) = let e : 0 + n ≡ n = omega arith in ap Some e

module _ (page : ℕ) where
  abbrev pub is : ℕ → Bool
  is x = x == page

  pub not_there : (l : ℕ) (ns : List ℕ) → AllByRecursion (λ n. l ≤ n) ns → page < l → position is ns ≡ None
  not_there l [] from lt = refl
  not_there l (n ∷ ns) from lt = position_later is n ns (ne_eqb n page (λ e. omega (arith, e, from.0))) ∙ ap (plus 1) (not_there l ns from.1 lt)

  pub past_range : (a n : ℕ) (ns : List ℕ) → a + n ≤ page → position is (range_with_len a n ++ ns) ≡ plus n (position is ns)
  past_range a zero ns le = sym (plus_zero (position is ns))
  past_range a (suc n) ns le =
      let e : 1 + n ≡ suc n = omega arith in
      position_later is a (range_with_len (a + 1) n ++ ns) (ne_eqb a page (λ same. omega (arith, same)))
      ∙ ap (plus 1) (past_range (a + 1) n ns (omega arith)) ∙ plus_plus 1 n (position is ns) ∙ ap (λ (k : ℕ). plus k (position is ns)) e

  pub in_range : (a n : ℕ) (ns : List ℕ) → a ≤ page → page < a + n → position is (range_with_len a n ++ ns) ≡ Some (page - a)
  in_range a zero ns le lt = absurd (omega arith)
  in_range a (suc n) ns le lt = elim (cases_eq a page) [
    | inl same ↦ let e : 0 ≡ page - a = omega (arith, same) in position_here is a (range_with_len (a + 1) n ++ ns) (eq-eqb a page same) ∙ ap Some e
    | inr apart ↦ let e : 1 + (page - (a + 1)) ≡ page - a = omega (arith, apart) in
        position_later is a (range_with_len (a + 1) n ++ ns) (ne_eqb a page apart) ∙ ap (plus 1) (in_range (a + 1) n ns (omega (arith, apart)) (omega arith)) ∙ ap Some e
  ]
