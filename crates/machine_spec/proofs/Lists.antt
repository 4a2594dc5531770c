-- What holds of each element of a list, and of each and each later one.
use Rattle.std.proofs.Common.{◌≡◌, Bool, true, false, cond, List, [], ◌∷◌, ◌++◌, map, filter, Option, Some, None, IfSome, subst}
use Rattle.std.specs.List.{AllByRecursion, last_or}
use Rattle.machine_spec.specs.Sound.{EachLater}
use Rattle.format_spec.proofs.Lists.{all_join, all_parts, all_filtered}
use Rattle.std.proofs.lemmas.Option.{same_Some}

-- ---- each element

module _ {X : Type 0} where
  pub both : (P Q R : X → Type 0) → ((x : X) → P x → Q x → R x) → (xs : List X) → AllByRecursion P xs → AllByRecursion Q xs → AllByRecursion R xs
  both P Q R h [] p q = tt
  both P Q R h (x ∷ xs) p q = (h x p.0 q.0, both P Q R h xs p.1 q.1)

pub of_map : {X Y : Type 0} (f : X → Y) (P : Y → Type 0) (xs : List X) → AllByRecursion P (map f xs) → AllByRecursion (λ x. P (f x)) xs
of_map f P [] all = tt
of_map f P (x ∷ xs) all = (all.0, of_map f P xs all.1)

pub to_map : {X Y : Type 0} (f : X → Y) (P : Y → Type 0) (xs : List X) → AllByRecursion (λ x. P (f x)) xs → AllByRecursion P (map f xs)
to_map f P [] all = tt
to_map f P (x ∷ xs) all = (all.0, to_map f P xs all.1)

-- ---- each and each later one

module _ {X : Type 0} (R : X → X → Type 0) where
  pub later_one : (xs : List X) (y : X) → EachLater R xs → AllByRecursion (λ x. R x y) xs → EachLater R (xs ++ y ∷ [])
  later_one [] y each all = (tt, tt)
  later_one (x ∷ xs) y each all = (all_join (R x) xs (y ∷ []) each.0 (all.0, tt), later_one xs y each.1 all.1)

  pub before_one : (xs : List X) (y : X) → EachLater R (xs ++ y ∷ []) → EachLater R xs × AllByRecursion (λ x. R x y) xs
  before_one [] y each = (tt, tt)
  before_one (x ∷ xs) y each =
      let h = all_parts (R x) xs (y ∷ []) each.0 in
      let rest = before_one xs y each.1 in
      ((h.0, rest.0), (h.1.0, rest.1))

  pub later_kept : (t : X → Bool) (xs : List X) → EachLater R xs → EachLater R (filter t xs)
  later_kept t [] each = tt
  later_kept t (x ∷ xs) each = by (t x) (later_kept t xs each.1)
    where
      by : (b : Bool) → EachLater R (filter t xs) → EachLater R (cond b (x ∷ filter t xs) (filter t xs))
      by true rest = (all_filtered (R x) t xs each.0, rest)
      by false rest = rest

pub later_of_map : {X Y : Type 0} (f : X → Y) (R : Y → Y → Type 0) (xs : List X) → EachLater R (map f xs) → EachLater (λ x y. R (f x) (f y)) xs
later_of_map f R [] each = tt
later_of_map f R (x ∷ xs) each = (of_map f (R (f x)) xs each.0, later_of_map f R xs each.1)

pub later_to_map : {X Y : Type 0} (f : X → Y) (R : Y → Y → Type 0) (xs : List X) → EachLater (λ x y. R (f x) (f y)) xs → EachLater R (map f xs)
later_to_map f R [] each = tt
later_to_map f R (x ∷ xs) each = (to_map f (R (f x)) xs each.0, later_to_map f R xs each.1)

-- ---- the last one

pub last_holds : {X : Type 0} (P : X → Type 0) (o : Option X) (xs : List X) (x : X) → IfSome o P → AllByRecursion P xs → last_or o xs ≡ Some x → P x
last_holds P None [] x h all e = absurd cc
last_holds P (Some y) [] x h all e = subst P (same_Some y x e) h
last_holds P o (y ∷ ys) x h all e = last_holds P (Some y) ys x all.0 all.1 e
