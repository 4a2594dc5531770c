-- Lemmas on lists and tests that std has not, or not in this form.
use Rattle.std.proofs.Common.{◌≡◌, ◌≢◌, ◌⊎◌, inl, inr, ℕ, ◌+◌, Bool, true, false, cond, ◌&&◌, eqb, List, [], ◌∷◌, ◌++◌, drop, filter, reverse, slice_get, Option, Some, None, Result, Ok, Err, OnErr, refl, sym, ap, subst, ◌∙◌, append_assoc, T, ◌<◌, nat_lt, ◌==◌}
use Rattle.std.proofs.lemmas.Bool.{eqb-true, eqb-false, cases_Bool, ltb-true}
use Rattle.std.proofs.lemmas.List.{append-nil, drop_more, reverse-append}
use Rattle.std.proofs.lemmas.Option.{same_Some, slice_get_within, get_or_from_slice_get}
use Rattle.std.specs.List.{AllByRecursion, last_or}
use Rattle.std.specs.Ordering.{is_lt, nat_cmp}
use Rattle.std.specs.declared.cmp.Ordering.TheVariants.{Less, Equal, Greater}

-- ---- tests

pub and_false : (a b : Bool) → b ≡ false → (a && b) ≡ false
and_false true b e = e
and_false false b e = refl

pub from_T : (b : Bool) → T b → b ≡ true
from_T true t = refl
from_T false t = absurd t

pub to_T : (b : Bool) → b ≡ true → T b
to_T true e = tt
to_T false e = absurd cc

pub cases_eqb : (a b : ℕ) → ((a ≡ b) × (eqb a b ≡ true)) ⊎ ((a ≢ b) × (eqb a b ≡ false))
cases_eqb a b = elim (cases_Bool (eqb a b)) [ inl h ↦ inl (eqb-true a b h, h) | inr h ↦ inr (eqb-false a b h, h) ]

pub below_is : (a b : ℕ) → is_lt (nat_cmp a b) ≡ true → a < b
below_is a b h = elim (cases_Bool (nat_lt a b)) [
  | inl below ↦ ltb-true a b below
  | inr not ↦ absurd (none (a == b) (ap (λ (t : Bool). is_lt (cond t Less (cond (a == b) Equal Greater))) (sym not) ∙ h))
]
  where
    none : (t : Bool) → is_lt (cond t Equal Greater) ≡ true → ⊥
    none true f = cc
    none false f = cc

-- ---- values that may be there

pub some_once : {X : Type 0} (a b : X) (o : Option X) → o ≡ Some a → o ≡ Some b → a ≡ b
some_once a b o p q = same_Some a b (sym p ∙ q)

pub none_or_some : {X : Type 0} (a : X) (o : Option X) → o ≡ None → o ≡ Some a → ⊥
none_or_some a o p q = cc

pub on_err : {X E P : Type 0} (r : Result X E) → P → OnErr r P
on_err (Ok x) p = tt
on_err (Err e) p = p

-- ---- lists joined

pub regroup_three : {X : Type 0} (a b c : List X) → a ++ (b ++ (c ++ [])) ≡ (a ++ b) ++ c
regroup_three a b c = simp (append_assoc, append-nil)

pub apart_four : {X : Type 0} (a b c d : List X) → ((a ++ b) ++ c) ++ d ≡ a ++ (b ++ (c ++ d))
apart_four a b c d = simp append_assoc

pub apart_five : {X : Type 0} (a b c d e : List X) → (((a ++ b) ++ c) ++ d) ++ e ≡ a ++ (b ++ (c ++ (d ++ e)))
apart_five a b c d e = simp append_assoc

-- ---- places

pub drop_found : {X : Type 0} (xs : List X) (i : ℕ) (x : X) → slice_get xs i ≡ Some x → drop i xs ≡ x ∷ drop (i + 1) xs
drop_found {X} xs i x is = drop_more xs i x (slice_get_within xs i x is) ∙ ap (λ (y : X). y ∷ drop (i + 1) xs) (get_or_from_slice_get xs i x x is)

pub last_or-push : {X : Type 0} (o : Option X) (xs : List X) (x : X) → last_or o (xs ++ x ∷ []) ≡ Some x
last_or-push o [] x = refl
last_or-push o (y ∷ ys) x = last_or-push (Some y) ys x

-- ---- each element

pub every : {X : Type 0} (P : X → Type 0) → ((x : X) → P x) → (xs : List X) → AllByRecursion P xs
every P f [] = tt
every P f (x ∷ xs) = (f x, every P f xs)

pub all_join : {X : Type 0} (P : X → Type 0) (xs ys : List X) → AllByRecursion P xs → AllByRecursion P ys → AllByRecursion P (xs ++ ys)
all_join P [] ys p q = q
all_join P (x ∷ xs) ys p q = (p.0, all_join P xs ys p.1 q)

pub all_parts : {X : Type 0} (P : X → Type 0) (xs ys : List X) → AllByRecursion P (xs ++ ys) → AllByRecursion P xs × AllByRecursion P ys
all_parts P [] ys all = (tt, all)
all_parts P (x ∷ xs) ys all = let rest = all_parts P xs ys all.1 in ((all.0, rest.0), rest.1)

pub all_push : {X : Type 0} (P : X → Type 0) (xs : List X) (x : X) → AllByRecursion P xs → P x → AllByRecursion P (xs ++ x ∷ [])
all_push P xs x h p = all_join P xs (x ∷ []) h (p, tt)

pub all_weaker : {X : Type 0} (P Q : X → Type 0) → ((x : X) → P x → Q x) → (xs : List X) → AllByRecursion P xs → AllByRecursion Q xs
all_weaker P Q f [] h = tt
all_weaker P Q f (x ∷ xs) h = (f x h.0, all_weaker P Q f xs h.1)

pub all_reversed : {X : Type 0} (P : X → Type 0) (xs : List X) → AllByRecursion P xs → AllByRecursion P (reverse xs)
all_reversed P [] h = tt
all_reversed P (x ∷ xs) h = subst (AllByRecursion P) (sym (reverse-append (x ∷ []) xs)) (all_push P (reverse xs) x (all_reversed P xs h.1) h.0)

pub all_filtered : {X : Type 0} (P : X → Type 0) (test : X → Bool) (xs : List X) → AllByRecursion P xs → AllByRecursion P (filter test xs)
all_filtered P test [] h = tt
all_filtered P test (x ∷ xs) h = elim (test x) as (λ b. AllByRecursion P (cond b (x ∷ filter test xs) (filter test xs))) [
  | true ↦ (h.0, all_filtered P test xs h.1)
  | false ↦ all_filtered P test xs h.1
]
