-- Numbers in a list: those that are there, taken out, and made.
use Rattle.std.proofs.Common.{◌≡◌, inl, inr, ℕ, zero, suc, ◌+◌, ◌-◌, ◌<◌, ◌==◌, ◌||◌, not, cond, Bool, true, false, List, [], ◌∷◌, ◌++◌, length, map, filter, take, get_or, slice_index_or, slice_set, refl, sym, ap, ◌∙◌, subst, arith, if◌then◌else◌}
use Rattle.std.specs.List.{list_any, range_with_len}
use Rattle.std.proofs.lemmas.Bool.{eqb-true, eq-eqb}
use Rattle.std.proofs.Math.Bool.{or-true}
use Rattle.std.proofs.lemmas.List.Elements.{filter_agree}
use Rattle.std.proofs.lemmas.List.Folds.{list_any_more}
use Rattle.std.proofs.lemmas.List.FromFn.{length-range_with_len}
use Rattle.slot_links.specs.Lists.{Lists, Has, IsApart, IsIn, IsUnlinked, without, lists_without, members_of}
use Rattle.format_spec.proofs.Lists.{cases_eqb}
use Rattle.slot_links.proofs.Paths.{without-absent, Has-without}
use Rattle.sync_spec.proofs.Missing.{filter_twice}
use Rattle.sync_core.specs.Linked.{numbers_of, IsOneList, IsThere}

-- ---- tests

both_ways : true ≡ false → ⊥
both_ways e = cc

pub eqb_swap : (a b : ℕ) → (a == b) ≡ (b == a)
eqb_swap a b = by (a == b) refl (b == a) refl
  where
    by : (p : Bool) → (a == b) ≡ p → (q : Bool) → (b == a) ≡ q → (a == b) ≡ (b == a)
    by true e true f = e ∙ sym f
    by true e false f = absurd (both_ways (sym (eq-eqb b a (sym (eqb-true a b e))) ∙ f))
    by false e true f = absurd (both_ways (sym (eq-eqb a b (sym (eqb-true b a f))) ∙ e))
    by false e false f = e ∙ sym f

-- nothing is taken out that isn't there
pub filter_absent : {X : Type 0} (p : X → Bool) (xs : List X) → list_any p xs ≡ false → filter (λ x. not (p x)) xs ≡ xs
filter_absent p [] h = refl
filter_absent {X} p (x ∷ xs) h = by (p x) refl (filter_absent p xs)
  where
    by : (b : Bool) → p x ≡ b → (list_any p xs ≡ false → filter (λ y. not (p y)) xs ≡ xs) → filter (λ y. not (p y)) (x ∷ xs) ≡ x ∷ xs
    by true e rest = absurd (both_ways (ap (λ b. b || list_any p xs) (sym e) ∙ h))
    by false e rest =
        ap (λ b. cond (not b) (x ∷ filter (λ y. not (p y)) xs) (filter (λ y. not (p y)) xs)) e
        ∙ ap (λ (ys : List X). x ∷ ys) (rest (ap (λ b. b || list_any p xs) (sym e) ∙ h))

-- ---- which numbers are there

pub has_any : (n : ℕ) (xs : List ℕ) → Has n xs → list_any (λ j. j == n) xs ≡ true
has_any n [] has = absurd has
has_any n (x ∷ xs) (inl e) = ap (λ b. b || list_any (λ j. j == n) xs) (eq-eqb x n (sym e))
has_any n (x ∷ xs) (inr has) = ap (λ b. (x == n) || b) (has_any n xs has) ∙ or-true (x == n)

pub any_has : (n : ℕ) (xs : List ℕ) → list_any (λ j. j == n) xs ≡ true → Has n xs
any_has n [] e = absurd (both_ways (sym e))
any_has n (x ∷ xs) e = by (x == n) refl (any_has n xs)
  where
    by : (b : Bool) → (x == n) ≡ b → (list_any (λ j. j == n) xs ≡ true → Has n xs) → Has n (x ∷ xs)
    by true f rest = inl (sym (eqb-true x n f))
    by false f rest = inr (rest (ap (λ b. b || list_any (λ j. j == n) xs) (sym f) ∙ e))

pub has_none : (n : ℕ) (xs : List ℕ) → (Has n xs → ⊥) → list_any (λ j. j == n) xs ≡ false
has_none n xs absent = by (list_any (λ j. j == n) xs) refl
  where
    by : (b : Bool) → list_any (λ j. j == n) xs ≡ b → b ≡ false
    by true e = absurd (absent (any_has n xs e))
    by false e = refl

-- ---- a number is taken out

pub filter_without : (n : ℕ) (xs : List ℕ) → without n xs ≡ filter (λ j. not (j == n)) xs
filter_without n [] = refl
filter_without n (x ∷ xs) =
    ap (λ (ys : List ℕ). if n == x then ys else x ∷ ys) (filter_without n xs)
    ∙ by (n == x)
    ∙ ap (λ b. cond (not b) (x ∷ filter (λ j. not (j == n)) xs) (filter (λ j. not (j == n)) xs)) (eqb_swap n x)
  where
    by : (b : Bool) → (if b then filter (λ j. not (j == n)) xs else x ∷ filter (λ j. not (j == n)) xs) ≡ cond (not b) (x ∷ filter (λ j. not (j == n)) xs) (filter (λ j. not (j == n)) xs)
    by true = refl
    by false = refl

pub length_without : (n : ℕ) (xs : List ℕ) → IsApart xs → Has n xs → length (without n xs) + 1 ≡ length xs
length_without n [] apart has = absurd has
length_without n (x ∷ xs) apart has = elim (cases_eqb n x) [
  | inl h ↦ rw h.1 (let e : without n xs ≡ xs = without-absent n xs (λ p. apart.0 (subst (λ (k : ℕ). Has k xs) h.0 p)) in omega (arith, ap (λ (ys : List ℕ). length ys) e))
  | inr h ↦ rw h.1 (elim has [ inl e ↦ absurd (h.0 e) | inr rest ↦ omega (arith, length_without n xs apart.1 rest) ])
]

pub numbers_without : (links : Lists) (n : ℕ) → numbers_of (lists_without links n) ≡ without n (numbers_of links)
numbers_without links n = by links.members
  where
    by : (ms : List (List ℕ)) → slice_index_or (map (without n) ms) 0 [] ≡ without n (slice_index_or ms 0 [])
    by [] = refl
    by (m ∷ ms) = refl

pub one_list : (links : Lists) (n : ℕ) → length links.members ≡ 1 → length (lists_without links n).members ≡ 1
one_list links n e = by links.members ∙ e
  where
    by : (ms : List (List ℕ)) → length (map (without n) ms) ≡ length ms
    by [] = refl
    by (m ∷ ms) = ap (λ k. suc k) (by ms)

pub within_still : (n count : ℕ) (xs : List ℕ) → ((k : ℕ) → Has k xs → k < count) → (k : ℕ) → Has k (without n xs) → k < count
within_still n count xs within k has = within k (Has-without k n xs has).1

-- ---- the numbers from 0 on

pub has_range : (a c k : ℕ) → Has k (range_with_len a c) → k < a + c
has_range a zero k has = absurd has
has_range a (suc c) k (inl e) = omega (arith, e)
has_range a (suc c) k (inr has) = omega (arith, has_range (a + 1) c k has)

range_suc : (a n : ℕ) → range_with_len a (suc n) ≡ range_with_len a n ++ (a + n) ∷ []
range_suc a zero = ap (λ k. k ∷ []) (let e : a ≡ a + 0 = omega arith in e)
range_suc a (suc n) =
    let e : a + 1 + n ≡ a + suc n = omega arith in
    ap (λ (ks : List ℕ). a ∷ ks) (range_suc (a + 1) n ∙ ap (λ k. range_with_len (a + 1) n ++ k ∷ []) e)

pub range_more : (n : ℕ) → range_with_len 0 (n + 1) ≡ range_with_len 0 n ++ n ∷ []
range_more n =
    let e : n + 1 ≡ suc n = omega arith in
    let z : 0 + n ≡ n = omega arith in
    ap (λ k. range_with_len 0 k) e ∙ range_suc 0 n ∙ ap (λ k. range_with_len 0 n ++ k ∷ []) z

abbrev pub first_linked : ℕ → ℕ → Lists
first_linked count n = record { items = count; members = range_with_len 0 n ∷ [] }

pub not_linked : (links : Lists) (count n : ℕ) → links ≡ first_linked count n → IsUnlinked links n
not_linked links count n e = subst (λ (l : Lists). IsUnlinked l n) (sym e) absent
  where
    absent : IsUnlinked (first_linked count n) n
    absent zero h = let k = has_range 0 n n h.1 in absurd (omega (arith, k))
    absent (suc list) h = let k = h.0 in absurd (omega (arith, k))

pub one_more : (links new : Lists) (count n : ℕ) → links ≡ first_linked count n → new ≡ record links { members = slice_set links.members 0 (members_of links 0 ++ n ∷ []) } → new ≡ first_linked count (n + 1)
one_more links new count n e f =
    f
    ∙ ap (λ (l : Lists). record l { members = slice_set l.members 0 (members_of l 0 ++ n ∷ []) }) e
    ∙ ap (λ (ks : List ℕ). record { items = count; members = ks ∷ [] }) (sym (range_more n))

-- ---- numbers but those of a list

but_more : (had : List ℕ) (k count d : ℕ) → k < length had
    → filter (λ j. not (j == get_or had k d)) (filter (λ i. not (list_any (λ j. j == i) (take k had))) (range_with_len 0 count)) ≡ filter (λ i. not (list_any (λ j. j == i) (take (k + 1) had))) (range_with_len 0 count)
but_more had k count d below =
    filter_twice (λ i. list_any (λ j. j == i) (take k had)) (λ i. i == get_or had k d) (range_with_len 0 count)
    ∙ filter_agree (λ i. not (list_any (λ j. j == i) (take k had) || (i == get_or had k d))) (λ i. not (list_any (λ j. j == i) (take (k + 1) had))) (λ i. ap not (same i)) (range_with_len 0 count)
  where
    same : (i : ℕ) → (list_any (λ j. j == i) (take k had) || (i == get_or had k d)) ≡ list_any (λ j. j == i) (take (k + 1) had)
    same i = ap (λ b. list_any (λ j. j == i) (take k had) || b) (eqb_swap i (get_or had k d)) ∙ sym (list_any_more (λ j. j == i) had k d below)

-- a turn of the loop: the number at k is taken out
pub but_step : (had : List ℕ) (k count d n : ℕ) (xs new : List ℕ) → new ≡ filter (λ j. not (j == n)) xs → n ≡ get_or had k d → xs ≡ filter (λ i. not (list_any (λ j. j == i) (take k had))) (range_with_len 0 count) → k < length had
    → new ≡ filter (λ i. not (list_any (λ j. j == i) (take (k + 1) had))) (range_with_len 0 count)
but_step had k count d n xs new e same before below =
    e
    ∙ ap (λ (m : ℕ). filter (λ j. not (j == m)) xs) same
    ∙ ap (λ (ys : List ℕ). filter (λ j. not (j == get_or had k d)) ys) before
    ∙ but_more had k count d below

pub but_none : (had xs : List ℕ) → xs ≡ filter (λ i. not (list_any (λ j. j == i) (take 0 had))) xs
but_none had [] = refl
but_none had (x ∷ xs) = ap (λ (ys : List ℕ). x ∷ ys) (but_none had xs)

-- ---- the one list

pub in_list : (links : Lists) (n list : ℕ) → length links.members ≡ 1 → IsIn links list n → Has n (numbers_of links)
in_list links n list one h = let z : list ≡ 0 = omega (arith, h.0, one) in subst (λ (k : ℕ). Has n (members_of links k)) z h.1

pub not_in_list : (links : Lists) (n : ℕ) → length links.members ≡ 1 → IsUnlinked links n → Has n (numbers_of links) → ⊥
not_in_list links n one h has = let z : 0 < length links.members = omega (arith, one) in h 0 (z, has)

pub first_sound : (links : Lists) (count : ℕ) → links ≡ first_linked count count → IsOneList links count count
first_sound links count e = subst (λ (l : Lists). IsOneList l count count) (sym e) (record {
  one = refl;
  items = refl;
  within = λ n has. let h = has_range 0 count n has in omega (arith, h);
  as_many = length-range_with_len 0 count;
})

pub unlinked_sound : (links new : Lists) (n count left : ℕ) → IsOneList links count left → IsThere links n → new ≡ lists_without links n → IsOneList new count (left - 1)
unlinked_sound links new n count left s there e = subst (λ (l : Lists). IsOneList l count (left - 1)) (sym e) (record {
  one = one_list links n s.one;
  items = s.items;
  within = λ k has. within_still n count (numbers_of links) s.within k (subst (λ (xs : List ℕ). Has k xs) (numbers_without links n) has);
  as_many = let l = length_without n (numbers_of links) there.apart there.linked.1 in let f = ap (λ (xs : List ℕ). length xs) (numbers_without links n) in omega (arith, f, l, s.as_many);
})
