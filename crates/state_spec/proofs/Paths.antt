-- Paths in order, of which none begins another: what stands next to a place tells what conflicts.
use Rattle.state_spec.specs.Places.{IsAbsent}
use Rattle.std.proofs.lemmas.List.Folds.{list_any-append}
use Rattle.std.proofs.Common.{◌≡◌, ℕ, ◌<◌, ◌≤◌, Bool, true, false, not, ◌&&◌, ◌||◌, List, [], ◌∷◌, ◌++◌, length, take, refl, sym, ap, subst, ◌∙◌, arith, ◌+◌, get_or, drop, length-append}
use Rattle.std.specs.List.{AllByRecursion, list_any, list_all}
use Rattle.std.specs.Cmp.Lexicographic.{lists_ties}
use Rattle.std.specs.Cmp.{tied_itself, tied_back, Equal-is}
use Rattle.std.specs.FinMap.{is_sorted}
use Rattle.std.specs.FinMap.Entries.{below_all}
use Rattle.std.specs.Ordering.{is_eq, is_lt, ordering_then}
use Rattle.std.specs.declared.cmp.Ordering.{Ordering}
use Rattle.std.specs.declared.cmp.Ordering.TheVariants.{Less, Equal, Greater}
use Rattle.std.proofs.lemmas.Bool.{and_parts, and_from, not-true}
use Rattle.std.proofs.lemmas.List.{take_at, drop_at, take_more, drop_more, take-append-drop}
use Rattle.format_spec.specs.Bytes.{Bytes, bytes_cmp, same_bytes, path_cmp}
use Rattle.state_spec.specs.State.{is_prefix, is_proper_prefix, has_conflict, are_apart}
use Rattle.state_spec.proofs.Keys.{ids_total, ids_apart, paths_total}
use Rattle.state_spec.proofs.Places.{greater_from_less, above_from_sorted}
use Rattle.format_spec.proofs.Lists.{all_parts}

-- ---- the test of a prefix

pub prefix_by_cmp : (p q : List Bytes) → is_prefix p q ≡ is_eq (path_cmp p (take (length p) q))
prefix_by_cmp p q = lists_ties bytes_cmp (λ x y. refl) p (take (length p) q)

-- ---- between a path and its extensions there are only extensions

-- l is at most m, and m at most l
pub squeezed : (l m : Bytes) (r s : Ordering) → ordering_then (bytes_cmp l m) r ≡ Less → ordering_then (bytes_cmp m l) s ≡ Less → (l ≡ m) × (r ≡ Less) × (s ≡ Less)
squeezed l m r s h k = go (bytes_cmp l m) (bytes_cmp m l) refl refl h k
  where
    go : (a b : Ordering) → bytes_cmp l m ≡ a → bytes_cmp m l ≡ b → ordering_then a r ≡ Less → ordering_then b s ≡ Less → (l ≡ m) × (r ≡ Less) × (s ≡ Less)
    go Less b is js p q = let e : ordering_then Greater s ≡ Less = subst (λ o. ordering_then o s ≡ Less) (sym js ∙ greater_from_less bytes_cmp ids_total l m is) q in absurd cc
    go Equal b is js p q = (ids_apart l m is, p, subst (λ o. ordering_then o s ≡ Less) (sym js ∙ tied_back ids_total l m is) q)
    go Greater b is js p q = absurd cc

pub prefix_between : (q y z : List Bytes) → is_prefix q z ≡ true → path_cmp q y ≡ Less → path_cmp y z ≡ Less → is_prefix q y ≡ true
prefix_between [] y z h k m = refl
prefix_between (l ∷ q) [] z h k m = absurd cc
prefix_between (l ∷ q) (n ∷ y) [] h k m = absurd cc
prefix_between (l ∷ q) (n ∷ y) (o ∷ z) h k m =
    let p = and_parts (same_bytes l o) (is_prefix q z) h in
    let same : l ≡ o = ids_apart l o ((Equal-is (bytes_cmp l o)).0 p.0) in
    let s = squeezed l n (path_cmp q y) (path_cmp y z) k (subst (λ (x : Bytes). ordering_then (bytes_cmp n x) (path_cmp y z) ≡ Less) (sym same) m) in
    and_from (same_bytes l n) (is_prefix q y) (ap (same_bytes l) (sym s.0) ∙ ap is_eq (tied_itself ids_total l)) (prefix_between q y z p.1 s.1 s.2)

abbrev pub Entry : Type 0
Entry = List Bytes × Bytes

not_true : (b : Bool) → (b ≡ true → ⊥) → b ≡ false
not_true true f = absurd (f refl)
not_true false f = refl

clash : (b : Bool) → b ≡ false → b ≡ true → ⊥
clash true h k = absurd cc
clash false h k = absurd cc

or_false : (b : Bool) → b || false ≡ b
or_false true = refl
or_false false = refl

passes_last : {X : Type 0} (p : X → Bool) (xs : List X) (x : X) → list_all p (xs ++ x ∷ []) ≡ true → p x ≡ true
passes_last p [] x h = (and_parts (p x) true h).0
passes_last p (y ∷ xs) x h = passes_last p xs x (and_parts (p y) (list_all p (xs ++ x ∷ [])) h).1

-- ---- parts of what ascends, and of what is apart

all_front : {X : Type 0} (p : X → Bool) (xs ys : List X) → list_all p (xs ++ ys) ≡ true → list_all p xs ≡ true
all_front p [] ys h = refl
all_front p (x ∷ xs) ys h = let t = and_parts (p x) (list_all p (xs ++ ys)) h in and_from (p x) (list_all p xs) t.0 (all_front p xs ys t.1)

below_front : (k : List Bytes) (xs ys : List Entry) → below_all path_cmp k (xs ++ ys) ≡ true → below_all path_cmp k xs ≡ true
below_front k [] ys h = refl
below_front k (x ∷ xs) ys h = let t = and_parts (is_lt (path_cmp k x.0)) (below_all path_cmp k (xs ++ ys)) h in and_from (is_lt (path_cmp k x.0)) (below_all path_cmp k xs) t.0 (below_front k xs ys t.1)

sorted_front : (xs ys : List Entry) → is_sorted path_cmp (xs ++ ys) ≡ true → is_sorted path_cmp xs ≡ true
sorted_front [] ys h = refl
sorted_front (x ∷ xs) ys h = let t = and_parts (below_all path_cmp x.0 (xs ++ ys)) (is_sorted path_cmp (xs ++ ys)) h in and_from (below_all path_cmp x.0 xs) (is_sorted path_cmp xs) (below_front x.0 xs ys t.0) (sorted_front xs ys t.1)

sorted_back : (xs ys : List Entry) → is_sorted path_cmp (xs ++ ys) ≡ true → is_sorted path_cmp ys ≡ true
sorted_back [] ys h = h
sorted_back (x ∷ xs) ys h = sorted_back xs ys (and_parts (below_all path_cmp x.0 (xs ++ ys)) (is_sorted path_cmp (xs ++ ys)) h).1

apart_front : (xs ys : List Entry) → are_apart (xs ++ ys) ≡ true → are_apart xs ≡ true
apart_front [] ys h = refl
apart_front (x ∷ xs) ys h =
    let t = and_parts (list_all (λ f. not (is_prefix x.0 f.0)) (xs ++ ys)) (are_apart (xs ++ ys)) h in
    and_from (list_all (λ f. not (is_prefix x.0 f.0)) xs) (are_apart xs) (all_front (λ f. not (is_prefix x.0 f.0)) xs ys t.0) (apart_front xs ys t.1)

-- ---- conflicts with the entries before a place, and with those from there on

-- what goes on behind p comes after it
after_prefix : (p q : List Bytes) → path_cmp q p ≡ Less → is_prefix p q ≡ false
after_prefix p q lt = not_true (is_prefix p q) (λ h. by_prefix p q h lt)
  where
    by_prefix : (p q : List Bytes) → is_prefix p q ≡ true → path_cmp q p ≡ Less → ⊥
    by_prefix [] [] h lt = absurd cc
    by_prefix [] (m ∷ q) h lt = absurd cc
    by_prefix (l ∷ p) [] h lt = absurd cc
    by_prefix (l ∷ p) (m ∷ q) h lt =
        let t = and_parts (same_bytes l m) (is_prefix p q) h in
        let same : bytes_cmp m l ≡ Equal = tied_back ids_total l m ((Equal-is (bytes_cmp l m)).0 t.0) in
        by_prefix p q t.1 (subst (λ o. ordering_then o (path_cmp q p) ≡ Less) same lt)

abbrev pub begins_path : List Bytes → Entry → Bool
begins_path path e = is_prefix e.0 path

abbrev pub goes_on : List Bytes → Entry → Bool
goes_on path e = is_prefix path e.0

abbrev pub conflicts_with : List Bytes → Entry → Bool
conflicts_with path e = is_proper_prefix e.0 path || is_proper_prefix path e.0

no_and : (a b : Bool) → a ≡ false → (b && not a) || (a && not b) ≡ b
no_and true b h = absurd cc
no_and false true h = refl
no_and false false h = refl

no_or : (a b : Bool) → b ≡ false → (b && not a) || (a && not b) ≡ a
no_or true true h = absurd cc
no_or false true h = absurd cc
no_or true false h = refl
no_or false false h = refl

module _ (path : List Bytes) where
  abbrev pub Lower : List Entry → Type 0
  Lower es = AllByRecursion (λ e. path_cmp e.0 path ≡ Less) es

  abbrev pub Higher : List Entry → Type 0
  Higher es = AllByRecursion (λ e. path_cmp path e.0 ≡ Less) es

  pub conflicts_before : (es : List Entry) → Lower es → list_any (conflicts_with path) es ≡ list_any (begins_path path) es
  conflicts_before [] h = refl
  conflicts_before (e ∷ es) h = λ i. no_and (is_prefix path e.0) (is_prefix e.0 path) (after_prefix path e.0 h.0) i || conflicts_before es h.1 i

  pub conflicts_after : (es : List Entry) → Higher es → list_any (conflicts_with path) es ≡ list_any (goes_on path) es
  conflicts_after [] h = refl
  conflicts_after (e ∷ es) h = λ i. no_or (is_prefix path e.0) (is_prefix e.0 path) (after_prefix e.0 path h.0) i || conflicts_after es h.1 i

  -- of the entries before the place, only the last can begin the path
  pub only_last : (before : List Entry) (e : Entry) → Lower (before ++ e ∷ []) → is_sorted path_cmp (before ++ e ∷ []) ≡ true → are_apart (before ++ e ∷ []) ≡ true → list_any (begins_path path) (before ++ e ∷ []) ≡ is_prefix e.0 path
  only_last [] e low sorted apart = or_false (is_prefix e.0 path)
  only_last (b ∷ before) e low sorted apart =
      let s = and_parts (below_all path_cmp b.0 (before ++ e ∷ [])) (is_sorted path_cmp (before ++ e ∷ [])) sorted in
      let a = and_parts (list_all (λ f. not (is_prefix b.0 f.0)) (before ++ e ∷ [])) (are_apart (before ++ e ∷ [])) apart in
      let b_first : path_cmp b.0 e.0 ≡ Less = (all_parts (λ f. path_cmp b.0 f.0 ≡ Less) before (e ∷ []) (above_from_sorted path_cmp paths_total b.0 (before ++ e ∷ []) s.0)).1.0 in
      let e_first : path_cmp e.0 path ≡ Less = (all_parts (λ f. path_cmp f.0 path ≡ Less) before (e ∷ []) low.1).1.0 in
      let no_prefix : is_prefix b.0 e.0 ≡ false = not-true (is_prefix b.0 e.0) (passes_last (λ f. not (is_prefix b.0 f.0)) before e a.0) in
      let none : is_prefix b.0 path ≡ false = not_true (is_prefix b.0 path) (λ h. clash (is_prefix b.0 e.0) no_prefix (prefix_between b.0 e.0 path h b_first e_first)) in
      ap (λ t. t || list_any (begins_path path) (before ++ e ∷ [])) none ∙ only_last before e low.1 s.1 a.1

  none_later : (e : Entry) → is_prefix path e.0 ≡ false → path_cmp path e.0 ≡ Less → (after : List Entry) → AllByRecursion (λ f. path_cmp e.0 f.0 ≡ Less) after → list_any (goes_on path) after ≡ false
  none_later e no_prefix lt [] above = refl
  none_later e no_prefix lt (f ∷ after) above =
      let none : is_prefix path f.0 ≡ false = not_true (is_prefix path f.0) (λ h. clash (is_prefix path e.0) no_prefix (prefix_between path e.0 f.0 h lt above.0)) in
      ap (λ t. t || list_any (goes_on path) after) none ∙ none_later e no_prefix lt after above.1

  -- where one of those behind goes on from the path, the first does
  only_first : (e : Entry) (after : List Entry) → Higher (e ∷ after) → is_sorted path_cmp (e ∷ after) ≡ true → list_any (goes_on path) (e ∷ after) ≡ is_prefix path e.0
  only_first e after high sorted = go (is_prefix path e.0) refl
    where
      go : (b : Bool) → is_prefix path e.0 ≡ b → is_prefix path e.0 || list_any (goes_on path) after ≡ is_prefix path e.0
      go true is = ap (λ t. t || list_any (goes_on path) after) is ∙ sym is
      go false is = ap (λ t. t || list_any (goes_on path) after) is ∙ none_later e is high.0 after (above_from_sorted path_cmp paths_total e.0 after (and_parts (below_all path_cmp e.0 after) (is_sorted path_cmp after) sorted).0) ∙ sym is

  module _ (es : List Entry) (i : ℕ) (a : IsAbsent path_cmp path es i) where
    front_is : take i es ≡ a.at.before
    front_is = ap (take i) a.at.split ∙ take_at a.at.before a.at.after i a.at.count

    back_is : drop i es ≡ a.at.after
    back_is = ap (drop i) a.at.split ∙ drop_at a.at.before a.at.after i a.at.count

    pub place_within : i ≤ length es
    place_within = omega (arith, a.at.count, ap length a.at.split, length-append a.at.before a.at.after)

    pub has_conflict_is : has_conflict es path ≡ list_any (begins_path path) (take i es) || list_any (goes_on path) (drop i es)
    has_conflict_is =
        ap (λ l. has_conflict l path) a.at.split
        ∙ list_any-append (conflicts_with path) a.at.before a.at.after
        ∙ (λ j. conflicts_before a.at.before a.lower j || conflicts_after a.at.after a.higher j)
        ∙ (λ j. list_any (begins_path path) (sym front_is j) || list_any (goes_on path) (sym back_is j))

    -- by its two parts
    pub conflict_begun : list_any (begins_path path) (take i es) ≡ true → has_conflict es path ≡ true
    conflict_begun h = has_conflict_is ∙ ap (λ t. t || list_any (goes_on path) (drop i es)) h

    pub conflict_behind : list_any (begins_path path) (take i es) ≡ false → has_conflict es path ≡ list_any (goes_on path) (drop i es)
    conflict_behind h = has_conflict_is ∙ ap (λ t. t || list_any (goes_on path) (drop i es)) h

    module _ (sorted : is_sorted path_cmp es ≡ true) (x : Entry) where
      -- the entry right before the place
      pub last_decides : are_apart es ≡ true → (k : ℕ) → i ≡ k + 1 → x ≡ get_or es k x → k < length es → is_prefix x.0 path ≡ list_any (begins_path path) (take i es)
      last_decides apart k next read lt =
          let front : take i es ≡ take k es ++ x ∷ [] = ap (λ n. take n es) next ∙ take_more es k x lt ∙ ap (λ e. take k es ++ e ∷ []) (sym read) in
          let low : Lower (take k es ++ x ∷ []) = subst Lower (sym front_is ∙ front) a.lower in
          let parts : es ≡ (take k es ++ x ∷ []) ++ drop i es = sym (take-append-drop i es) ∙ ap (λ l. l ++ drop i es) front in
          sym (only_last (take k es) x low (sorted_front (take k es ++ x ∷ []) (drop i es) (ap (is_sorted path_cmp) (sym parts) ∙ sorted)) (apart_front (take k es ++ x ∷ []) (drop i es) (ap are_apart (sym parts) ∙ apart)))
          ∙ ap (list_any (begins_path path)) (sym front)

      -- the entry right behind it
      pub first_decides : x ≡ get_or es i x → i < length es → is_prefix path x.0 ≡ list_any (goes_on path) (drop i es)
      first_decides read lt =
          let back : drop i es ≡ x ∷ drop (i + 1) es = drop_more es i x lt ∙ ap (λ e. e ∷ drop (i + 1) es) (sym read) in
          let high : Higher (x ∷ drop (i + 1) es) = subst Higher (sym back_is ∙ back) a.higher in
          let parts : es ≡ take i es ++ (x ∷ drop (i + 1) es) = sym (take-append-drop i es) ∙ ap (λ l. take i es ++ l) back in
          sym (only_first x (drop (i + 1) es) high (sorted_back (take i es) (x ∷ drop (i + 1) es) (ap (is_sorted path_cmp) (sym parts) ∙ sorted)))
          ∙ ap (list_any (goes_on path)) (sym back)
