-- Where a key stands among entries in order, and what a change at that place does.
use Rattle.std.proofs.Common.{◌≡◌, ℕ, zero, suc, ◌+◌, ◌<◌, ◌≤◌, Bool, true, false, not, cond, T, List, [], ◌∷◌, ◌++◌, length, get_or, set, take, drop, Some, None, Result, Ok, Err, refl, sym, ap, subst, ◌∙◌, arith, add-one, append_assoc, length-append}
use Rattle.std.specs.List.{AllByRecursion, AllWithin, count_by, insert, remove}
use Rattle.std.specs.List.Sorted.{IsSearchInRange, IsBinarySearchResult, IsSortedBy}
use Rattle.std.specs.FinMap.{find, put, is_sorted, IsAntisymmetric}
use Rattle.std.specs.FinMap.Entries.{below_all, by_order, is_sorted-put, is_sorted-where_key}
use Rattle.std.specs.Cmp.{IsTotalOrder, tied_itself}
use Rattle.std.specs.Ordering.{is_lt, is_eq, eq_by_cmp, ordering_reverse}
use Rattle.std.specs.declared.cmp.Ordering.{Ordering}
use Rattle.std.specs.declared.cmp.Ordering.TheVariants.{Less, Equal, Greater}
use Rattle.std.proofs.lemmas.Bool.{and_parts}
use Rattle.std.proofs.lemmas.List.{take-append-drop, length-take-le, get_or_at, set_at, take_at, drop_at}
use Rattle.std.proofs.lemmas.List.Sorted.{searchable_from_sorted}
use Rattle.std.proofs.lemmas.List.Sums.{sum_by-append}
use Rattle.std.proofs.Math.Seq.{split_at}
use Rattle.format_spec.proofs.Ascending.{less_is}
use Rattle.format_spec.proofs.Lists.{from_T, all_parts}
use Rattle.state_spec.specs.Places.{place_of, Replaces, Stands, IsAbsent, Places}
use Rattle.state_spec.specs.State.{without}

pub greater_from_less : {K : Type 0} (R : K → K → Ordering) → IsTotalOrder R → (x y : K) → R x y ≡ Less → R y x ≡ Greater
greater_from_less R o x y lt = o.antisymm y x ∙ ap ordering_reverse lt

pub less_from_greater : {K : Type 0} (R : K → K → Ordering) → IsTotalOrder R → (x y : K) → R x y ≡ Greater → R y x ≡ Less
less_from_greater R o x y gt = o.antisymm y x ∙ ap ordering_reverse gt

abbrev one_if : Bool → ℕ
one_if b = cond b 1 0

module _ {K X : Type 0} (R : K → K → Ordering) (o : IsTotalOrder R) where
  abbrev pub Below : K → List (K × X) → Type 0
  Below key es = AllByRecursion (λ e. R e.0 key ≡ Less) es

  abbrev pub Above : K → List (K × X) → Type 0
  Above key es = AllByRecursion (λ e. R key e.0 ≡ Less) es

  -- ---- the order

  pub above_from_sorted : (key : K) (es : List (K × X)) → below_all R key es ≡ true → Above key es
  above_from_sorted key [] h = tt
  above_from_sorted key (e ∷ es) h =
      let p = and_parts (is_lt (R key e.0)) (below_all R key es) h in
      (less_is (R key e.0) p.0, above_from_sorted key es p.1)

  -- an entry among those in order parts them
  pub parted : (before : List (K × X)) (e : K × X) (after : List (K × X)) → is_sorted R (before ++ e ∷ after) ≡ true → Below e.0 before × Above e.0 after
  parted [] e after h = (tt, above_from_sorted e.0 after (and_parts (below_all R e.0 after) (is_sorted R after) h).0)
  parted (b ∷ before) e after h =
      let p = and_parts (below_all R b.0 (before ++ e ∷ after)) (is_sorted R (before ++ e ∷ after)) h in
      let q = parted before e after p.1 in
      let above : Above b.0 (before ++ e ∷ after) = above_from_sorted b.0 (before ++ e ∷ after) p.0 in
      let here : Above b.0 (e ∷ after) = (all_parts (λ f. R b.0 f.0 ≡ Less) before (e ∷ after) above).1 in
      ((here.0, q.0), q.1)

  -- ---- a place among entries that it parts

  module _ (key : K) where
    unlike_before : (e : K × X) → R e.0 key ≡ Less → eq_by_cmp R key e.0 ≡ false
    unlike_before e lt = ap is_eq (greater_from_less R o e.0 key lt)

    unlike_after : (e : K × X) → R key e.0 ≡ Less → eq_by_cmp R key e.0 ≡ false
    unlike_after e lt = ap is_eq lt

    pub find_before : (before rest : List (K × X)) → Below key before → find R key (before ++ rest) ≡ find R key rest
    find_before [] rest h = refl
    find_before (b ∷ before) rest h = ap (λ t. cond t (Some b.1) (find R key (before ++ rest))) (unlike_before b h.0) ∙ find_before before rest h.1

    find_above : (after : List (K × X)) → Above key after → find R key after ≡ None
    find_above [] h = refl
    find_above (e ∷ after) h = ap (λ t. cond t (Some e.1) (find R key after)) (unlike_after e h.0) ∙ find_above after h.1

    pub find_here : (v : X) (after : List (K × X)) → find R key ((key, v) ∷ after) ≡ Some v
    find_here v after = ap (λ r. cond (is_eq r) (Some v) (find R key after)) (tied_itself o key)

    put_before : (v : X) (before rest : List (K × X)) → Below key before → put R key v (before ++ rest) ≡ before ++ put R key v rest
    put_before v [] rest h = refl
    put_before v (b ∷ before) rest h =
        ap (λ r. by_order r ((key, v) ∷ b ∷ (before ++ rest)) ((b.0, v) ∷ (before ++ rest)) (b ∷ put R key v (before ++ rest))) (greater_from_less R o b.0 key h.0)
        ∙ ap (λ es. b ∷ es) (put_before v before rest h.1)

    put_above : (v : X) (after : List (K × X)) → Above key after → put R key v after ≡ (key, v) ∷ after
    put_above v [] h = refl
    put_above v (e ∷ after) h = ap (λ r. by_order r ((key, v) ∷ e ∷ after) ((e.0, v) ∷ after) (e ∷ put R key v after)) h.0

    put_here : (v w : X) (after : List (K × X)) → put R key v ((key, w) ∷ after) ≡ (key, v) ∷ after
    put_here v w after = ap (λ r. by_order r ((key, v) ∷ (key, w) ∷ after) ((key, v) ∷ after) ((key, w) ∷ put R key v after)) (tied_itself o key)

    abbrev counted : K × X → Bool
    counted e = is_lt (R e.0 key)

    count_first : (e : K × X) (es : List (K × X)) → count_by counted (e ∷ es) ≡ one_if (counted e) + count_by counted es
    count_first e es = sum_by-append (λ f. one_if (counted f)) (e ∷ []) es ∙ omega arith

    count_before : (before rest : List (K × X)) → Below key before → count_by counted (before ++ rest) ≡ length before + count_by counted rest
    count_before [] rest h = omega arith
    count_before (b ∷ before) rest h =
        let one : one_if (counted b) ≡ 1 = ap (λ r. one_if (is_lt r)) h.0 in
        omega (arith, count_first b (before ++ rest), one, count_before before rest h.1)

    count_above : (after : List (K × X)) → Above key after → count_by counted after ≡ 0
    count_above [] h = refl
    count_above (e ∷ after) h =
        let none : one_if (counted e) ≡ 0 = ap (λ r. one_if (is_lt r)) (greater_from_less R o key e.0 h.0) in
        omega (arith, count_first e after, none, count_above after h.1)

    count_here : (v : X) (after : List (K × X)) → Above key after → count_by counted ((key, v) ∷ after) ≡ 0
    count_here v after h =
        let none : one_if (is_lt (R key key)) ≡ 0 = ap (λ r. one_if (is_lt r)) (tied_itself o key) in
        omega (arith, count_first (key, v) after, none, count_above after h)

    pub stands : (before : List (K × X)) (v : X) (after : List (K × X)) (i : ℕ) → length before ≡ i → Below key before → Above key after → Stands R key (before ++ (key, v) ∷ after) i
    stands before v after i count below above = record {
      value = v;
      found = find_before before ((key, v) ∷ after) below ∙ find_here v after;
      at = record { before = before; after = after; split = refl; count = count };
      place = omega (arith, count_before before ((key, v) ∷ after) below, count_here v after above);
    }

    pub absent : (before after : List (K × X)) (i : ℕ) → length before ≡ i → Below key before → Above key after → IsAbsent R key (before ++ after) i
    absent before after i count below above = record {
      found = find_before before after below ∙ find_above after above;
      at = record { before = before; after = after; split = refl; count = count };
      lower = below;
      higher = above;
      place = omega (arith, count_before before after below, count_above after above);
    }

    pub put_stands : (before : List (K × X)) (v w : X) (after : List (K × X)) → Below key before → put R key v (before ++ (key, w) ∷ after) ≡ before ++ (key, v) ∷ after
    put_stands before v w after below = put_before v before ((key, w) ∷ after) below ∙ ap (λ es. before ++ es) (put_here v w after)

    pub put_absent : (before : List (K × X)) (v : X) (after : List (K × X)) → Below key before → Above key after → put R key v (before ++ after) ≡ before ++ (key, v) ∷ after
    put_absent before v after below above = put_before v before after below ∙ ap (λ es. before ++ es) (put_above v after above)

  -- ---- without a key

  kept_first : (key : K) (e : K × X) (es : List (K × X)) → eq_by_cmp R key e.0 ≡ false → without R key (e ∷ es) ≡ e ∷ without R key es
  kept_first key e es unlike = ap (λ b. cond (not b) (e ∷ without R key es) (without R key es)) unlike

  pub without_before : (key : K) (before rest : List (K × X)) → Below key before → without R key (before ++ rest) ≡ before ++ without R key rest
  without_before key [] rest h = refl
  without_before key (b ∷ before) rest h = kept_first key b (before ++ rest) (unlike_before key b h.0) ∙ ap (λ es. b ∷ es) (without_before key before rest h.1)

  without_above : (key : K) (after : List (K × X)) → Above key after → without R key after ≡ after
  without_above key [] h = refl
  without_above key (e ∷ after) h = kept_first key e after (unlike_after key e h.0) ∙ ap (λ es. e ∷ es) (without_above key after h.1)

  pub without_here : (key : K) (v : X) (after : List (K × X)) → Above key after → without R key ((key, v) ∷ after) ≡ after
  without_here key v after h = ap (λ r. cond (not (is_eq r)) ((key, v) ∷ without R key after) (without R key after)) (tied_itself o key) ∙ without_above key after h

  -- ---- what a search finds

  sorted_pairs : (es : List (K × X)) → is_sorted R es ≡ true → (k : ℕ) (d : K × X) → suc k < length es → R (get_or es k d).0 (get_or es (suc k) d).0 ≡ Less
  sorted_pairs [] h k d lt = absurd (omega arith)
  sorted_pairs (e ∷ []) h k d lt = absurd (omega arith)
  sorted_pairs (e ∷ f ∷ es) h zero d lt = less_is (R e.0 f.0) (and_parts (is_lt (R e.0 f.0)) (below_all R e.0 es) (and_parts (below_all R e.0 (f ∷ es)) (is_sorted R (f ∷ es)) h).0).0
  sorted_pairs (e ∷ f ∷ es) h (suc k) d lt = sorted_pairs (f ∷ es) (and_parts (below_all R e.0 (f ∷ es)) (is_sorted R (f ∷ es)) h).1 k d (omega arith)

  as_std_sorted : (es : List (K × X)) → is_sorted R es ≡ true → IsSortedBy (λ a b. is_lt (R a.0 b.0)) es
  as_std_sorted es h k d le lt = rw add-one (ap is_lt (greater_from_less R o _ _ (sorted_pairs es h k d (omega arith))))

  below_from_within : (key : K) (es : List (K × X)) (i : ℕ) → AllWithin (λ e. R e.0 key ≡ Less) es 0 i → i ≤ length es → Below key (take i es)
  below_from_within key es zero h le = tt
  below_from_within key [] (suc i) h le = tt
  below_from_within key (e ∷ es) (suc i) h le = (h 0 e (omega arith) (omega arith), below_from_within key es i (λ k d low high. h (suc k) d (omega arith) (omega arith)) (omega arith))

  above_from_within : (key : K) (es : List (K × X)) (i : ℕ) → AllWithin (λ e. R e.0 key ≡ Greater) es i (length es) → Above key (drop i es)
  above_from_within key [] zero h = tt
  above_from_within key [] (suc i) h = tt
  above_from_within key (e ∷ es) zero h = (less_from_greater R o e.0 key (h 0 e (omega arith) (omega arith)), above_from_within key es zero (λ k d low high. h (suc k) d (omega arith) (omega arith)))
  above_from_within key (e ∷ es) (suc i) h = above_from_within key es i (λ k d low high. h (suc k) d (omega arith) (omega arith))

  module _ (same : IsAntisymmetric R) (key : K) where
    found_at : (es : List (K × X)) (e : K × X) → is_sorted R es ≡ true → (i : ℕ) → i < length es → R (get_or es i e).0 key ≡ Equal → Stands R key es i
    found_at es e sorted i lt tied =
        let x : K × X = get_or es i e in
        let v : X = x.1 in
        let before : List (K × X) = take i es in
        let after : List (K × X) = drop (suc i) es in
        let key_is : x.0 ≡ key = same x.0 key tied in
        let split : es ≡ before ++ (key, v) ∷ after = split_at es i e lt ∙ (λ j. before ++ (key_is j, v) ∷ after) in
        let parts = parted before (key, v) after (subst (λ l. is_sorted R l ≡ true) split sorted) in
        subst (λ l. Stands R key l i) (sym split) (stands key before v after i (length-take-le i es (omega arith)) parts.0 parts.1)

    pub placed : (es : List (K × X)) → is_sorted R es ≡ true → (r : Result ℕ ℕ) → IsSearchInRange r (length es) → IsBinarySearchResult (λ e. R e.0 key) es r → Places R key es r
    placed [] sorted (Ok i) bound tied = absurd (omega (arith, bound))
    placed (e ∷ es) sorted (Ok i) bound tied = found_at (e ∷ es) e sorted i bound (tied e)
    placed es sorted (Err i) bound position =
        let parts = position (searchable_from_sorted o (λ e. e.0) es key (as_std_sorted es sorted)) in
        subst (λ l. IsAbsent R key l i) (take-append-drop i es)
        (absent key (take i es) (drop i es) i (length-take-le i es bound) (below_from_within key es i parts.0 bound) (above_from_within key es i parts.1))

  -- ---- a change at a place

  pub sorted_put : (k : K) (v : X) (es : List (K × X)) → is_sorted R es ≡ true → is_sorted R (put R k v es) ≡ true
  sorted_put k v es sorted = from_T (is_sorted R (put R k v es)) (is_sorted-put R o k v es (subst T (sym sorted) tt))

  pub sorted_without : (key : K) (es : List (K × X)) → is_sorted R es ≡ true → is_sorted R (without R key es) ≡ true
  sorted_without key es sorted = from_T (is_sorted R (without R key es)) (is_sorted-where_key R (λ k. not (eq_by_cmp R key k)) es (subst T (sym sorted) tt))

  module _ (key : K) (es : List (K × X)) (sorted : is_sorted R es ≡ true) where
    pub entry_there : (i : ℕ) (s : Stands R key es i) (x : K × X) → x ≡ get_or es i x → x ≡ (key, s.value)
    entry_there i s x read = read ∙ ap (λ l. get_or l i x) s.at.split ∙ get_or_at s.at.before (key, s.value) s.at.after x i s.at.count

    pub below_stands : (i : ℕ) (s : Stands R key es i) → Below key s.at.before
    below_stands i s = (parted s.at.before (key, s.value) s.at.after (subst (λ l. is_sorted R l ≡ true) s.at.split sorted)).0

    pub set_split : (i : ℕ) (s : Stands R key es i) (v : X) → set es i (key, v) ≡ s.at.before ++ (key, v) ∷ s.at.after
    set_split i s v = ap (λ l. set l i (key, v)) s.at.split ∙ set_at s.at.before (key, s.value) s.at.after (key, v) i s.at.count

    pub set_is_put : (i : ℕ) (s : Stands R key es i) (v : X) → set es i (key, v) ≡ put R key v es
    set_is_put i s v = set_split i s v ∙ sym (ap (put R key v) s.at.split ∙ put_stands key s.at.before v s.value s.at.after (below_stands i s))

    pub above_stands : (i : ℕ) (s : Stands R key es i) → Above key s.at.after
    above_stands i s = (parted s.at.before (key, s.value) s.at.after (subst (λ l. is_sorted R l ≡ true) s.at.split sorted)).1

    pub remove_split : (i : ℕ) (s : Stands R key es i) → remove es i ≡ s.at.before ++ s.at.after
    remove_split i s =
        ap (λ l. remove l i) s.at.split
        ∙ (λ j. take_at s.at.before ((key, s.value) ∷ s.at.after) i s.at.count j ++ behind i s j)
      where
        behind : (k : ℕ) (t : Stands R key es k) → drop (suc k) (t.at.before ++ (key, t.value) ∷ t.at.after) ≡ t.at.after
        behind k t =
            ap (λ l. drop (suc k) l) (sym (append_assoc t.at.before ((key, t.value) ∷ []) t.at.after))
            ∙ drop_at (t.at.before ++ (key, t.value) ∷ []) t.at.after (suc k) (omega (arith, length-append t.at.before ((key, t.value) ∷ []), t.at.count))

    pub remove_is_without : (i : ℕ) (s : Stands R key es i) → remove es i ≡ without R key es
    remove_is_without i s =
        remove_split i s
        ∙ sym (ap (without R key) s.at.split ∙ without_before key s.at.before ((key, s.value) ∷ s.at.after) (below_stands i s) ∙ ap (λ l. s.at.before ++ l) (without_here key s.value s.at.after (above_stands i s)))

    pub remove_sorted : (i : ℕ) (s : Stands R key es i) → is_sorted R (remove es i) ≡ true
    remove_sorted i s =
        ap (is_sorted R) (remove_is_without i s) ∙ sorted_without key es sorted

    pub remove_replaces : (i : ℕ) (s : Stands R key es i) → Replaces es (remove es i) (place_of R key es) ((key, s.value) ∷ []) []
    remove_replaces i s = record { before = s.at.before; after = s.at.after; old_is = s.at.split; new_is = remove_split i s; count = s.at.count ∙ sym s.place }

    pub set_replaces : (i : ℕ) (s : Stands R key es i) (v : X) → Replaces es (set es i (key, v)) (place_of R key es) ((key, s.value) ∷ []) ((key, v) ∷ [])
    set_replaces i s v = record { before = s.at.before; after = s.at.after; old_is = s.at.split; new_is = set_split i s v; count = s.at.count ∙ sym s.place }

  module _ (key : K) (es : List (K × X)) (i : ℕ) (a : IsAbsent R key es i) where
    pub insert_split : (v : X) → insert es i (key, v) ≡ a.at.before ++ (key, v) ∷ a.at.after
    insert_split v =
        ap (λ l. insert l i (key, v)) a.at.split
        ∙ (λ j. take_at a.at.before a.at.after i a.at.count j ++ (key, v) ∷ drop_at a.at.before a.at.after i a.at.count j)

    pub insert_is_put : (v : X) → insert es i (key, v) ≡ put R key v es
    insert_is_put v = insert_split v ∙ sym (ap (put R key v) a.at.split ∙ put_absent key a.at.before v a.at.after a.lower a.higher)

    pub insert_replaces : (v : X) → Replaces es (insert es i (key, v)) (place_of R key es) [] ((key, v) ∷ [])
    insert_replaces v = record { before = a.at.before; after = a.at.after; old_is = a.at.split; new_is = insert_split v; count = a.at.count ∙ sym a.place }
