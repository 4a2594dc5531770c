-- What is missing, in two parts: what was asked for at some time, and behind it what never was.
use Rattle.std.proofs.Common.{◌≡◌, ℕ, ◌+◌, ◌≤◌, ◌||◌, not, cond, if◌then◌else◌, Bool, true, false, List, [], ◌∷◌, ◌++◌, map, filter, find, count_by, Some, refl, sym, ap, ◌∙◌, subst, arith}
use Rattle.std.specs.List.{list_any}
use Rattle.std.specs.Option.{option_or}
use Rattle.std.proofs.lemmas.Bool.{eq-eqb}
use Rattle.std.proofs.lemmas.List.{map-append, append-nil, append_assoc}
use Rattle.std.proofs.lemmas.List.Elements.{filter-append}
use Rattle.std.proofs.lemmas.List.Folds.{find-append, list_any-append}
use Rattle.std.proofs.lemmas.List.Sums.{sum_by-append}
use Rattle.std.proofs.lemmas.Option.{none-some, same_Some}
use Rattle.sync_spec.specs.Messages.{Item, meta, piece, chunk}
use Rattle.sync_spec.specs.Core.{Wanted, same_item, has_item, unasked_item, without_ask, is_old, is_asked_of, asks_of, is_unasked, with_ask_now}
use Rattle.sync_spec.proofs.Lasting.{count_cons}
use Rattle.sync_core.specs.Views.{missing_of}
use Rattle.sync_core.proofs.Mapping.{any_view, filter_view}
use Rattle.sync_core.proofs.Numbers.{filter_absent}

abbrev all_fresh : List Item → List Wanted
all_fresh is = map unasked_item is

-- ---- each test and each change of the parts

pub without_parts : (test : Wanted → Bool) (ws : List Wanted) (is : List Item) → map (without_ask test) (missing_of ws is) ≡ missing_of (map (without_ask test) ws) is
without_parts test ws is = map-append (without_ask test) ws (all_fresh is) ∙ ap (λ (vs : List Wanted). map (without_ask test) ws ++ vs) (still is)
  where
    one : (i : Item) (b : Bool) → (if b then unasked_item i else unasked_item i) ≡ unasked_item i
    one i true = refl
    one i false = refl

    still : (is : List Item) → map (without_ask test) (map unasked_item is) ≡ map unasked_item is
    still [] = refl
    still (i ∷ is) = ap (λ v. v ∷ map (without_ask test) (map unasked_item is)) (one i (test (unasked_item i))) ∙ ap (λ (vs : List Wanted). unasked_item i ∷ vs) (still is)

pub old_parts : (turn : ℕ) (ws : List Wanted) (is : List Item) → filter (is_old turn) (missing_of ws is) ≡ filter (is_old turn) ws
old_parts turn ws is =
    filter-append (is_old turn) ws (all_fresh is)
    ∙ ap (λ (vs : List Wanted). filter (is_old turn) ws ++ vs) (none is)
    ∙ append-nil (filter (is_old turn) ws)
  where
    none : (is : List Item) → filter (is_old turn) (map unasked_item is) ≡ []
    none [] = refl
    none (i ∷ is) = none is

pub count_parts : (p : Wanted → Bool) (xs ys : List Wanted) → count_by p (xs ++ ys) ≡ count_by p xs + count_by p ys
count_parts p xs ys = sum_by-append (λ x. cond (p x) 1 0) xs ys

pub asks_parts : (ws : List Wanted) (is : List Item) (peer : ℕ) → asks_of (missing_of ws is) peer ≡ asks_of ws peer
asks_parts ws is peer = let e = count_parts (is_asked_of peer) ws (all_fresh is) in let n = none is in omega (arith, e, n)
  where
    none : (is : List Item) → count_by (is_asked_of peer) (map unasked_item is) ≡ 0
    none [] = refl
    none (i ∷ is) = let c = count_cons (is_asked_of peer) (unasked_item i) (all_fresh is) in let n = none is in omega (arith, c, n)

pub find_parts : (ws : List Wanted) (is : List Item) → find is_unasked (missing_of ws is) ≡ option_or (find is_unasked ws) (find is_unasked (map unasked_item is))
find_parts ws is = find-append is_unasked ws (all_fresh is)

pub has_parts : (ws : List Wanted) (is : List Item) (item : Item) → has_item (missing_of ws is) item ≡ (has_item ws item || list_any (λ i. same_item i item) is)
has_parts ws is item =
    list_any-append (λ w. same_item w.item item) ws (all_fresh is)
    ∙ ap (λ b. has_item ws item || b) (any_view unasked_item (λ w. same_item w.item item) is)

pub take_parts : (ws : List Wanted) (is : List Item) (item : Item)
    → filter (λ w. not (same_item w.item item)) (missing_of ws is) ≡ missing_of (filter (λ w. not (same_item w.item item)) ws) (filter (λ i. not (same_item i item)) is)
take_parts ws is item =
    filter-append (λ w. not (same_item w.item item)) ws (all_fresh is)
    ∙ ap (λ (vs : List Wanted). filter (λ w. not (same_item w.item item)) ws ++ vs) (filter_view unasked_item (λ w. not (same_item w.item item)) is)

-- ---- an item is asked for

abbrev is_of : Item → Wanted → Bool
is_of item w = same_item w.item item

same_item_refl : (i : Item) → same_item i i ≡ true
same_item_refl meta = refl
same_item_refl (piece i) = eq-eqb i i refl
same_item_refl (chunk i) = eq-eqb i i refl

abbrev one_if : Bool → ℕ
one_if b = cond b 1 0

-- what is found is counted
found_counts : (p : Wanted → Bool) (item : Item) (ws : List Wanted) (w : Wanted) → find p ws ≡ Some w → w.item ≡ item → 1 ≤ count_by (is_of item) ws
found_counts p item [] w e s = absurd (none-some w e)
found_counts p item (x ∷ xs) w e s = by (p x) refl (found_counts p item xs w)
  where
    here : x ≡ w → 1 ≤ count_by (is_of item) (x ∷ xs)
    here k =
        let t : same_item x.item item ≡ true = subst (λ (j : Item). same_item x.item j ≡ true) (ap (λ (v : Wanted). v.item) k ∙ s) (same_item_refl x.item) in
        let c = count_cons (is_of item) x xs in
        let o : one_if (same_item x.item item) ≡ 1 = ap one_if t in
        omega (arith, c, o)

    by : (b : Bool) → p x ≡ b → (find p xs ≡ Some w → w.item ≡ item → 1 ≤ count_by (is_of item) xs) → 1 ≤ count_by (is_of item) (x ∷ xs)
    by true k rest = here (same_Some x w (sym (ap (λ b. cond b (Some x) (find p xs)) k) ∙ e))
    by false k rest =
        let r = rest (sym (ap (λ b. cond b (Some x) (find p xs)) k) ∙ e) s in
        let c = count_cons (is_of item) x xs in
        omega (arith, c, r)

-- nothing changes where the item isn't there
none_asked : (peer : ℕ) (item : Item) (turn : ℕ) (ws : List Wanted) → count_by (is_of item) ws ≡ 0 → map (with_ask_now peer item turn) ws ≡ ws
none_asked peer item turn [] e = refl
none_asked peer item turn (w ∷ ws) e = by (same_item w.item item) refl (none_asked peer item turn ws)
  where
    none_behind : count_by (is_of item) ws ≡ 0
    none_behind = let c = count_cons (is_of item) w ws in omega (arith, c, e)

    by : (b : Bool) → same_item w.item item ≡ b → (count_by (is_of item) ws ≡ 0 → map (with_ask_now peer item turn) ws ≡ ws) → map (with_ask_now peer item turn) (w ∷ ws) ≡ w ∷ ws
    by true k rest =
        let c = count_cons (is_of item) w ws in
        let o : one_if (same_item w.item item) ≡ 1 = ap one_if k in
        absurd (omega (arith, c, o, e))
    by false k rest =
        ap (λ b. (if b then record w { ask = Some (record { peer = peer; turn = turn }) } else w) ∷ map (with_ask_now peer item turn) ws) k
        ∙ ap (λ (vs : List Wanted). w ∷ vs) (rest none_behind)

-- the item that is due is among those that were asked for and given back
pub sent_tried : (peer : ℕ) (item : Item) (turn : ℕ) (ws : List Wanted) (is : List Item) (w : Wanted) → find is_unasked ws ≡ Some w → w.item ≡ item → count_by (λ v. same_item v.item item) (missing_of ws is) ≤ 1
    → map (with_ask_now peer item turn) (missing_of ws is) ≡ missing_of (map (with_ask_now peer item turn) ws) is
sent_tried peer item turn ws is w f s once =
    let c = count_parts (is_of item) ws (all_fresh is) in
    let one = found_counts is_unasked item ws w f s in
    let zero_left : count_by (is_of item) (all_fresh is) ≡ 0 = omega (arith, c, one, once) in
    map-append (with_ask_now peer item turn) ws (all_fresh is)
    ∙ ap (λ (vs : List Wanted). map (with_ask_now peer item turn) ws ++ vs) (none_asked peer item turn (all_fresh is) zero_left)

none_of : (item : Item) (is : List Item) → count_by (is_of item) (all_fresh is) ≡ 0 → list_any (λ i. same_item i item) is ≡ false
none_of item [] e = refl
none_of item (i ∷ is) e = by (same_item i item) refl (none_of item is)
  where
    by : (b : Bool) → same_item i item ≡ b → (count_by (is_of item) (all_fresh is) ≡ 0 → list_any (λ j. same_item j item) is ≡ false) → (same_item i item || list_any (λ j. same_item j item) is) ≡ false
    by true k rest =
        let c = count_cons (is_of item) (unasked_item i) (all_fresh is) in
        let o : one_if (same_item i item) ≡ 1 = ap one_if k in
        absurd (omega (arith, c, o, e))
    by false k rest =
        let c = count_cons (is_of item) (unasked_item i) (all_fresh is) in
        let o : one_if (same_item i item) ≡ 0 = ap one_if k in
        ap (λ b. b || list_any (λ j. same_item j item) is) k ∙ rest (omega (arith, c, o, e))

-- or it is the first of those that were never asked for
pub sent_fresh : (peer : ℕ) (item : Item) (turn : ℕ) (ws : List Wanted) (is : List Item) (w : Wanted) → find is_unasked (map unasked_item is) ≡ Some w → w.item ≡ item → count_by (λ v. same_item v.item item) (missing_of ws is) ≤ 1
    → map (with_ask_now peer item turn) (missing_of ws is) ≡ missing_of (ws ++ record { item = item; ask = Some (record { peer = peer; turn = turn }) } ∷ []) (filter (λ i. not (same_item i item)) is)
sent_fresh peer item turn ws [] w f s once = absurd (none-some w f)
sent_fresh peer item turn ws (i ∷ is) w f s once =
    map-append (with_ask_now peer item turn) ws (unasked_item i ∷ all_fresh is)
    ∙ ap (λ (vs : List Wanted). vs ++ with_ask_now peer item turn (unasked_item i) ∷ map (with_ask_now peer item turn) (all_fresh is)) (none_asked peer item turn ws before)
    ∙ ap (λ (vs : List Wanted). ws ++ with_ask_now peer item turn (unasked_item i) ∷ vs) (none_asked peer item turn (all_fresh is) behind)
    ∙ ap (λ (v : Wanted). ws ++ v ∷ all_fresh is) now
    ∙ sym (append_assoc ws (asked ∷ []) (all_fresh is))
    ∙ ap (λ (js : List Item). (ws ++ asked ∷ []) ++ all_fresh js) (sym left)
  where
    asked : Wanted
    asked = record { item = item; ask = Some (record { peer = peer; turn = turn }) }

    is_first : i ≡ item
    is_first = ap (λ (v : Wanted). v.item) (same_Some (unasked_item i) w f) ∙ s

    same : same_item i item ≡ true
    same = subst (λ (j : Item). same_item i j ≡ true) is_first (same_item_refl i)

    one : one_if (same_item i item) ≡ 1
    one = ap one_if same

    whole : count_by (is_of item) (missing_of ws (i ∷ is)) ≡ count_by (is_of item) ws + count_by (is_of item) (all_fresh (i ∷ is))
    whole = count_parts (is_of item) ws (all_fresh (i ∷ is))

    head : count_by (is_of item) (all_fresh (i ∷ is)) ≡ cond (same_item i item) 1 0 + count_by (is_of item) (all_fresh is)
    head = count_cons (is_of item) (unasked_item i) (all_fresh is)

    before : count_by (is_of item) ws ≡ 0
    before = omega (arith, whole, head, one, once)

    behind : count_by (is_of item) (all_fresh is) ≡ 0
    behind = omega (arith, whole, head, one, once)

    now : with_ask_now peer item turn (unasked_item i) ≡ asked
    now =
        ap (λ b. if b then record (unasked_item i) { ask = Some (record { peer = peer; turn = turn }) } else unasked_item i) same
        ∙ ap (λ (j : Item). record { item = j; ask = Some (record { peer = peer; turn = turn }) }) is_first

    left : filter (λ j. not (same_item j item)) (i ∷ is) ≡ is
    left =
        ap (λ b. cond (not b) (i ∷ filter (λ j. not (same_item j item)) is) (filter (λ j. not (same_item j item)) is)) same
        ∙ filter_absent (λ j. same_item j item) is (none_of item is behind)

-- ---- an item that was never asked for

any_counts : {X : Type 0} (p : X → Bool) (xs : List X) → list_any p xs ≡ true → 1 ≤ count_by p xs
any_counts p [] e = absurd (both_ways e)
  where
    both_ways : false ≡ true → ⊥
    both_ways k = cc
any_counts p (x ∷ xs) e = by (p x) refl (any_counts p xs)
  where
    by : (b : Bool) → p x ≡ b → (list_any p xs ≡ true → 1 ≤ count_by p xs) → 1 ≤ count_by p (x ∷ xs)
    by true k rest = let c = count_cons p x xs in let o : one_if (p x) ≡ 1 = ap one_if k in omega (arith, c, o)
    by false k rest =
        let c = count_cons p x xs in
        let r = rest (ap (λ b. b || list_any p xs) (sym k) ∙ e) in
        omega (arith, c, r)

none_counted : {X : Type 0} (p : X → Bool) (xs : List X) → count_by p xs ≡ 0 → list_any p xs ≡ false
none_counted p xs none = by (list_any p xs) refl
  where
    by : (b : Bool) → list_any p xs ≡ b → b ≡ false
    by true e = absurd (let c = any_counts p xs e in omega (arith, c, none))
    by false e = refl

-- is none of those that were
pub fresh_alone : (ws : List Wanted) (is : List Item) (item : Item) → list_any (λ i. same_item i item) is ≡ true → count_by (λ w. same_item w.item item) (missing_of ws is) ≤ 1
    → ws ≡ filter (λ w. not (same_item w.item item)) ws
fresh_alone ws is item there once =
    let c = count_parts (is_of item) ws (all_fresh is) in
    let one = any_counts (is_of item) (all_fresh is) (any_view unasked_item (is_of item) is ∙ there) in
    sym (filter_absent (is_of item) ws (none_counted (is_of item) ws (omega (arith, c, one, once))))
