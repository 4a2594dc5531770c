-- Which items of a list are missing, and which asks are due.
use Rattle.std.proofs.Common.{◌≡◌, ℕ, suc, cond, not, ◌&&◌, ◌||◌, Bool, true, false, List, [], ◌∷◌, filter, map, Some, None, if◌then◌else◌, refl, sym, ◌∙◌, ap}
use Rattle.std.specs.List.{list_any}
use Rattle.sync_spec.specs.Messages.{Item}
use Rattle.sync_spec.specs.Core.{Core, Wanted, same_item, has_item, unasked_item, without_ask, is_old, is_asked_of, with_ask_now, core_after_verdict, verdict_if, core_after_message, core_after_turn, core_after_send, core_after_failure}
use Rattle.sync_spec.specs.CoreLaws.{Call, turns, sends, fails, delivers, core_after_call, core_after_calls, brings, was_brought, items_missing}

-- two filters, one behind the other
pub filter_twice : {X : Type 0} (p q : X → Bool) (xs : List X) → filter (λ x. not (q x)) (filter (λ x. not (p x)) xs) ≡ filter (λ x. not (p x || q x)) xs
filter_twice p q [] = refl
filter_twice {X} p q (x ∷ xs) =
    elim (p x) as (λ b. filter (λ y. not (q y)) (cond (not b) (x ∷ filter (λ y. not (p y)) xs) (filter (λ y. not (p y)) xs)) ≡ cond (not (b || q x)) (x ∷ filter (λ y. not (p y || q y)) xs) (filter (λ y. not (p y || q y)) xs)) [
      | true ↦ filter_twice p q xs
      | false ↦ ap (λ (ys : List X). cond (not (q x)) (x ∷ ys) ys) (filter_twice p q xs)
    ]

both_ways : true ≡ false → ⊥
both_ways e = cc

-- a filter by what no element has
pub filter_none : {X : Type 0} (p q : X → Bool) (xs : List X) → list_any p xs ≡ false → filter (λ x. not (q x)) xs ≡ filter (λ x. not (p x || q x)) xs
filter_none p q [] h = refl
filter_none {X} p q (x ∷ xs) h = by (p x) refl (λ rest. filter_none p q xs rest)
  where
    by : (b : Bool) → p x ≡ b → (list_any p xs ≡ false → filter (λ y. not (q y)) xs ≡ filter (λ y. not (p y || q y)) xs) → filter (λ y. not (q y)) (x ∷ xs) ≡ filter (λ y. not (p y || q y)) (x ∷ xs)
    by true e ih = absurd (both_ways (ap (λ b. b || list_any p xs) (sym e) ∙ h))
    by false e ih =
        let rest : list_any p xs ≡ false = ap (λ b. b || list_any p xs) (sym e) ∙ h in
        ap (λ (ys : List X). cond (not (q x)) (x ∷ ys) ys) (ih rest)
        ∙ ap (λ b. cond (not (b || q x)) (x ∷ filter (λ y. not (p y || q y)) xs) (filter (λ y. not (p y || q y)) xs)) (sym e)

abbrev item_in : Wanted → Item
item_in w = w.item

abbrev items_in : List Wanted → List Item
items_in ws = map item_in ws

-- a change of asks changes no item
same_items : (f : Wanted → Wanted) → ((w : Wanted) → (f w).item ≡ w.item) → (ws : List Wanted) → items_in (map f ws) ≡ items_in ws
same_items f h [] = refl
same_items f h (w ∷ ws) = ap (λ i. i ∷ items_in (map f ws)) (h w) ∙ ap (λ (is : List Item). w.item ∷ is) (same_items f h ws)

kept_ask : (b : Bool) (w v : Wanted) → v.item ≡ w.item → (if b then v else w).item ≡ w.item
kept_ask true w v h = h
kept_ask false w v h = refl

given_up : (test : Wanted → Bool) (w : Wanted) → (without_ask test w).item ≡ w.item
given_up test w = kept_ask (test w) w (unasked_item w.item) refl

went_out : (peer : ℕ) (item : Item) (turn : ℕ) (w : Wanted) → (with_ask_now peer item turn w).item ≡ w.item
went_out peer item turn w = kept_ask (same_item w.item item) w (record w { ask = Some (record { peer = peer; turn = turn }) }) refl

-- the items of a filter by items
filter_items : (p : Item → Bool) (ws : List Wanted) → items_in (filter (λ w. p w.item) ws) ≡ filter p (items_in ws)
filter_items p [] = refl
filter_items p (w ∷ ws) =
    elim (p w.item) as (λ b. items_in (cond b (w ∷ filter (λ v. p v.item) ws) (filter (λ v. p v.item) ws)) ≡ cond b (w.item ∷ filter p (items_in ws)) (filter p (items_in ws))) [
      | true ↦ ap (λ (is : List Item). w.item ∷ is) (filter_items p ws)
      | false ↦ filter_items p ws
    ]

pub has_items : (item : Item) (ws : List Wanted) → list_any (λ i. same_item i item) (items_in ws) ≡ has_item ws item
has_items item [] = refl
has_items item (w ∷ ws) = ap (λ b. same_item w.item item || b) (has_items item ws)

abbrev without : (Item → Bool) → List Item → List Item
without w is = filter (λ i. not (w i)) is

brought : (c : Core) (peer : ℕ) (j : Item) (w : Item → Bool) (b : Bool) → has_item c.missing j ≡ b → without w (items_in (core_after_verdict (verdict_if b true) c peer j).missing) ≡ without (λ i. same_item i j || w i) (items_in c.missing)
brought c peer j w true e = ap (without w) (filter_items (λ i. not (same_item i j)) c.missing) ∙ filter_twice (λ i. same_item i j) w (items_in c.missing)
brought c peer j w false e = filter_none (λ i. same_item i j) w (items_in c.missing) (has_items j c.missing ∙ e)

not_right : (c : Core) (peer : ℕ) (j : Item) (b : Bool) → items_in (core_after_verdict (verdict_if b false) c peer j).missing ≡ items_in c.missing
not_right c peer j true = same_items (without_ask (λ w. same_item w.item j && is_asked_of peer w)) (given_up (λ w. same_item w.item j && is_asked_of peer w)) c.missing
not_right c peer j false = refl

-- one call
pub step : (c : Core) (call : Call) (w : Item → Bool) → without w (items_missing (core_after_call c call)) ≡ without (λ i. brings i call || w i) (items_missing c)
unfolding core_after_turn core_after_send core_after_failure core_after_message
step c turns w = ap (without w) (same_items (without_ask (is_old (suc c.turn))) (given_up (is_old (suc c.turn))) c.missing)
step c (sends peer item) w = ap (without w) (same_items (with_ask_now peer item c.turn) (went_out peer item c.turn) c.missing)
step c (fails peer) w = refl
step c (delivers peer None right) w = refl
step c (delivers peer (Some j) false) w = ap (without w) (not_right c peer j (has_item c.missing j))
step c (delivers peer (Some j) true) w = brought c peer j w (has_item c.missing j) refl

pub filter_all : {X : Type 0} (xs : List X) → filter (λ x. not false) xs ≡ xs
filter_all [] = refl
filter_all {X} (x ∷ xs) = ap (λ (ys : List X). x ∷ ys) (filter_all xs)

pub missing_until_brought : (c : Core) (calls : List Call) → items_missing (core_after_calls c calls) ≡ filter (λ i. not (was_brought calls i)) (items_missing c)
missing_until_brought c [] = sym (filter_all (items_missing c))
missing_until_brought c (call ∷ calls) = missing_until_brought (core_after_call c call) calls ∙ step c call (was_brought calls)
