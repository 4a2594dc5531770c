-- What each call leaves of the two parts, as the definitions say of the whole.
use Rattle.std.proofs.Common.{◌≡◌, ℕ, suc, ◌*◌, ◌<◌, ◌≤◌, ◌==◌, ◌&&◌, ◌||◌, not, true, false, List, [], ◌∷◌, ◌++◌, length, map, filter, find, fold, is_some, option_map, Option, Some, None, IfSome, refl, sym, ap, ◌∙◌, subst, arith}
use Rattle.std.specs.List.{list_any, range_with_len, AllByRecursion}
use Rattle.std.specs.Option.{option_or, option_map_or}
use Rattle.std.proofs.Math.Bool.{or-false, or-true}
use Rattle.std.proofs.lemmas.Option.{none-some, same_Some}
use Rattle.format_spec.specs.declared.limits.TheConstants.{MAX_PEERS, MAX_ASKS}
use Rattle.sync_spec.specs.Messages.{Item}
use Rattle.sync_spec.specs.Core.{Core, Wanted, same_item, has_item, unasked_item, with_items, all_pieces, chunks_without, is_old, without_ask, with_strike, with_strike_for_ask, pardoned_strikes}
use Rattle.sync_spec.specs.Core.{core_after_turn, is_asked_of, asks_of, may_be_asked, peers_of, is_unasked, ask_for, next_ask, with_ask_now, core_after_send, core_after_failure, core_without_item, core_after_fault}
use Rattle.sync_spec.specs.CoreLaws.{IsCore}
use Rattle.sync_spec.proofs.Lasting.{sent_good}
use Rattle.sync_core.specs.Views.{missing_of}
use Rattle.sync_core.specs.declared.fresh.Kind.{Kind}
use Rattle.sync_core.specs.declared.fresh.Kind.TheVariants.{Pieces, Chunks}
use Rattle.sync_core.specs.Fresh.{item_at}
use Rattle.sync_core.proofs.Items.{items_moved}
use Rattle.sync_core.proofs.Parts.{without_parts, old_parts, find_parts, has_parts, take_parts, sent_tried, sent_fresh}
use Rattle.sync_core.proofs.Room.{room_left}

abbrev pub core_at : List Wanted → List Item → List ℕ → ℕ → Core
core_at ws is strikes turn = record { missing = missing_of ws is; strikes = strikes; turn = turn }

abbrev core_with : List Wanted → List ℕ → ℕ → Core
core_with missing strikes turn = record { missing = missing; strikes = strikes; turn = turn }

same_core : (m n : List Wanted) (s t : List ℕ) (i j : ℕ) → m ≡ n → s ≡ t → i ≡ j → core_with m s i ≡ core_with n t j
same_core m n s t i j e f g =
    ap (λ (x : List Wanted). core_with x s i) e ∙ ap (λ (x : List ℕ). core_with n x i) f ∙ ap (λ (x : ℕ). core_with n t x) g

-- ---- a new list

no_tried : (ws : List Wanted) (is : List Item) → length (missing_of ws is) ≡ 0 → ws ≡ []
no_tried [] is e = refl
no_tried (w ∷ ws) is e = absurd (omega (arith, e))

map_twice : {X Y Z : Type 0} (f : X → Y) (g : Y → Z) (xs : List X) → map g (map f xs) ≡ map (λ x. g (f x)) xs
map_twice f g [] = refl
map_twice {Z} f g (x ∷ xs) = ap (λ (zs : List Z). g (f x) ∷ zs) (map_twice f g xs)

-- no item is missing, and these numbers of a kind are now
pub listed_is : (ws : List Wanted) (is : List Item) (numbers : List ℕ) (to : ℕ → Item) (strikes : List ℕ) (turn : ℕ) → length (missing_of ws is) ≡ 0
    → core_at ws (map to numbers) strikes turn ≡ with_items (core_at ws is strikes turn) (map (λ i. unasked_item (to i)) numbers)
listed_is ws is numbers to strikes turn e =
    same_core (missing_of ws (map to numbers)) (map (λ i. unasked_item (to i)) numbers) strikes strikes turn turn
    (ap (λ (vs : List Wanted). missing_of vs (map to numbers)) (no_tried ws is e) ∙ map_twice to unasked_item numbers) refl refl

-- ---- a turn, and faults

pub turn_is : (ws now : List Wanted) (is : List Item) (strikes after pardoned : List ℕ) (turn next : ℕ) → next ≡ suc turn
    → after ≡ fold with_strike_for_ask strikes (filter (is_old next) ws) → now ≡ map (without_ask (is_old next)) ws → pardoned ≡ pardoned_strikes after
    → core_at now is pardoned next ≡ core_after_turn (core_at ws is strikes turn)
unfolding core_after_turn
turn_is ws now is strikes after pardoned turn next n a w p =
    same_core (missing_of now is) (map (without_ask (is_old (suc turn))) (missing_of ws is)) pardoned (pardoned_strikes (fold with_strike_for_ask strikes (filter (is_old (suc turn)) (missing_of ws is)))) next (suc turn)
    (ap (λ (vs : List Wanted). missing_of vs is) w ∙ sym (without_parts (is_old next) ws is) ∙ ap (λ (k : ℕ). map (without_ask (is_old k)) (missing_of ws is)) n)
    (p ∙ ap pardoned_strikes (a ∙ ap (λ (vs : List Wanted). fold with_strike_for_ask strikes vs) (sym (old_parts next ws is) ∙ ap (λ (k : ℕ). filter (is_old k) (missing_of ws is)) n)))
    n

pub unsent_is : (ws : List Wanted) (is : List Item) (strikes after : List ℕ) (turn peer : ℕ) → after ≡ with_strike peer strikes → core_at ws is after turn ≡ core_after_failure (core_at ws is strikes turn) peer
unfolding core_after_failure
unsent_is ws is strikes after turn peer a = same_core (missing_of ws is) (missing_of ws is) after (with_strike peer strikes) turn turn refl a refl

pub had_is : (ws now : List Wanted) (is left : List Item) (strikes : List ℕ) (turn : ℕ) (item : Item) → now ≡ filter (λ w. not (same_item w.item item)) ws → left ≡ filter (λ i. not (same_item i item)) is
    → core_at now left strikes turn ≡ core_without_item (core_at ws is strikes turn) item
had_is ws now is left strikes turn item n l =
    same_core (missing_of now left) (filter (λ w. not (same_item w.item item)) (missing_of ws is)) strikes strikes turn turn
    (ap (λ (vs : List Wanted). missing_of vs left) n ∙ ap (λ (js : List Item). missing_of (filter (λ w. not (same_item w.item item)) ws) js) l ∙ sym (take_parts ws is item)) refl refl

pub fault_is : (ws now : List Wanted) (is : List Item) (strikes after : List ℕ) (turn peer : ℕ) (item : Item) → now ≡ map (without_ask (λ w. same_item w.item item && is_asked_of peer w)) ws → after ≡ with_strike peer strikes
    → core_at now is after turn ≡ core_after_fault (core_at ws is strikes turn) peer item
fault_is ws now is strikes after turn peer item n a =
    same_core (missing_of now is) (map (without_ask (λ w. same_item w.item item && is_asked_of peer w)) (missing_of ws is)) after (with_strike peer strikes) turn turn
    (ap (λ (vs : List Wanted). missing_of vs is) n ∙ sym (without_parts (λ w. same_item w.item item && is_asked_of peer w) ws is)) a refl

-- ---- an ask that is due

-- what is seen of two options is the same
pub is_found : {X Y Z : Type 0} (f : X → Z) (g : Y → Z) (r : Option X) (o : Option Y) → option_map f r ≡ option_map g o → is_some r ≡ true → (y : Y) × (o ≡ Some y)
is_found f g None o e t = absurd (both_ways t)
  where
    both_ways : false ≡ true → ⊥
    both_ways k = cc
is_found f g (Some x) None e t = absurd (none-some (f x) (sym e))
is_found f g (Some x) (Some y) e t = (y, refl)

pub is_not_found : {X Y Z : Type 0} (f : X → Z) (g : Y → Z) (r : Option X) (o : Option Y) → option_map f r ≡ option_map g o → is_some r ≡ false → o ≡ None
is_not_found f g None None e t = refl
is_not_found f g None (Some y) e t = absurd (none-some (g y) e)
is_not_found f g (Some x) o e t = absurd (both_ways t)
  where
    both_ways : true ≡ false → ⊥
    both_ways k = cc

due_item : (c : Core) (peer : ℕ) (item : Item) → next_ask c ≡ Some (peer, item) → (w : Wanted) × (find is_unasked c.missing ≡ Some w) × (w.item ≡ item)
unfolding next_ask
due_item c peer item e = by (find (may_be_asked c) (peers_of c)) (find is_unasked c.missing) refl e
  where
    by : (p : Option ℕ) (o : Option Wanted) → find is_unasked c.missing ≡ o → ask_for p o ≡ Some (peer, item) → (w : Wanted) × (find is_unasked c.missing ≡ Some w) × (w.item ≡ item)
    by None o k d = absurd (none-some (peer, item) d)
    by (Some p) None k d = absurd (none-some (peer, item) d)
    by (Some p) (Some w) k d = (w, k, ap (λ (o : Option (ℕ × Item)). option_map_or (λ x. x.1) o w.item) d)

pub sent_tried_is : (ws now : List Wanted) (is : List Item) (strikes : List ℕ) (turn peer : ℕ) (item : Item) (v : Wanted) → find is_unasked ws ≡ Some v
    → next_ask (core_at ws is strikes turn) ≡ Some (peer, item) → IsCore (core_at ws is strikes turn) → now ≡ map (with_ask_now peer item turn) ws
    → core_at now is strikes turn ≡ core_after_send (core_at ws is strikes turn) peer item
unfolding core_after_send
sent_tried_is ws now is strikes turn peer item v f due good n =
    let d = due_item (core_at ws is strikes turn) peer item due in
    let first : find is_unasked (missing_of ws is) ≡ Some v = find_parts ws is ∙ ap (λ (o : Option Wanted). option_or o (find is_unasked (map unasked_item is))) f in
    let same : v ≡ d.0 = same_Some v d.0 (sym first ∙ d.1) in
    same_core (missing_of now is) (map (with_ask_now peer item turn) (missing_of ws is)) strikes strikes turn turn
    (ap (λ (vs : List Wanted). missing_of vs is) n ∙ sym (sent_tried peer item turn ws is v f (ap (λ (w : Wanted). w.item) same ∙ d.2) (good.once item))) refl refl

abbrev asked_of : ℕ → Item → ℕ → Wanted
asked_of peer item turn = record { item = item; ask = Some (record { peer = peer; turn = turn }) }

fresh_missing : (ws : List Wanted) (is : List Item) (strikes : List ℕ) (turn peer : ℕ) (item : Item) → find is_unasked ws ≡ None
    → next_ask (core_at ws is strikes turn) ≡ Some (peer, item) → IsCore (core_at ws is strikes turn)
    → map (with_ask_now peer item turn) (missing_of ws is) ≡ missing_of (ws ++ asked_of peer item turn ∷ []) (filter (λ i. not (same_item i item)) is)
fresh_missing ws is strikes turn peer item f due good =
    let d = due_item (core_at ws is strikes turn) peer item due in
    let first : find is_unasked (missing_of ws is) ≡ find is_unasked (map unasked_item is) = find_parts ws is ∙ ap (λ (o : Option Wanted). option_or o (find is_unasked (map unasked_item is))) f in
    sent_fresh peer item turn ws is d.0 (sym first ∙ d.1) d.2 (good.once item)

pub sent_fresh_is : (ws now : List Wanted) (is left : List Item) (strikes : List ℕ) (turn peer : ℕ) (item : Item) → find is_unasked ws ≡ None
    → next_ask (core_at ws is strikes turn) ≡ Some (peer, item) → IsCore (core_at ws is strikes turn) → now ≡ ws ++ asked_of peer item turn ∷ [] → left ≡ filter (λ i. not (same_item i item)) is
    → core_at now left strikes turn ≡ core_after_send (core_at ws is strikes turn) peer item
unfolding core_after_send
sent_fresh_is ws now is left strikes turn peer item f due good n l =
    same_core (missing_of now left) (map (with_ask_now peer item turn) (missing_of ws is)) strikes strikes turn turn
    (ap (λ (vs : List Wanted). missing_of vs left) n ∙ ap (λ (js : List Item). missing_of (ws ++ asked_of peer item turn ∷ []) js) l ∙ sym (fresh_missing ws is strikes turn peer item f due good)) refl refl

pub room_for_next : (ws : List Wanted) (is : List Item) (strikes : List ℕ) (turn peer : ℕ) (item : Item) → find is_unasked ws ≡ None
    → next_ask (core_at ws is strikes turn) ≡ Some (peer, item) → IsCore (core_at ws is strikes turn) → length ws < MAX_PEERS * MAX_ASKS
unfolding core_after_send
room_for_next ws is strikes turn peer item f due good =
    let g : IsCore (core_after_send (core_at ws is strikes turn) peer item) = sent_good (core_at ws is strikes turn) (peer, item) due good in
    let e = fresh_missing ws is strikes turn peer item f due good in
    room_left (length strikes) turn ws (filter (λ i. not (same_item i item)) is) (asked_of peer item turn) (record { peer = peer; turn = turn }) good.few_peers f refl
    (λ p. subst (λ (vs : List Wanted). asks_of vs p ≤ MAX_ASKS) e (g.few_asks p))
    (subst (λ (vs : List Wanted). AllByRecursion (λ v. IfSome v.ask (λ x. (x.peer < length strikes) × (x.turn ≤ turn))) vs) e g.asks)

-- ---- what is first, and what is there

pub pieces_is : (ws : List Wanted) (is : List Item) (kind : Kind) (numbers : List ℕ) (count : ℕ) (strikes : List ℕ) (turn : ℕ) → length (missing_of ws is) ≡ 0 → kind ≡ Pieces → numbers ≡ range_with_len 0 count
    → core_at ws (map (item_at kind) numbers) strikes turn ≡ with_items (core_at ws is strikes turn) (all_pieces count)
pieces_is ws is kind numbers count strikes turn none k n =
    ap (λ (js : List Item). core_at ws js strikes turn) (items_moved Pieces kind (range_with_len 0 count) numbers k n)
    ∙ listed_is ws is (range_with_len 0 count) (item_at Pieces) strikes turn none

pub chunks_is : (ws : List Wanted) (is : List Item) (kind : Kind) (numbers : List ℕ) (count : ℕ) (had strikes : List ℕ) (turn : ℕ) → length (missing_of ws is) ≡ 0 → kind ≡ Chunks
    → numbers ≡ filter (λ i. not (list_any (λ j. j == i) had)) (range_with_len 0 count)
    → core_at ws (map (item_at kind) numbers) strikes turn ≡ with_items (core_at ws is strikes turn) (chunks_without count had)
chunks_is ws is kind numbers count had strikes turn none k n =
    ap (λ (js : List Item). core_at ws js strikes turn) (items_moved Chunks kind (filter (λ i. not (list_any (λ j. j == i) had)) (range_with_len 0 count)) numbers k n)
    ∙ listed_is ws is (filter (λ i. not (list_any (λ j. j == i) had)) (range_with_len 0 count)) (item_at Chunks) strikes turn none

abbrev item_in : Option Wanted → Option Item
item_in o = option_map (λ w. w.item) o

pub first_of_tried : (ws : List Wanted) (is : List Item) (i : Item) → Some i ≡ option_map (λ w. w.item) (find is_unasked ws) → Some i ≡ option_map (λ w. w.item) (find is_unasked (missing_of ws is))
first_of_tried ws is i e = by (find is_unasked ws) refl e
  where
    by : (o : Option Wanted) → find is_unasked ws ≡ o → Some i ≡ item_in o → Some i ≡ item_in (find is_unasked (missing_of ws is))
    by None f k = absurd (none-some i (sym k))
    by (Some w) f k = k ∙ sym (ap (λ (o : Option Wanted). item_in o) (find_parts ws is ∙ ap (λ (o : Option Wanted). option_or o (find is_unasked (map unasked_item is))) f))

pub first_of_fresh : (ws : List Wanted) (is : List Item) → None ≡ option_map (λ w. w.item) (find is_unasked ws)
    → option_map (λ w. w.item) (find is_unasked (map unasked_item is)) ≡ option_map (λ w. w.item) (find is_unasked (missing_of ws is))
first_of_fresh ws is e = by (find is_unasked ws) refl e
  where
    by : (o : Option Wanted) → find is_unasked ws ≡ o → None ≡ item_in o → item_in (find is_unasked (map unasked_item is)) ≡ item_in (find is_unasked (missing_of ws is))
    by None f k = sym (ap (λ (o : Option Wanted). item_in o) (find_parts ws is ∙ ap (λ (o : Option Wanted). option_or o (find is_unasked (map unasked_item is))) f))
    by (Some w) f k = absurd (none-some w.item k)

pub seen_item : {X : Type 0} (f : X → Item) (r : Option X) (o : Option Wanted) → option_map (λ x. unasked_item (f x)) r ≡ o → option_map f r ≡ option_map (λ w. w.item) o
seen_item f None o e = ap (λ (p : Option Wanted). item_in p) e
seen_item f (Some x) o e = ap (λ (p : Option Wanted). item_in p) e

pub has_fresh : (ws : List Wanted) (is : List Item) (item : Item) → list_any (λ i. same_item i item) is ≡ true → true ≡ has_item (missing_of ws is) item
has_fresh ws is item e = sym (has_parts ws is item ∙ ap (λ b. has_item ws item || b) e ∙ or-true (has_item ws item))

pub has_tried : (ws : List Wanted) (is : List Item) (item : Item) → list_any (λ i. same_item i item) is ≡ false → has_item ws item ≡ has_item (missing_of ws is) item
has_tried ws is item e = sym (has_parts ws is item ∙ ap (λ b. has_item ws item || b) e ∙ or-false (has_item ws item))
