-- What always holds of a core lasts.
use Rattle.std.proofs.Common.{◌≡◌, ℕ, zero, suc, ◌+◌, ◌<◌, ◌≤◌, ◌==◌, ◌&&◌, not, min, cond, if◌then◌else◌, Bool, true, false, List, [], ◌∷◌, length, map, filter, find, fold, count_by, replicate, slice_set, slice_index, Option, Some, None, nat_lt, IfSome, refl, sym, ap, ◌∙◌, subst, arith}
use Rattle.std.specs.List.{AllByRecursion, list_any, list_all, range_with_len}
use Rattle.std.specs.Option.{option_map_or}
use Rattle.std.proofs.lemmas.Bool.{and_parts, ltb-true, eqb-true}
use Rattle.std.proofs.lemmas.List.{length-map}
use Rattle.std.proofs.lemmas.List.Sums.{sum_by-cons}
use Rattle.format_spec.specs.declared.limits.TheConstants.{MAX_ASKS, MAX_STRIKES, MAX_PEERS}
use Rattle.sync_spec.specs.Messages.{Item, meta, piece, chunk}
use Rattle.sync_spec.specs.Core.{Core, Flight, Wanted, Heard, took, wrong, late, same_item, has_item, unasked_item, all_pieces, chunks_without, core_at_start, with_items, with_strike, is_old, without_ask}
use Rattle.sync_spec.specs.Core.{with_strike_for_ask, pardoned_strikes, core_after_turn, is_asked_of, asks_of, may_be_asked, peers_of, is_unasked, ask_for}
use Rattle.sync_spec.specs.Core.{next_ask, with_ask_now, core_after_send, core_after_failure, verdict_if, core_without_item, core_after_fault, core_after_verdict, core_after_message}
use Rattle.sync_spec.specs.CoreLaws.{IsCore, Call, turns, sends, fails, delivers, core_after_call, IsDueCall}
use Rattle.sync_spec.specs.Events.{Asked, core_after_ask, core_after_asks}
use Rattle.format_spec.proofs.Lists.{all_filtered, all_weaker}

-- ---- counts

abbrev one_if : Bool → ℕ
one_if b = cond b 1 0

pub count_cons : {X : Type 0} (p : X → Bool) (x : X) (xs : List X) → count_by p (x ∷ xs) ≡ cond (p x) 1 0 + count_by p xs
count_cons p x xs = sum_by-cons (λ y. cond (p y) 1 0) x xs

count_map : {X Y : Type 0} (p : Y → Bool) (q : X → Bool) (f : X → Y) → ((x : X) → cond (p (f x)) 1 0 ≤ cond (q x) 1 0) → (xs : List X) → count_by p (map f xs) ≤ count_by q xs
count_map p q f h [] = omega arith
count_map p q f h (x ∷ xs) = omega (arith, count_cons p (f x) (map f xs), count_cons q x xs, h x, count_map p q f h xs)

count_two : {X Y : Type 0} (p : Y → Bool) (q r : X → Bool) (f : X → Y) → ((x : X) → cond (p (f x)) 1 0 ≤ cond (q x) 1 0 + cond (r x) 1 0) → (xs : List X) → count_by p (map f xs) ≤ count_by q xs + count_by r xs
count_two p q r f h [] = omega arith
count_two p q r f h (x ∷ xs) = omega (arith, count_cons p (f x) (map f xs), count_cons q x xs, count_cons r x xs, h x, count_two p q r f h xs)

count_filter : {X : Type 0} (p q : X → Bool) (xs : List X) → count_by p (filter q xs) ≤ count_by p xs
count_filter p q [] = omega arith
count_filter {X} p q (x ∷ xs) = by (q x) (count_filter p q xs)
  where
    by : (b : Bool) → count_by p (filter q xs) ≤ count_by p xs → count_by p (cond b (x ∷ filter q xs) (filter q xs)) ≤ count_by p (x ∷ xs)
    by true h = omega (arith, count_cons p x (filter q xs), count_cons p x xs, h)
    by false h = omega (arith, count_cons p x xs, h)

count_never : {X : Type 0} (xs : List X) → count_by (λ x. false) xs ≡ 0
count_never [] = refl
count_never (x ∷ xs) = omega (arith, count_cons (λ y. false) x xs, count_never xs)

count_below : (k a n : ℕ) → k < a → count_by (λ j. j == k) (range_with_len a n) ≡ 0
count_below k a zero below = refl
count_below k a (suc n) below = omega (arith, count_cons (λ j. j == k) a (range_with_len (a + 1) n), differ (a == k) refl, count_below k (a + 1) n (omega (arith, below)))
  where
    differ : (b : Bool) → (a == k) ≡ b → one_if (a == k) ≡ 0
    differ false e = ap one_if e
    differ true e = absurd (omega (arith, eqb-true a k e, below))

count_once : (k a n : ℕ) → count_by (λ j. j == k) (range_with_len a n) ≤ 1
count_once k a zero = omega arith
count_once k a (suc n) = by (a == k) refl (count_once k (a + 1) n)
  where
    by : (b : Bool) → (a == k) ≡ b → count_by (λ j. j == k) (range_with_len (a + 1) n) ≤ 1 → count_by (λ j. j == k) (range_with_len a (suc n)) ≤ 1
    by true e h = omega (arith, count_cons (λ j. j == k) a (range_with_len (a + 1) n), ap one_if e, count_below k (a + 1) n (omega (arith, eqb-true a k e)))
    by false e h = omega (arith, count_cons (λ j. j == k) a (range_with_len (a + 1) n), ap one_if e, h)

-- ---- lists

pub all_map : {X Y : Type 0} (P : X → Type 0) (Q : Y → Type 0) (f : X → Y) → ((x : X) → P x → Q (f x)) → (xs : List X) → AllByRecursion P xs → AllByRecursion Q (map f xs)
all_map P Q f h [] all = tt
all_map P Q f h (x ∷ xs) all = (h x all.0, all_map P Q f h xs all.1)

all_any : {X Y : Type 0} (Q : Y → Type 0) (f : X → Y) → ((x : X) → Q (f x)) → (xs : List X) → AllByRecursion Q (map f xs)
all_any Q f h [] = tt
all_any Q f h (x ∷ xs) = (h x, all_any Q f h xs)

set_long : (xs : List ℕ) (i v : ℕ) → length (slice_set xs i v) ≡ length xs
set_long [] i v = refl
set_long (x ∷ xs) zero v = refl
set_long (x ∷ xs) (suc i) v = ap suc (set_long xs i v)

set_all : (P : ℕ → Type 0) (xs : List ℕ) (i v : ℕ) → P v → AllByRecursion P xs → AllByRecursion P (slice_set xs i v)
set_all P [] i v h all = tt
set_all P (x ∷ xs) zero v h all = (h, all.1)
set_all P (x ∷ xs) (suc i) v h all = (all.0, set_all P xs i v h all.1)

-- ---- strikes

abbrev AreFew : List ℕ → Type 0
AreFew strikes = AllByRecursion (λ n. n ≤ MAX_STRIKES) strikes

-- as many as before, and few
record Struck (old new : List ℕ) : Type 0 where
  pub long : length new ≡ length old
  pub few : AreFew new

struck_one : (peer : ℕ) (strikes : List ℕ) → AreFew strikes → Struck strikes (with_strike peer strikes)
struck_one peer strikes few =
    let low : min MAX_STRIKES (suc (slice_index strikes peer)) ≤ MAX_STRIKES = omega arith in
    record { long = set_long strikes peer (min MAX_STRIKES (suc (slice_index strikes peer))); few = set_all (λ n. n ≤ MAX_STRIKES) strikes peer (min MAX_STRIKES (suc (slice_index strikes peer))) low few }

struck_maybe : (strikes : List ℕ) (a : Option Flight) → AreFew strikes → Struck strikes (option_map_or (λ (x : Flight). with_strike x.peer strikes) a strikes)
struck_maybe strikes None few = record { long = refl; few = few }
struck_maybe strikes (Some a) few = struck_one a.peer strikes few

struck_all : (ws : List Wanted) (strikes : List ℕ) → AreFew strikes → Struck strikes (fold with_strike_for_ask strikes ws)
struck_all [] strikes few = record { long = refl; few = few }
struck_all (w ∷ ws) strikes few =
    let one = struck_maybe strikes w.ask few in
    let rest = struck_all ws (with_strike_for_ask strikes w) one.few in
    record { long = rest.long ∙ one.long; few = rest.few }

struck_none : (strikes : List ℕ) → AreFew strikes → Struck strikes (pardoned_strikes strikes)
struck_none strikes few = by (list_all (λ n. n == MAX_STRIKES) strikes)
  where
    by : (b : Bool) → Struck strikes (if b then map (λ (n : ℕ). 0) strikes else strikes)
    by true = record { long = length-map strikes (λ (n : ℕ). 0); few = all_any (λ n. n ≤ MAX_STRIKES) (λ (n : ℕ). 0) (λ n. omega arith) strikes }
    by false = record { long = refl; few = few }

-- ---- asks and items

abbrev AreAsks : ℕ → ℕ → List Wanted → Type 0
AreAsks peers turn ws = AllByRecursion (λ w. IfSome w.ask (λ a. (a.peer < peers) × (a.turn ≤ turn))) ws

-- what holds of the items that are missing
record AreGood (peers turn : ℕ) (ws : List Wanted) : Type 0 where
  pub few : (peer : ℕ) → asks_of ws peer ≤ MAX_ASKS
  pub asks : AreAsks peers turn ws
  pub once : (i : Item) → count_by (λ w. same_item w.item i) ws ≤ 1

asks_moved : (peers more turn later : ℕ) → peers ≡ more → turn ≤ later → (ws : List Wanted) → AreAsks peers turn ws → AreAsks more later ws
asks_moved peers more turn later e up ws h = all_weaker (λ (w : Wanted). IfSome w.ask (λ a. (a.peer < peers) × (a.turn ≤ turn))) (λ (w : Wanted). IfSome w.ask (λ a. (a.peer < more) × (a.turn ≤ later))) (λ w k. one w.ask k) ws h
  where
    one : (a : Option Flight) → IfSome a (λ (x : Flight). (x.peer < peers) × (x.turn ≤ turn)) → IfSome a (λ (x : Flight). (x.peer < more) × (x.turn ≤ later))
    one None k = tt
    one (Some a) k = (omega (arith, k.0, e), omega (arith, k.1, up))

good_moved : (peers more turn later : ℕ) → peers ≡ more → turn ≤ later → (ws : List Wanted) → AreGood peers turn ws → AreGood more later ws
good_moved peers more turn later e up ws g = record { few = g.few; asks = asks_moved peers more turn later e up ws g.asks; once = g.once }

-- the asks that pass a test are given up
good_without : (peers turn : ℕ) (test : Wanted → Bool) (ws : List Wanted) → AreGood peers turn ws → AreGood peers turn (map (without_ask test) ws)
good_without peers turn test ws g = record {
  few = λ peer. let less = count_map (is_asked_of peer) (is_asked_of peer) (without_ask test) (λ w. fewer peer w (test w)) ws in omega (arith, less, g.few peer);
  asks = all_map (λ (w : Wanted). IfSome w.ask (λ a. (a.peer < peers) × (a.turn ≤ turn))) (λ (w : Wanted). IfSome w.ask (λ a. (a.peer < peers) × (a.turn ≤ turn))) (without_ask test) (λ w h. kept w (test w) h) ws g.asks;
  once = λ i. let less = count_map (λ (w : Wanted). same_item w.item i) (λ (w : Wanted). same_item w.item i) (without_ask test) (λ w. still i w (test w)) ws in omega (arith, less, g.once i);
}
  where
    fewer : (peer : ℕ) (w : Wanted) (b : Bool) → cond (is_asked_of peer (if b then unasked_item w.item else w)) 1 0 ≤ cond (is_asked_of peer w) 1 0
    fewer peer w true = omega arith
    fewer peer w false = omega arith

    kept : (w : Wanted) (b : Bool) → IfSome w.ask (λ a. (a.peer < peers) × (a.turn ≤ turn)) → IfSome (if b then unasked_item w.item else w).ask (λ a. (a.peer < peers) × (a.turn ≤ turn))
    kept w true h = tt
    kept w false h = h

    still : (i : Item) (w : Wanted) (b : Bool) → cond (same_item (if b then unasked_item w.item else w).item i) 1 0 ≤ cond (same_item w.item i) 1 0
    still i w true = omega arith
    still i w false = omega arith

good_filter : (peers turn : ℕ) (q : Wanted → Bool) (ws : List Wanted) → AreGood peers turn ws → AreGood peers turn (filter q ws)
good_filter peers turn q ws g = record {
  few = λ peer. let less = count_filter (is_asked_of peer) q ws in omega (arith, less, g.few peer);
  asks = all_filtered (λ (w : Wanted). IfSome w.ask (λ a. (a.peer < peers) × (a.turn ≤ turn))) q ws g.asks;
  once = λ i. let less = count_filter (λ (w : Wanted). same_item w.item i) q ws in omega (arith, less, g.once i);
}

-- a missing item is asked of a peer that may be asked
good_sent : (peers turn peer : ℕ) (item : Item) (ws : List Wanted) → peer < peers → asks_of ws peer < MAX_ASKS → AreGood peers turn ws → AreGood peers turn (map (with_ask_now peer item turn) ws)
good_sent peers turn peer item ws within free g = record {
  few = λ p. few_of p (peer == p) refl;
  asks = all_map (λ (w : Wanted). IfSome w.ask (λ a. (a.peer < peers) × (a.turn ≤ turn))) (λ (w : Wanted). IfSome w.ask (λ a. (a.peer < peers) × (a.turn ≤ turn))) (with_ask_now peer item turn) (λ w h. kept w (same_item w.item item) h) ws g.asks;
  once = λ i. let less = count_map (λ (w : Wanted). same_item w.item i) (λ (w : Wanted). same_item w.item i) (with_ask_now peer item turn) (λ w. still i w (same_item w.item item)) ws in omega (arith, less, g.once i);
}
  where
    now : Wanted → Wanted
    now w = record w { ask = Some (record { peer = peer; turn = turn }) }

    kept : (w : Wanted) (b : Bool) → IfSome w.ask (λ a. (a.peer < peers) × (a.turn ≤ turn)) → IfSome (if b then record w { ask = Some (record { peer = peer; turn = turn }) } else w).ask (λ a. (a.peer < peers) × (a.turn ≤ turn))
    kept w true h = (within, omega arith)
    kept w false h = h

    still : (i : Item) (w : Wanted) (b : Bool) → cond (same_item (if b then record w { ask = Some (record { peer = peer; turn = turn }) } else w).item i) 1 0 ≤ cond (same_item w.item i) 1 0
    still i w true = omega arith
    still i w false = omega arith

    one_more : (p : ℕ) (w : Wanted) (b : Bool) → cond (is_asked_of p (if b then record w { ask = Some (record { peer = peer; turn = turn }) } else w)) 1 0 ≤ cond (is_asked_of p w) 1 0 + cond b 1 0
    one_more p w true = small (peer == p)
      where
        small : (c : Bool) → cond c 1 0 ≤ cond (is_asked_of p w) 1 0 + 1
        small true = omega arith
        small false = omega arith
    one_more p w false = omega arith

    no_more : (p : ℕ) (w : Wanted) (b : Bool) → (peer == p) ≡ false → cond (is_asked_of p (if b then record w { ask = Some (record { peer = peer; turn = turn }) } else w)) 1 0 ≤ cond (is_asked_of p w) 1 0
    no_more p w true e = omega (arith, ap one_if e)
    no_more p w false e = omega arith

    few_of : (p : ℕ) (b : Bool) → (peer == p) ≡ b → asks_of (map (with_ask_now peer item turn) ws) p ≤ MAX_ASKS
    few_of p true e =
        let same : peer ≡ p = eqb-true peer p e in
        let more = count_two (is_asked_of p) (is_asked_of p) (λ (w : Wanted). same_item w.item item) (with_ask_now peer item turn) (λ w. one_more p w (same_item w.item item)) ws in
        let free_now : asks_of ws p < MAX_ASKS = subst (λ (k : ℕ). asks_of ws k < MAX_ASKS) same free in
        omega (arith, more, g.once item, free_now)
    few_of p false e =
        let less = count_map (is_asked_of p) (is_asked_of p) (with_ask_now peer item turn) (λ w. no_more p w (same_item w.item item) e) ws in
        omega (arith, less, g.few p)

-- ---- cores

good_of : (c : Core) → IsCore c → AreGood (length c.strikes) c.turn c.missing
good_of c h = record { few = h.few_asks; asks = h.asks; once = h.once }

core_of : (c : Core) → length c.strikes ≤ MAX_PEERS → AreFew c.strikes → AreGood (length c.strikes) c.turn c.missing → IsCore c
core_of c peers few g = record { few_peers = peers; few_strikes = few; few_asks = g.few; asks = g.asks; once = g.once }

pub turned_good : (c : Core) → IsCore c → IsCore (core_after_turn c)
unfolding core_after_turn
turned_good c h =
    let old : List Wanted = filter (is_old (suc c.turn)) c.missing in
    let a = struck_all old c.strikes h.few_strikes in
    let b = struck_none (fold with_strike_for_ask c.strikes old) a.few in
    let long : length c.strikes ≡ length (pardoned_strikes (fold with_strike_for_ask c.strikes old)) = sym (b.long ∙ a.long) in
    core_of (core_after_turn c) (omega (arith, long, h.few_peers)) b.few
    (good_moved (length c.strikes) (length (pardoned_strikes (fold with_strike_for_ask c.strikes old))) c.turn (suc c.turn) long (omega arith) (map (without_ask (is_old (suc c.turn))) c.missing) (good_without (length c.strikes) c.turn (is_old (suc c.turn)) c.missing (good_of c h)))

pub unsent_good : (c : Core) (peer : ℕ) → IsCore c → IsCore (core_after_failure c peer)
unfolding core_after_failure
unsent_good c peer h =
    let a = struck_one peer c.strikes h.few_strikes in
    core_of (core_after_failure c peer) (omega (arith, a.long, h.few_peers)) a.few (good_moved (length c.strikes) (length (with_strike peer c.strikes)) c.turn c.turn (sym a.long) (omega arith) c.missing (good_of c h))

pub found : {X : Type 0} (P : X → Type 0) (p : X → Bool) (xs : List X) (x : X) → AllByRecursion P xs → find p xs ≡ Some x → (p x ≡ true) × P x
found P p [] x all e = absurd cc
found {X} P p (y ∷ xs) x all e = by (p y) refl e (λ f. found P p xs x all.1 f)
  where
    some : Some y ≡ Some x → y ≡ x
    some f = cc

    by : (b : Bool) → p y ≡ b → cond b (Some y) (find p xs) ≡ Some x → (find p xs ≡ Some x → (p x ≡ true) × P x) → (p x ≡ true) × P x
    by true is f rest = subst (λ (z : X). (p z ≡ true) × P z) (some f) (is, all.0)
    by false is f rest = rest f

all_below : (a n : ℕ) → AllByRecursion (λ j. j < a + n) (range_with_len a n)
all_below a zero = tt
all_below a (suc n) = (omega arith, all_weaker (λ j. j < a + 1 + n) (λ j. j < a + suc n) (λ j h. omega (arith, h)) (range_with_len (a + 1) n) (all_below (a + 1) n))

is_due : (c : Core) (due : ℕ × Item) → next_ask c ≡ Some due → (due.0 < length c.strikes) × (asks_of c.missing due.0 < MAX_ASKS)
unfolding next_ask
is_due c due e = by (find (may_be_asked c) (peers_of c)) (find is_unasked c.missing) refl e
  where
    first : (p q : ℕ) (i : Item) → Some (p, i) ≡ Some due → p ≡ due.0
    first p q i f = ap (λ (o : Option (ℕ × Item)). option_map_or (λ (x : ℕ × Item). x.0) o p) f

    by : (a : Option ℕ) (b : Option Wanted) → find (may_be_asked c) (peers_of c) ≡ a → ask_for a b ≡ Some due → (due.0 < length c.strikes) × (asks_of c.missing due.0 < MAX_ASKS)
    by None b is f = absurd cc
    by (Some p) None is f = absurd cc
    by (Some p) (Some w) is f =
        let k = found (λ j. j < 0 + length c.strikes) (may_be_asked c) (peers_of c) p (all_below 0 (length c.strikes)) is in
        let free : asks_of c.missing p < MAX_ASKS = ltb-true (asks_of c.missing p) MAX_ASKS (and_parts (nat_lt (slice_index c.strikes p) MAX_STRIKES) (nat_lt (asks_of c.missing p) MAX_ASKS) k.0).1 in
        subst (λ (j : ℕ). (j < length c.strikes) × (asks_of c.missing j < MAX_ASKS)) (first p p w.item f) (omega (arith, k.1), free)

pub sent_good : (c : Core) (due : ℕ × Item) → next_ask c ≡ Some due → IsCore c → IsCore (core_after_send c due.0 due.1)
unfolding core_after_send
sent_good c due e h =
    let d = is_due c due e in
    core_of (core_after_send c due.0 due.1) h.few_peers h.few_strikes (good_sent (length c.strikes) c.turn due.0 due.1 c.missing d.0 d.1 (good_of c h))

pub asked_good : (c : Core) (asked : List Asked) → IsCore c → IsCore (core_after_asks c asked)
asked_good c [] h = h
asked_good c (a ∷ asked) h = asked_good (core_after_ask c a.went_out (next_ask c)) asked (one a.went_out (next_ask c) refl)
  where
    one : (b : Bool) (due : Option (ℕ × Item)) → next_ask c ≡ due → IsCore (core_after_ask c b due)
    one b None e = h
    one true (Some due) e = sent_good c due e h
    one false (Some due) e = unsent_good c due.0 h

pub had_good : (c : Core) (item : Item) → IsCore c → IsCore (core_without_item c item)
had_good c item h = core_of (core_without_item c item) h.few_peers h.few_strikes (good_filter (length c.strikes) c.turn (λ w. not (same_item w.item item)) c.missing (good_of c h))

pub fault_good : (c : Core) (peer : ℕ) (item : Item) → IsCore c → IsCore (core_after_fault c peer item)
fault_good c peer item h =
    let a = struck_one peer c.strikes h.few_strikes in
    let test : Wanted → Bool = λ w. same_item w.item item && is_asked_of peer w in
    core_of (core_after_fault c peer item) (omega (arith, a.long, h.few_peers)) a.few
    (good_moved (length c.strikes) (length (with_strike peer c.strikes)) c.turn c.turn (sym a.long) (omega arith) (map (without_ask test) c.missing) (good_without (length c.strikes) c.turn test c.missing (good_of c h)))

pub delivered_good : (c : Core) (peer : ℕ) (item : Option Item) (right : Bool) → IsCore c → IsCore (core_after_message c peer item right)
unfolding core_after_message
delivered_good c peer None right h = unsent_good c peer h
delivered_good c peer (Some item) right h = by (verdict_if (has_item c.missing item) right)
  where
    by : (k : Heard) → IsCore (core_after_verdict k c peer item)
    by took = had_good c item h
    by wrong = fault_good c peer item h
    by late = h

-- ---- a new list

good_new : (peers turn : ℕ) (to : ℕ → Item) (js : List ℕ) → ((i : Item) → count_by (λ j. same_item (to j) i) js ≤ 1) → AreGood peers turn (map (λ j. unasked_item (to j)) js)
good_new peers turn to js once = record {
  few = λ peer. let less = count_map (is_asked_of peer) (λ (j : ℕ). false) (λ j. unasked_item (to j)) (λ j. omega arith) js in omega (arith, less, count_never js);
  asks = all_any (λ (w : Wanted). IfSome w.ask (λ a. (a.peer < peers) × (a.turn ≤ turn))) (λ j. unasked_item (to j)) (λ j. tt) js;
  once = λ i. let less = count_map (λ (w : Wanted). same_item w.item i) (λ (j : ℕ). same_item (to j) i) (λ j. unasked_item (to j)) (λ j. omega arith) js in omega (arith, less, once i);
}

pub pieces_good : (c : Core) (n : ℕ) → IsCore c → IsCore (with_items c (all_pieces n))
pieces_good c n h = core_of (with_items c (all_pieces n)) h.few_peers h.few_strikes (good_new (length c.strikes) c.turn (λ j. piece j) (range_with_len 0 n) once)
  where
    once : (i : Item) → count_by (λ j. same_item (piece j) i) (range_with_len 0 n) ≤ 1
    once meta = omega (arith, count_never (range_with_len 0 n))
    once (piece k) = count_once k 0 n
    once (chunk k) = omega (arith, count_never (range_with_len 0 n))

pub chunks_good : (c : Core) (n : ℕ) (had : List ℕ) → IsCore c → IsCore (with_items c (chunks_without n had))
chunks_good c n had h = core_of (with_items c (chunks_without n had)) h.few_peers h.few_strikes (good_new (length c.strikes) c.turn (λ j. chunk j) (filter (λ i. not (list_any (λ j. j == i) had)) (range_with_len 0 n)) once)
  where
    once : (i : Item) → count_by (λ j. same_item (chunk j) i) (filter (λ i. not (list_any (λ j. j == i) had)) (range_with_len 0 n)) ≤ 1
    once meta = omega (arith, count_never (filter (λ i. not (list_any (λ j. j == i) had)) (range_with_len 0 n)))
    once (piece k) = omega (arith, count_never (filter (λ i. not (list_any (λ j. j == i) had)) (range_with_len 0 n)))
    once (chunk k) = omega (arith, count_once k 0 n, count_filter (λ j. j == k) (λ i. not (list_any (λ j. j == i) had)) (range_with_len 0 n))

abbrev zeros_of : ℕ → List ℕ
zeros_of n = replicate n 0

pub begun_good : (peers : ℕ) → peers ≤ MAX_PEERS → IsCore (core_at_start peers)
begun_good peers few =
    let long : length (zeros_of peers) ≡ peers = as_many peers in
    core_of (core_at_start peers) (omega (arith, long, few)) (zeros peers)
    (record { few = λ peer. omega arith; asks = (tt, tt); once = λ i. one (same_item meta i) })
  where
    as_many : (n : ℕ) → length (zeros_of n) ≡ n
    as_many zero = refl
    as_many (suc n) = ap suc (as_many n)

    zeros : (n : ℕ) → AreFew (zeros_of n)
    zeros zero = tt
    zeros (suc n) = (omega arith, zeros n)

    one : (b : Bool) → 0 + cond b 1 0 ≤ 1
    one true = omega arith
    one false = omega arith

-- ---- each call

pub call_good : (c : Core) (call : Call) → IsDueCall c call → IsCore c → IsCore (core_after_call c call)
call_good c turns due h = turned_good c h
call_good c (sends peer item) due h = sent_good c (peer, item) due h
call_good c (fails peer) due h = unsent_good c peer h
call_good c (delivers peer item right) due h = delivered_good c peer item right h
