-- There is room for what is in flight: four asks a peer at most.
use Rattle.std.proofs.Common.{◌≡◌, ℕ, zero, suc, ◌*◌, ◌<◌, ◌≤◌, ◌==◌, not, cond, Bool, true, false, List, [], ◌∷◌, ◌++◌, length, filter, find, is_some, count_by, Option, Some, None, IfSome, nat_lt, refl, sym, ◌∙◌, arith, map}
use Rattle.std.specs.List.{AllByRecursion}
use Rattle.std.specs.Option.{option_map_or}
use Rattle.std.proofs.lemmas.Bool.{eq-eqb, ltb-true, ltb-false}
use Rattle.std.proofs.lemmas.List.{length-append}
use Rattle.std.proofs.lemmas.List.Sums.{length-filter}
use Rattle.std.proofs.lemmas.List.Filters.{length-filter_both}
use Rattle.format_spec.proofs.Lists.{all_parts, all_push}
use Rattle.format_spec.specs.declared.limits.TheConstants.{MAX_ASKS, MAX_PEERS}
use Rattle.sync_spec.specs.Messages.{Item}
use Rattle.sync_spec.specs.Core.{Flight, Wanted, is_asked_of, asks_of, is_unasked, unasked_item}
use Rattle.sync_spec.proofs.Lasting.{count_cons}
use Rattle.sync_core.specs.Views.{missing_of}
use Rattle.sync_core.proofs.Parts.{asks_parts}

-- an ask of a peer below this number
abbrev IsAskBelow : ℕ → Option Flight → Type 0
IsAskBelow n None = ⊥
IsAskBelow n (Some a) = a.peer < n

abbrev AreBelow : ℕ → List Wanted → Type 0
AreBelow n ws = AllByRecursion (λ w. IsAskBelow n w.ask) ws

both_ways : true ≡ false → ⊥
both_ways e = cc

below_less : (p n : ℕ) → p < suc n → (p == n) ≡ false → p < n
below_less p n below e = by (nat_lt p n) refl
  where
    by : (b : Bool) → nat_lt p n ≡ b → p < n
    by true k = ltb-true p n k
    by false k =
        let high = ltb-false p n k in
        let same : p ≡ n = omega (arith, high, below) in
        absurd (both_ways (sym (eq-eqb p n same) ∙ e))

fewer : (p q : Wanted → Bool) (ws : List Wanted) → count_by p (filter q ws) ≤ count_by p ws
fewer p q [] = omega arith
fewer p q (w ∷ ws) = by (q w) (fewer p q ws)
  where
    by : (b : Bool) → count_by p (filter q ws) ≤ count_by p ws → count_by p (cond b (w ∷ filter q ws) (filter q ws)) ≤ count_by p (w ∷ ws)
    by true h = let c = count_cons p w (filter q ws) in let d = count_cons p w ws in omega (arith, c, d, h)
    by false h = let d = count_cons p w ws in omega (arith, d, h)

-- but for the asks of the last peer
others_below : (n : ℕ) (ws : List Wanted) → AreBelow (suc n) ws → AreBelow n (filter (λ w. not (is_asked_of n w)) ws)
others_below n [] h = tt
others_below n (w ∷ ws) h = by (is_asked_of n w) refl (others_below n ws h.1)
  where
    one : (a : Option Flight) → IsAskBelow (suc n) a → option_map_or (λ x. x.peer == n) a false ≡ false → IsAskBelow n a
    one None below e = below
    one (Some f) below e = below_less f.peer n below e

    by : (b : Bool) → is_asked_of n w ≡ b → AreBelow n (filter (λ v. not (is_asked_of n v)) ws)
        → AreBelow n (cond (not b) (w ∷ filter (λ v. not (is_asked_of n v)) ws) (filter (λ v. not (is_asked_of n v)) ws))
    by true e rest = rest
    by false e rest = (one w.ask h.0 e, rest)

few_in_flight : (n : ℕ) (ws : List Wanted) → AreBelow n ws → ((peer : ℕ) → asks_of ws peer ≤ 4) → length ws ≤ n * 4
few_in_flight zero [] h few = omega arith
few_in_flight zero (w ∷ ws) h few = absurd (none w.ask h.0)
  where
    none : (a : Option Flight) → IsAskBelow 0 a → ⊥
    none None k = k
    none (Some a) k = omega (arith, k)
few_in_flight (suc n) ws h few =
    let q : Wanted → Bool = λ w. not (is_asked_of n w) in
    let both = length-filter_both (is_asked_of n) q (λ w. refl) ws in
    let here = length-filter (is_asked_of n) ws in
    let rest = few_in_flight n (filter q ws) (others_below n ws h) (λ peer. let less = fewer (is_asked_of peer) q ws in let f = few peer in omega (arith, less, f)) in
    let last = few n in
    omega (arith, both, here, rest, last)

-- where no item is without an ask, each has one
all_asked : (n turn : ℕ) (ws : List Wanted) → find is_unasked ws ≡ None → AllByRecursion (λ w. IfSome w.ask (λ a. (a.peer < n) × (a.turn ≤ turn))) ws → AreBelow n ws
all_asked n turn [] f h = tt
all_asked n turn (w ∷ ws) f h = let o = one w.ask h.0 f in (o.0, all_asked n turn ws o.1 h.1)
  where
    some_none : Some w ≡ None → ⊥
    some_none e = cc

    one : (a : Option Flight) → IfSome a (λ x. (x.peer < n) × (x.turn ≤ turn)) → cond (not (is_some a)) (Some w) (find is_unasked ws) ≡ None → IsAskBelow n a × (find is_unasked ws ≡ None)
    one None k e = absurd (some_none e)
    one (Some a) k e = (k.0, e)

last_of : (n turn : ℕ) (ws : List Wanted) (w : Wanted) (a : Flight) → w.ask ≡ Some a → AllByRecursion (λ v. IfSome v.ask (λ x. (x.peer < n) × (x.turn ≤ turn))) (ws ++ w ∷ []) → IsAskBelow n w.ask
last_of n turn [] w a e h = one w.ask e h.0
  where
    none_some : None ≡ Some a → ⊥
    none_some k = cc

    one : (o : Option Flight) → o ≡ Some a → IfSome o (λ x. (x.peer < n) × (x.turn ≤ turn)) → IsAskBelow n o
    one None k i = absurd (none_some k)
    one (Some x) k i = i.0
last_of n turn (v ∷ vs) w a e h = last_of n turn vs w a e h.1

-- one more than those in flight is within the room, where no peer has more than four asks with it
pub room_left : (n turn : ℕ) (ws : List Wanted) (is : List Item) (w : Wanted) (a : Flight) → n ≤ MAX_PEERS → find is_unasked ws ≡ None → w.ask ≡ Some a
    → ((peer : ℕ) → asks_of (missing_of (ws ++ w ∷ []) is) peer ≤ MAX_ASKS)
    → AllByRecursion (λ v. IfSome v.ask (λ x. (x.peer < n) × (x.turn ≤ turn))) (missing_of (ws ++ w ∷ []) is) → length ws < MAX_PEERS * MAX_ASKS
room_left n turn ws is w a few f e asks all =
    let front = (all_parts (λ (v : Wanted). IfSome v.ask (λ x. (x.peer < n) × (x.turn ≤ turn))) (ws ++ w ∷ []) (map unasked_item is) all).0 in
    let before = all_asked n turn ws f (all_parts (λ (v : Wanted). IfSome v.ask (λ x. (x.peer < n) × (x.turn ≤ turn))) ws (w ∷ []) front).0 in
    let below = all_push (λ (v : Wanted). IsAskBelow n v.ask) ws w before (last_of n turn ws w a e front) in
    let most = few_in_flight n (ws ++ w ∷ []) below (λ peer. let p = asks_parts (ws ++ w ∷ []) is peer in let q = asks peer in omega (arith, p, q)) in
    let long = length-append ws (w ∷ []) in
    omega (arith, most, long, few)
