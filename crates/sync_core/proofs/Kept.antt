-- What always holds of a core lasts under each call.
use Rattle.std.proofs.Common.{◌≡◌, ℕ, suc, Bool, ◌<◌, ◌≤◌, ◌^◌, ◌==◌, ◌&&◌, not, List, length, filter, Some, arith}
use Rattle.std.specs.List.{list_any, range_with_len}
use Rattle.std.proofs.lemmas.List.{length-map}
use Rattle.std.proofs.lemmas.List.FromFn.{length-range_with_len, length-map-range_with_len}
use Rattle.std.proofs.lemmas.List.Sums.{length-filter, count_by-le-length}
use Rattle.sync_spec.specs.Messages.{Item, piece, chunk}
use Rattle.sync_spec.specs.Core.{Core, Wanted, with_items, all_pieces, chunks_without, unasked_item, without_ask, is_old, same_item, is_asked_of, with_ask_now, core_after_turn, next_ask, core_after_send, core_after_failure, core_without_item, core_after_fault}
use Rattle.sync_spec.proofs.Lasting.{pieces_good, chunks_good, turned_good, sent_good, unsent_good, had_good, fault_good}
use Rattle.sync_core.specs.Views.{HoldsCore}

fewer_kept : {X : Type 0} (p : X → Bool) (xs : List X) → length (filter p xs) ≤ length xs
fewer_kept p xs = let a = length-filter p xs in let b = count_by-le-length p xs in omega (arith, a, b)

pub kept_pieces : (c : Core) (room n : ℕ) → n < 2 ^ 32 → HoldsCore c room → HoldsCore (with_items c (all_pieces n)) room
kept_pieces c room n below k =
    let l = length-map-range_with_len (λ i. unasked_item (piece i)) 0 n in
    record { good = pieces_good c n k.good; few = omega (arith, l, below); enough = k.enough }

pub kept_chunks : (c : Core) (room n : ℕ) (had : List ℕ) → n < 2 ^ 32 → HoldsCore c room → HoldsCore (with_items c (chunks_without n had)) room
kept_chunks c room n had below k =
    let left : List ℕ = filter (λ i. not (list_any (λ j. j == i) had)) (range_with_len 0 n) in
    let a = length-map left (λ i. unasked_item (chunk i)) in
    let b = fewer_kept (λ i. not (list_any (λ j. j == i) had)) (range_with_len 0 n) in
    let l = length-range_with_len 0 n in
    record { good = chunks_good c n had k.good; few = omega (arith, a, b, l, below); enough = k.enough }

pub kept_turn : (c : Core) (room : ℕ) → HoldsCore c room → HoldsCore (core_after_turn c) room
unfolding core_after_turn
kept_turn c room k =
    let l = length-map c.missing (without_ask (is_old (suc c.turn))) in
    record { good = turned_good c k.good; few = omega (arith, l, k.few); enough = k.enough }

pub kept_sent : (c : Core) (peer : ℕ) (item : Item) (room : ℕ) → next_ask c ≡ Some (peer, item) → HoldsCore c room → HoldsCore (core_after_send c peer item) room
unfolding core_after_send
kept_sent c peer item room due k =
    let l = length-map c.missing (with_ask_now peer item c.turn) in
    record { good = sent_good c (peer, item) due k.good; few = omega (arith, l, k.few); enough = k.enough }

pub kept_unsent : (c : Core) (peer room : ℕ) → HoldsCore c room → HoldsCore (core_after_failure c peer) room
unfolding core_after_failure
kept_unsent c peer room k = record { good = unsent_good c peer k.good; few = k.few; enough = k.enough }

pub kept_had : (c : Core) (item : Item) (room : ℕ) → HoldsCore c room → HoldsCore (core_without_item c item) room
kept_had c item room k =
    let l = fewer_kept (λ (w : Wanted). not (same_item w.item item)) c.missing in
    record { good = had_good c item k.good; few = omega (arith, l, k.few); enough = k.enough }

pub kept_fault : (c : Core) (peer : ℕ) (item : Item) (room : ℕ) → HoldsCore c room → HoldsCore (core_after_fault c peer item) room
kept_fault c peer item room k =
    let l = length-map c.missing (without_ask (λ w. same_item w.item item && is_asked_of peer w)) in
    record { good = fault_good c peer item k.good; few = omega (arith, l, k.few); enough = k.enough }

pub more_room : (c : Core) (room more : ℕ) → room ≤ more → HoldsCore c room → HoldsCore c more
more_room c room more h k = record { good = k.good; few = k.few; enough = omega (arith, h, k.enough) }
