-- The core of a sync, which knows no bytes: which items are missing, which are asked for, and which peers are at fault.
use Rattle.std.specs.Prelude.{ℕ, suc, ◌+◌, ◌==◌, ◌&&◌, not, min, Bool, true, false, if◌then◌else◌, List, [], ◌∷◌, length}
use Rattle.std.specs.Prelude.{map, filter, find, fold, replicate, count_by, slice_index, slice_set, nat_lt, nat_le, is_some, Option, Some, None}
use Rattle.std.specs.List.{list_any, list_all, range_with_len}
use Rattle.std.specs.Option.{option_map_or}
use Rattle.format_spec.specs.declared.limits.TheConstants.{MAX_ASKS, MAX_STRIKES, MAX_TURNS}
use Rattle.sync_spec.specs.Messages.{Item, meta, piece, chunk}

-- an ask in flight: it went out to this peer at this turn
pub record Flight : Type 0 where
  pub peer : ℕ
  pub turn : ℕ

-- an item that is missing, with its ask that is neither answered nor given up; so an item has one ask at most
pub record Wanted : Type 0 where
  pub item : Item
  pub ask : Option Flight

pub record Core : Type 0 where
  -- the items of the current list that are missing, in order
  pub missing : List Wanted
  -- of each peer that is asked, in order
  pub strikes : List ℕ
  pub turn : ℕ

-- ---- items

abbrev pub same_item : Item → Item → Bool
same_item meta meta = true
same_item (piece i) (piece j) = i == j
same_item (chunk i) (chunk j) = i == j
same_item _ _ = false

abbrev pub has_item : List Wanted → Item → Bool
has_item missing item = list_any (λ w. same_item w.item item) missing

-- an item that is not asked for yet
abbrev pub unasked_item : Item → Wanted
unasked_item item = record { item = item; ask = None }

-- the pieces of a meta-manifest with so many
abbrev pub all_pieces : ℕ → List Wanted
all_pieces n = map (λ i. unasked_item (piece i)) (range_with_len 0 n)

-- the chunks of a manifest with so many rows, but for those that are had at once
abbrev pub chunks_without : ℕ → List ℕ → List Wanted
chunks_without n had = map (λ i. unasked_item (chunk i)) (filter (λ i. not (list_any (λ j. j == i) had)) (range_with_len 0 n))

-- ---- how it begins, and its next list of items

-- with so many peers; the one item is the meta-manifest
abbrev pub core_at_start : ℕ → Core
core_at_start peers = record { missing = unasked_item meta ∷ []; strikes = replicate peers 0; turn = 0 }

abbrev pub with_items : Core → List Wanted → Core
with_items c items = record c { missing = items }

-- ---- a turn begins

-- one strike more, of three at most; a peer that is not asked has none
abbrev pub with_strike : ℕ → List ℕ → List ℕ
with_strike peer strikes = slice_set strikes peer (min MAX_STRIKES (suc (slice_index strikes peer)))

-- the turn of an ask is at least 64 below this one
abbrev pub is_old : ℕ → Wanted → Bool
is_old turn w = option_map_or (λ a. nat_le (a.turn + MAX_TURNS) turn) w.ask false

-- an item without its ask, where the test holds
abbrev pub without_ask : (Wanted → Bool) → Wanted → Wanted
without_ask test w = if test w then unasked_item w.item else w

abbrev pub with_strike_for_ask : List ℕ → Wanted → List ℕ
with_strike_for_ask strikes w = option_map_or (λ a. with_strike a.peer strikes) w.ask strikes

-- where all have three strikes, none has one
abbrev pub pardoned_strikes : List ℕ → List ℕ
pardoned_strikes strikes = if list_all (λ n. n == MAX_STRIKES) strikes then map (λ _. 0) strikes else strikes

-- The turn rises. Each old ask is given up, and its peer has a strike more.
unfoldable pub core_after_turn : Core → Core
core_after_turn c = record {
  missing = map (without_ask (is_old (suc c.turn))) c.missing;
  strikes = pardoned_strikes (fold with_strike_for_ask c.strikes (filter (is_old (suc c.turn)) c.missing));
  turn = suc c.turn;
}

-- ---- the asks of a turn

abbrev pub is_asked_of : ℕ → Wanted → Bool
is_asked_of peer w = option_map_or (λ a. a.peer == peer) w.ask false

-- the asks in flight at a peer
abbrev pub asks_of : List Wanted → ℕ → ℕ
asks_of missing peer = count_by (is_asked_of peer) missing

-- fewer than three strikes, and fewer than four asks
abbrev pub may_be_asked : Core → ℕ → Bool
may_be_asked c peer = nat_lt (slice_index c.strikes peer) MAX_STRIKES && nat_lt (asks_of c.missing peer) MAX_ASKS

abbrev pub peers_of : Core → List ℕ
peers_of c = range_with_len 0 (length c.strikes)

abbrev pub is_unasked : Wanted → Bool
is_unasked w = not (is_some w.ask)

abbrev pub ask_for : Option ℕ → Option Wanted → Option (ℕ × Item)
ask_for (Some peer) (Some w) = Some (peer, w.item)
ask_for _ _ = None

-- the first peer that may be asked, and the first missing item that is not in flight
unfoldable pub next_ask : Core → Option (ℕ × Item)
next_ask c = ask_for (find (may_be_asked c) (peers_of c)) (find is_unasked c.missing)

-- an ask went out
abbrev pub with_ask_now : ℕ → Item → ℕ → Wanted → Wanted
with_ask_now peer item turn w = if same_item w.item item then record w { ask = Some (record { peer = peer; turn = turn }) } else w

unfoldable pub core_after_send : Core → ℕ → Item → Core
core_after_send c peer item = record c { missing = map (with_ask_now peer item c.turn) c.missing }

-- an ask did not go out
unfoldable pub core_after_failure : Core → ℕ → Core
core_after_failure c peer = record c { strikes = with_strike peer c.strikes }

-- ---- a message

-- what a message is: an item that was missing, a fault of its peer, or nothing that is waited for
pub data Heard : Type 0 where
  took : Heard
  wrong : Heard
  late : Heard

abbrev pub verdict_if : Bool → Bool → Heard
verdict_if false right = late
verdict_if true false = wrong
verdict_if true true = took

-- a message is an answer for an item, right or not, or it is no answer
unfoldable pub verdict : Core → Option Item → Bool → Heard
verdict c None right = wrong
verdict c (Some item) right = verdict_if (has_item c.missing item) right

-- an item that is missing is had, whoever sent it and whenever it was asked for
abbrev pub core_without_item : Core → Item → Core
core_without_item c item = record c { missing = filter (λ w. not (same_item w.item item)) c.missing }

-- this peer's ask for the item is given up, and the peer has a strike more
abbrev pub core_after_fault : Core → ℕ → Item → Core
core_after_fault c peer item = record c {
  missing = map (without_ask (λ w. same_item w.item item && is_asked_of peer w)) c.missing;
  strikes = with_strike peer c.strikes;
}

abbrev pub core_after_verdict : Heard → Core → ℕ → Item → Core
core_after_verdict took c peer item = core_without_item c item
core_after_verdict wrong c peer item = core_after_fault c peer item
core_after_verdict late c peer item = c

unfoldable pub core_after_message : Core → ℕ → Option Item → Bool → Core
core_after_message c peer None right = core_after_failure c peer
core_after_message c peer (Some item) right = core_after_verdict (verdict_if (has_item c.missing item) right) c peer item
