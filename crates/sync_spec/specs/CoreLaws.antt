-- What the core of a sync promises.
use Rattle.std.specs.Prelude.{◌≡◌, ◌⊎◌, ℕ, ◌<◌, ◌≤◌, is_some, Bool, true, false, List, [], ◌∷◌, length, map, count_by}
use Rattle.std.specs.Prelude.{slice_index, IsTrue, IfSome, Contains, Option, Some, ⊤}
use Rattle.std.specs.List.{list_any, AllByRecursion}
use Rattle.format_spec.specs.declared.limits.TheConstants.{MAX_ASKS, MAX_STRIKES, MAX_PEERS}
use Rattle.sync_spec.specs.Messages.{Item}
use Rattle.sync_spec.specs.Core.{Core, Wanted, same_item, asks_of, next_ask, core_after_turn, core_after_send, core_after_failure, core_after_message}

-- ---- what always holds

-- an ask is at a peer that is asked, and of no later turn
abbrev pub IsAskIn : Core → Wanted → Type 0
IsAskIn c w = IfSome w.ask (λ a. (a.peer < length c.strikes) × (a.turn ≤ c.turn))

pub record IsCore (c : Core) : Type 0 where
  pub few_peers : length c.strikes ≤ MAX_PEERS
  pub few_strikes : AllByRecursion (λ n. n ≤ MAX_STRIKES) c.strikes
  -- no peer has more than four asks
  pub few_asks : (peer : ℕ) → asks_of c.missing peer ≤ MAX_ASKS
  pub asks : AllByRecursion (IsAskIn c) c.missing
  -- an item stands once among the missing ones
  pub once : (i : Item) → count_by (λ w. same_item w.item i) c.missing ≤ 1

-- ---- no item is lost

abbrev pub AllInFlight : Core → Type 0
AllInFlight c = (w : Wanted) → Contains c.missing w → IsTrue (is_some w.ask)

-- each peer has three strikes or four asks
abbrev pub NoPeerFree : Core → Type 0
NoPeerFree c = (peer : ℕ) → peer < length c.strikes → (MAX_STRIKES ≤ slice_index c.strikes peer) ⊎ (MAX_ASKS ≤ asks_of c.missing peer)

-- ---- which items are missing

-- a call on the core
pub data Call : Type 0 where
  turns : Call
  sends : ℕ → Item → Call
  fails : ℕ → Call
  delivers : ℕ → Option Item → Bool → Call

abbrev pub core_after_call : Core → Call → Core
core_after_call c turns = core_after_turn c
core_after_call c (sends peer item) = core_after_send c peer item
core_after_call c (fails peer) = core_after_failure c peer
core_after_call c (delivers peer item right) = core_after_message c peer item right

-- an ask is the one that is due
abbrev pub IsDueCall : Core → Call → Type 0
IsDueCall c (sends peer item) = next_ask c ≡ Some (peer, item)
IsDueCall c call = ⊤

abbrev pub core_after_calls : Core → List Call → Core
core_after_calls c [] = c
core_after_calls c (call ∷ calls) = core_after_calls (core_after_call c call) calls

-- the items that are missing, without their asks
abbrev pub items_missing : Core → List Item
items_missing c = map (λ w. w.item) c.missing

-- right bytes of the item were delivered, by whatever peer
abbrev pub brings : Item → Call → Bool
brings item (delivers peer (Some i) true) = same_item item i
brings item call = false

abbrev pub was_brought : List Call → Item → Bool
was_brought calls item = list_any (brings item) calls
