-- How a `PagePool` lays out its slots: the free ones are a chain by index, whose last names the end of the
-- slots. No public clause cites this module.
use Rattle.std.specs.Prelude.{◌≡◌, ℕ, zero, suc, ◌+◌, ◌^◌, ◌<◌, ◌==◌, List, map, length, Option, Some, None, slice_index_or, if◌then◌else◌}
use Rattle.page_pool.specs.Pool.{Page, used_in}
use Rattle.page_pool.specs.declared.slot.Slot.{Slot}

-- the page of a slot, if it is used
abbrev pub page_of : Slot → Option Page
page_of slot =
    if slot.count == 0 then None else Some (record { count = slot.count; bytes = slot.bytes.value })

-- what a slot names as the next free one, if it is free
abbrev pub link_of : Slot → Option ℕ
link_of slot = if slot.count == 0 then Some slot.next else None

-- from this index on, so many free slots each name the next, and the last names the end of the slots
abbrev pub IsChain : List (Option ℕ) → ℕ → ℕ → Type 0
IsChain links zero index = index ≡ length links
IsChain links (suc count) index =
    (next : ℕ) × (slice_index_or links index None ≡ Some next) × IsChain links count next

-- the slots that are not used are the chain
pub record IsSound (slots : List Slot) (free spare : ℕ) : Type 0 where
  pub small : length slots < 2 ^ 32
  pub chain : IsChain (map link_of slots) spare free
  pub room : used_in (map page_of slots) + spare ≡ length slots
