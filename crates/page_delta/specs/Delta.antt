-- What a contract sees of `Deltas`.
use Rattle.std.specs.Prelude.{⊤, ◌≡◌, ◌≢◌, ℕ, ◌+◌, ◌<◌, ◌≤◌, ◌==◌, nat_lt, List, [], ◌∷◌, Bool, false, Option, Some, None, IsSome, slice_index_or, count_by, if◌then◌else◌}
use Rattle.std.specs.List.{list_any}
use Rattle.page_pool.specs.Pool.{Pool, count_at, bytes_at, IsLive as IsLiveSlot}
use Rattle.page_delta.specs.declared.entry.Entry.{Entry}
use Rattle.page_delta.specs.Totals.{total}

-- a map from pages to entries, by rising page
abbrev pub Pages : Type 0
Pages = List (ℕ × Entry)

-- the map of each live id, the places of each leaf node, and how many nodes there are
pub record Deltas : Type 0 where
  pub maps : List (Option Pages)
  pub leaves : List (Option (List (Option Entry)))
  pub nodes : ℕ

-- the map of an id, if it is live
abbrev pub map_of : Deltas → ℕ → Option Pages
map_of deltas id = slice_index_or deltas.maps id None

-- the id is live
abbrev pub IsLive : Deltas → ℕ → Type 0
IsLive deltas id = IsSome (map_of deltas id)

abbrev pub pages_in : Option Pages → Pages
pages_in None = []
pages_in (Some pages) = pages

-- the map of an id
abbrev pub pages_of : Deltas → ℕ → Pages
pages_of deltas id = pages_in (map_of deltas id)

-- what a map has at a page
abbrev pub find : ℕ → Pages → Option Entry
find page [] = None
find page (first ∷ rest) = if page == first.0 then Some first.1 else find page rest

-- the pages with a stamp above this one
abbrev pub pages_after : ℕ → Pages → List ℕ
pages_after b [] = []
pages_after b (first ∷ rest) =
    if nat_lt b first.1.stamp then first.0 ∷ pages_after b rest else pages_after b rest

abbrev pub read_of : Pool → Option Entry → Option (List ℕ × ℕ)
read_of pool None = None
read_of pool (Some entry) = Some (bytes_at pool entry.slot, entry.stamp)

-- the bytes of a page in a map, and its stamp
abbrev pub reads : Pool → Deltas → ℕ → ℕ → Option (List ℕ × ℕ)
reads pool deltas id page = read_of pool (find page (pages_of deltas id))

-- how often a place holds a slot
abbrev pub uses : ℕ → Option Entry → ℕ
uses slot None = 0
uses slot (Some entry) = if entry.slot == slot then 1 else 0

abbrev pub uses_in : ℕ → Option (List (Option Entry)) → ℕ
uses_in slot None = 0
uses_in slot (Some places) = total (uses slot) places

abbrev pub has_slot : ℕ → Option Entry → Bool
has_slot slot None = false
has_slot slot (Some entry) = entry.slot == slot

-- a node holds a slot: one of its places has it
abbrev pub is_holder : ℕ → Option (List (Option Entry)) → Bool
is_holder slot None = false
is_holder slot (Some places) = list_any (has_slot slot) places

-- the number of nodes that hold a slot
abbrev pub holders : ℕ → Deltas → ℕ
holders slot deltas = count_by (is_holder slot) deltas.leaves

-- the pages rise, from this one on
abbrev pub RiseFrom : ℕ → Pages → Type 0
RiseFrom least [] = ⊤
RiseFrom least (first ∷ rest) = (least ≤ first.0) × RiseFrom (first.0 + 1) rest

-- a map has this slot at some page
pub record Has (deltas : Deltas) (slot : ℕ) : Type 0 where
  pub id : ℕ
  pub page : ℕ
  pub entry : Entry
  pub found : find page (pages_of deltas id) ≡ Some entry
  pub is : entry.slot ≡ slot

-- The live slots are those that the maps have. A slot's count is the number of nodes that hold it, and a node holds it at
-- one place.
pub record Holds (pool : Pool) (deltas : Deltas) : Type 0 where
  pub counts : (slot : ℕ) → count_at pool slot ≡ holders slot deltas
  pub once : (slot node : ℕ) → uses_in slot (slice_index_or deltas.leaves node None) ≤ 1
  pub live : (slot : ℕ) → IsLiveSlot pool slot → 0 < count_at pool slot
  pub found : (id page : ℕ) (entry : Entry) → find page (pages_of deltas id) ≡ Some entry → IsLiveSlot pool entry.slot
  pub used : (slot : ℕ) → IsLiveSlot pool slot → Has deltas slot

-- an id that was not live has this map, and nothing else has changed
pub record Adds (old new : Deltas) (id : ℕ) (pages : Pages) : Type 0 where
  pub fresh : map_of old id ≡ None
  pub here : map_of new id ≡ Some pages
  pub others : (other : ℕ) → other ≢ id → map_of new other ≡ map_of old other

-- a map has something at a page, and no other page of this or any other map has its slot
pub record IsOwn (deltas : Deltas) (id page : ℕ) : Type 0 where
  pub entry : Entry
  pub found : find page (pages_of deltas id) ≡ Some entry
  pub only : (other place : ℕ) (e : Entry) → find place (pages_of deltas other) ≡ Some e → e.slot ≡ entry.slot → (other ≡ id) × (place ≡ page)

-- a page of one map has these bytes and this stamp, and nothing else reads otherwise; the page is this map's own
pub record Sets (old_pool new_pool : Pool) (old new : Deltas) (id page : ℕ) (bytes : List ℕ) (stamp : ℕ) : Type 0 where
  pub live : IsLive new id
  pub written : reads new_pool new id page ≡ Some (bytes, stamp)
  pub rest : (other : ℕ) → other ≢ page → reads new_pool new id other ≡ reads old_pool old id other
  pub entries : (other : ℕ) → other ≢ page → find other (pages_of new id) ≡ find other (pages_of old id)
  pub others : (other : ℕ) → other ≢ id → map_of new other ≡ map_of old other
  pub elsewhere : (other place : ℕ) → other ≢ id → reads new_pool new other place ≡ reads old_pool old other place
  pub own : IsOwn new id page

-- an id is dead, and nothing else reads otherwise
pub record Drops (old_pool new_pool : Pool) (old new : Deltas) (id : ℕ) : Type 0 where
  pub dead : map_of new id ≡ None
  pub others : (other : ℕ) → other ≢ id → map_of new other ≡ map_of old other
  pub elsewhere : (other place : ℕ) → other ≢ id → reads new_pool new other place ≡ reads old_pool old other place

-- the entry, if its stamp is above this one
abbrev pub if_after : ℕ → Option Entry → Option Entry
if_after b None = None
if_after b (Some entry) = if nat_lt b entry.stamp then Some entry else None

-- an id that was not live has the entries of another with a stamp above this one, and nothing else reads otherwise
pub record KeepsAfter (old_pool new_pool : Pool) (old new : Deltas) (id kept b : ℕ) : Type 0 where
  pub fresh : map_of old kept ≡ None
  pub live : IsLive new kept
  pub entries : (page : ℕ) → find page (pages_of new kept) ≡ if_after b (find page (pages_of old id))
  pub others : (other : ℕ) → other ≢ kept → map_of new other ≡ map_of old other
  pub elsewhere : (other place : ℕ) → other ≢ kept → reads new_pool new other place ≡ reads old_pool old other place

-- every map reads as before
pub record SameReads (old_pool new_pool : Pool) (old new : Deltas) : Type 0 where
  pub maps : (id : ℕ) → map_of new id ≡ map_of old id
  pub elsewhere : (id page : ℕ) → reads new_pool new id page ≡ reads old_pool old id page
