-- What a call changes of maps.
use Rattle.std.specs.Prelude.{◌≡◌, ◌≢◌, ℕ, ◌<◌, ◌≤◌, Bool, length, Option, Some, None, IsSome, is_some}
use Rattle.format_spec.specs.declared.limits.TheConstants.{PAGE_SIZE}
use Rattle.page_map.specs.Maps.{OwnPage, Maps, owns_at, own_at}

abbrev pub is_live : Maps → ℕ → Bool
is_live maps id = is_some (owns_at maps id)

-- every map is as before
pub record SameMaps (old new : Maps) : Type 0 where
  pub live : (id : ℕ) → is_live new id ≡ is_live old id
  pub own : (id page : ℕ) → own_at new id page ≡ own_at old id page

-- every map but that of this id is as before, whether it was live or not
pub record ChangesOnly (old new : Maps) (id : ℕ) : Type 0 where
  pub live : (other : ℕ) → other ≢ id → is_live new other ≡ is_live old other
  pub own : (other page : ℕ) → other ≢ id → own_at new other page ≡ own_at old other page

-- every live map but that of this id is as before
pub record KeepsOthers (old new : Maps) (id : ℕ) : Type 0 where
  pub live : (other : ℕ) → other ≢ id → IsSome (owns_at old other) → IsSome (owns_at new other)
  pub own : (other page : ℕ) → other ≢ id → IsSome (owns_at old other) → own_at new other page ≡ own_at old other page

-- an id that was not live has these pages, and nothing else has changed
pub record Adds (old new : Maps) (id : ℕ) (own : ℕ → Option OwnPage) : Type 0 where
  pub fresh : owns_at old id ≡ None
  pub live : IsSome (owns_at new id)
  pub here : (page : ℕ) → own_at new id page ≡ own page
  pub others : ChangesOnly old new id

-- one page of one map is this one, and nothing else has changed
pub record Puts (old new : Maps) (id page : ℕ) (own : OwnPage) : Type 0 where
  pub live : IsSome (owns_at new id)
  pub here : own_at new id page ≡ Some own
  pub rest : (other : ℕ) → other ≢ page → own_at new id other ≡ own_at old id other
  pub others : ChangesOnly old new id

-- an id is no longer live, and nothing else has changed
pub record Drops (old new : Maps) (id : ℕ) : Type 0 where
  pub dead : owns_at new id ≡ None
  pub others : ChangesOnly old new id

-- the pages from first to the one before behind have this stamp, and the others are as before
pub record Writes (old new : ℕ → Option OwnPage) (stamp first behind : ℕ) : Type 0 where
  pub done : (page : ℕ) → first ≤ page → page < behind → (o : OwnPage) × (new page ≡ Some o) × (o.stamp ≡ stamp) × (length o.bytes ≡ PAGE_SIZE)
  pub before : (page : ℕ) → page < first → new page ≡ old page
  pub rest : (page : ℕ) → behind ≤ page → new page ≡ old page
