-- What a contract sees of `Links`.
use Rattle.std.specs.Prelude.{◌≡◌, ℕ, ◌<◌, ◌==◌, ◌⊎◌, List, [], ◌∷◌, length, map, Option, Some, None, slice_index_or, slice_set, if◌then◌else◌}

-- how many items there are, and the items of each list, front first
pub record Lists : Type 0 where
  pub items : ℕ
  pub members : List (List ℕ)

-- the items of a list
abbrev pub members_of : Lists → ℕ → List ℕ
members_of links list = slice_index_or links.members list []

-- the list has this item
abbrev pub Has : ℕ → List ℕ → Type 0
Has item [] = ⊥
Has item (first ∷ rest) = (item ≡ first) ⊎ Has item rest

-- no item stands twice
abbrev pub IsApart : List ℕ → Type 0
IsApart [] = Unit {0}
IsApart (first ∷ rest) = (Has first rest → ⊥) × IsApart rest

-- the list without the item
abbrev pub without : ℕ → List ℕ → List ℕ
without item [] = []
without item (first ∷ rest) =
    if item == first then without item rest else first ∷ without item rest

-- the first item, where there is one
abbrev pub first_of_list : List ℕ → Option ℕ
first_of_list [] = None
first_of_list (first ∷ rest) = Some first

-- the item that follows this one
abbrev pub successor : ℕ → List ℕ → Option ℕ
successor item [] = None
successor item (first ∷ rest) =
    if item == first then first_of_list rest else successor item rest

-- the item is in the list of this number
abbrev pub IsIn : Lists → ℕ → ℕ → Type 0
IsIn links list item = (list < length links.members) × Has item (members_of links list)

-- the item is in some list
abbrev pub IsLinked : Lists → ℕ → Type 0
IsLinked links item = (list : ℕ) × IsIn links list item

-- the item is in no list
abbrev pub IsUnlinked : Lists → ℕ → Type 0
IsUnlinked links item = (list : ℕ) → IsIn links list item → ⊥

-- each item is in one list at most, and there only once
pub record AreDistinct (links : Lists) : Type 0 where
  pub apart : (list : ℕ) → list < length links.members → IsApart (members_of links list)
  pub single : (item list other : ℕ) → IsIn links list item → IsIn links other item → list ≡ other
  pub within : (item list : ℕ) → IsIn links list item → item < links.items

-- one list is now this one
abbrev pub with_members : Lists → ℕ → List ℕ → Lists
with_members links list now = record links { members = slice_set links.members list now }

-- the item is taken from the list that has it
abbrev pub lists_without : Lists → ℕ → Lists
lists_without links item = record links { members = map (without item) links.members }
