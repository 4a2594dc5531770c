-- What the arrays of a node say. No public clause cites this module.
use Rattle.std.specs.Prelude.{ℕ, List, [], ◌∷◌, map, Option, Some, None}
use Rattle.page_pool.specs.Pool.{slot_of}
use Rattle.page_delta.specs.declared.entry.Entry.{Entry}

-- the children of a branch, whose keys have the mark for none that numbers of slots have
abbrev pub children_of : List ℕ → List (Option ℕ)
children_of keys = map slot_of keys

abbrev pub entry_with : Option ℕ → ℕ → Option Entry
entry_with None stamp = None
entry_with (Some slot) stamp = Some (record { slot = slot; stamp = stamp })

-- the entries of a leaf
abbrev pub entries_of : List ℕ → List ℕ → List (Option Entry)
entries_of [] stamps = []
entries_of (slot ∷ slots) [] = []
entries_of (slot ∷ slots) (stamp ∷ stamps) = entry_with (slot_of slot) stamp ∷ entries_of slots stamps
