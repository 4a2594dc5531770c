-- Items that were never asked for, by their numbers.
use Rattle.std.specs.Prelude.{◌≡◌, ℕ, false, List, map, Option, Some, None}
use Rattle.sync_spec.specs.Messages.{Item, piece, chunk}
use Rattle.sync_spec.specs.Core.{same_item}
use Rattle.sync_core.specs.declared.fresh.Kind.{Kind}
use Rattle.sync_core.specs.declared.fresh.Kind.TheVariants.{Pieces, Chunks}
use Rattle.sync_core.specs.declared.fresh.Fresh.{Fresh}
use Rattle.sync_core.specs.Linked.{numbers_of}

abbrev pub item_at : Kind → ℕ → Item
item_at Pieces n = piece n
item_at Chunks n = chunk n

abbrev pub items_of : Fresh → List Item
items_of f = map (item_at f.kind) (numbers_of f.links)

-- the number of an item of this kind, or it is none
abbrev pub HasNumber : Kind → Item → Option ℕ → Type 0
HasNumber kind item (Some n) = item ≡ item_at kind n
HasNumber kind item None = (j : ℕ) → same_item (item_at kind j) item ≡ false
