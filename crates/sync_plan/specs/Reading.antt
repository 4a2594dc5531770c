-- What a call that reads found, against the reading that it stands for.
use Rattle.std.specs.Prelude.{◌≡◌, nat_le, Option, Some, None, Ok}
use Rattle.std.specs.Int.{w32}
use Rattle.format_spec.specs.Fields.{Cursor, Reading, ◌>>=◌, gives, field, byte, number}
use Rattle.state_spec.specs.Root.{as_option}
use Rattle.sync_spec.specs.Messages.{Item, item_of, fits_kind, Content, content_behind}

-- the value, seen by view, and where the reader then stands; none where a field is cut or breaks its rule
abbrev pub Finds : {X Y : Type 0} → (X → Y) → Reading Y → Cursor → Cursor → Option X → Type 0
Finds view reading old new (Some x) = reading old ≡ Ok (view x, new)
Finds view reading old new None = as_option (reading old) ≡ None

-- the kind and the number of an item
unfoldable pub item_fields : Reading Item
item_fields = do
  kind ← field byte (λ k. nat_le k 2)
  index ← field (number w32) (fits_kind kind)
  gives (item_of kind index)

-- a flag, and the bytes behind it
unfoldable pub content_fields : Reading Content
content_fields = field byte (λ f. nat_le f 1) >>= content_behind
