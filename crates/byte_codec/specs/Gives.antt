-- What a call of a reader gave, and what a call of a writer left.
use Rattle.std.specs.Prelude.{◌≡◌, ◌++◌, ℕ, None, Result, Ok, Err}
use Rattle.format_spec.specs.Bytes.{Bytes}
use Rattle.format_spec.specs.Fields.{Cursor, Form, field, any}
use Rattle.byte_codec.specs.declared.error.Short.{Short}
use Rattle.byte_codec.specs.declared.error.NoMemory.{NoMemory}
use Rattle.byte_codec.specs.declared.error.FieldError.{FieldError}
use Rattle.byte_codec.specs.declared.error.FieldError.TheVariants.{Bad, Memory}

-- one field of this form and no rule, seen by view; where it is cut, the reader stays
abbrev pub GivesForm : {X Y : Type 0} → (X → Y) → Form Y → Cursor → Cursor → Result X Short → Type 0
GivesForm view form old new (Ok x) = field form any old ≡ Ok (view x, new)
GivesForm view form old new (Err e) = (form old.rest ≡ None) × (new ≡ old)

-- the text stands behind what was there; where memory ran out, nothing changed
abbrev pub Writes : Result (Unit {0}) NoMemory → Bytes → Bytes → Bytes → Type 0
Writes (Ok _) old new text = new ≡ old ++ text
Writes (Err e) old new text = new ≡ old

-- memory ran out, or the place is that of the reading
abbrev pub Fails : {X : Type 0} → FieldError → Result X ℕ → Type 0
Fails Memory read = Unit {0}
Fails (Bad place) read = read ≡ Err place

-- the value of a reading, seen by view
abbrev pub Gives : {X Y : Type 0} → (X → Y) → Result X FieldError → Result Y ℕ → Type 0
Gives view (Ok x) read = read ≡ Ok (view x)
Gives view (Err e) read = Fails e read

-- memory didn't run out, as none was taken
abbrev pub NeedsNoMemory : {X : Type 0} → Result X FieldError → Type 0
NeedsNoMemory (Ok x) = Unit {0}
NeedsNoMemory (Err (Bad place)) = Unit {0}
NeedsNoMemory (Err Memory) = ⊥
