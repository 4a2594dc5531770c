-- What a call that reads gave, against the reading that it stands for.
use Rattle.std.specs.Prelude.{◌≡◌, ℕ, None, Result, Ok, Err}
use Rattle.format_spec.specs.Fields.{Cursor, Form, field, any}
use Rattle.byte_codec.specs.declared.error.Short.{Short}
use Rattle.byte_codec.specs.declared.error.FieldError.{FieldError}
use Rattle.byte_codec.specs.declared.error.FieldError.TheVariants as fields
use Rattle.witness.specs.declared.error.WitnessError.{WitnessError}
use Rattle.witness.specs.declared.error.WitnessError.TheVariants.{BadWitness, WrongRoot, Memory}

-- what becomes of an error of a field
abbrev pub error_of : FieldError → WitnessError
error_of (fields.Bad place) = BadWitness place
error_of fields.Memory = Memory

-- memory ran out, or the place is that of the reading
abbrev pub Fails : {X : Type 0} → WitnessError → Result X ℕ → Type 0
Fails Memory read = Unit {0}
Fails (BadWitness place) read = read ≡ Err place
Fails (WrongRoot hash) read = ⊥

-- the value, seen by view
abbrev pub Gives : {X Y : Type 0} → (X → Y) → Result X WitnessError → Result Y ℕ → Type 0
Gives view (Ok x) read = read ≡ Ok (view x)
Gives view (Err e) read = Fails e read

-- one field of this form and no rule, seen by view; where it is cut or has another form, the reader may stand anywhere
abbrev pub TakesForm : {X Y : Type 0} → (X → Y) → Form Y → Cursor → Cursor → Result X Short → Type 0
TakesForm view form old new (Ok x) = field form any old ≡ Ok (view x, new)
TakesForm view form old new (Err e) = form old.rest ≡ None
