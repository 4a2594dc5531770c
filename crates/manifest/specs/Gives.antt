-- What reading a manifest gave, against the reading that it stands for.
use Rattle.std.specs.Prelude.{◌≡◌, ℕ, Result, Ok, Err}
use Rattle.byte_codec.specs.declared.error.FieldError.{FieldError}
use Rattle.byte_codec.specs.declared.error.FieldError.TheVariants as fields
use Rattle.manifest.specs.declared.error.ManifestError.{ManifestError}
use Rattle.manifest.specs.declared.error.ManifestError.TheVariants.{BadManifest, Memory}

-- what becomes of an error of a field
abbrev pub error_of : FieldError → ManifestError
error_of (fields.Bad place) = BadManifest place
error_of fields.Memory = Memory

-- memory ran out, or the place is that of the reading
abbrev pub Fails : {X : Type 0} → ManifestError → Result X ℕ → Type 0
Fails Memory read = Unit {0}
Fails (BadManifest place) read = read ≡ Err place

-- the value, seen by view
abbrev pub Gives : {X Y : Type 0} → (X → Y) → Result X ManifestError → Result Y ℕ → Type 0
Gives view (Ok x) read = read ≡ Ok (view x)
Gives view (Err e) read = Fails e read
