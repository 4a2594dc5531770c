-- What becomes of an error of a field.
use Rattle.byte_codec.specs.declared.error.FieldError.{FieldError}
use Rattle.byte_codec.specs.declared.error.FieldError.TheVariants as fields
use Rattle.mark_file.specs.declared.error.Stop.{Stop}
use Rattle.mark_file.specs.declared.error.Stop.TheVariants.{Broken, Memory}

abbrev pub stop_of : FieldError → Stop
stop_of (fields.Bad place) = Broken
stop_of fields.Memory = Memory
