-- What becomes of an error of a field.
use Rattle.byte_codec.specs.declared.error.FieldError.{FieldError}
use Rattle.byte_codec.specs.declared.error.FieldError.TheVariants as fields
use Rattle.sys_state.specs.declared.error.SysError.{SysError}
use Rattle.sys_state.specs.declared.error.SysError.TheVariants.{BadSystem, Memory}

abbrev pub error_of : FieldError → SysError
error_of (fields.Bad place) = BadSystem place
error_of fields.Memory = Memory
