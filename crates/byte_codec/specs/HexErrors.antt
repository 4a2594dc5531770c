-- What becomes of an error of the crate `hex`.
use Rattle.hex.specs.declared.error.FromHexError.{FromHexError}
use Rattle.hex.specs.declared.error.FromHexError.TheVariants.{OutOfMemory}
use Rattle.byte_codec.specs.declared.error.HexError.{HexError}
use Rattle.byte_codec.specs.declared.error.HexError.TheVariants.{Bad, Memory}

abbrev pub refusal_of : FromHexError → HexError
refusal_of OutOfMemory = Memory
refusal_of _ = Bad
