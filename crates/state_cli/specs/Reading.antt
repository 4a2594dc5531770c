-- What reading a line takes from the source.
use Rattle.std.specs.Prelude.{◌≡◌, ◌≢◌, ◌+◌, ◌≤◌, [], ◌∷◌, ◌++◌, length, Result, Ok, Err}
use Rattle.format_spec.specs.Bytes.{Bytes}
use Rattle.format_spec.specs.declared.limits.TheConstants.{MAX_LINE}
use Rattle.script_text.specs.Script.{IsLine, IsShort}
use Rattle.state_cli.specs.declared.reading.LineEnd.{LineEnd}
use Rattle.state_cli.specs.declared.reading.LineEnd.TheVariants.{Feed, Input, NoLine, TooLong}
use Rattle.state_cli.specs.declared.reading.ReadError.{ReadError}
use Rattle.state_cli.specs.declared.reading.ReadError.TheVariants.{Fault, Memory}

-- what was taken for a line, by how it ended; `ended` says that the source has nothing left
abbrev pub TakesLine : Result LineEnd ReadError → Bytes → Bytes → Type 0 → Type 0
TakesLine (Ok Feed) line taken ended = (taken ≡ line ++ 10 ∷ []) × IsLine line × IsShort line
TakesLine (Ok Input) line taken ended = (taken ≡ line) × IsLine line × IsShort line × (line ≢ []) × ended
TakesLine (Ok NoLine) line taken ended = (taken ≡ []) × ended
TakesLine (Ok TooLong) line taken ended = (taken ≡ line) × IsLine line × (length line ≡ MAX_LINE + 1)
TakesLine (Err Fault) line taken ended = IsLine taken × IsShort taken
TakesLine (Err Memory) line taken ended = IsLine taken × (length taken ≤ MAX_LINE + 1)
