-- Hexadecimal text in lower case.
use Rattle.std.specs.Prelude.{◌≡◌, ℕ, ◌%◌, ◌&&◌, nat_le, Bool, if◌then◌else◌, List, length, Option, Some, None, Result, Ok}
use Rattle.std.specs.Prelude.{Err, IsTrue}
use Rattle.std.specs.List.{list_all}
use Rattle.std.specs.Result.{result_ok}
use Rattle.hex.specs.Hex.{decode_of}
use Rattle.byte_codec.specs.declared.error.HexError.{HexError}
use Rattle.byte_codec.specs.declared.error.HexError.TheVariants.{Bad, Memory}

-- a digit in lower case: `0` to `9` are 48 to 57, and `a` to `f` are 97 to 102
abbrev pub is_lower_digit : ℕ → Bool
is_lower_digit c = if nat_le c 57 then nat_le 48 c else nat_le 97 c && nat_le c 102

-- an even number of digits in lower case
abbrev pub IsHexText : List ℕ → Type 0
IsHexText text = (length text % 2 ≡ 0) × IsTrue (list_all is_lower_digit text)

-- the bytes that such a text spells; none for any other text
abbrev pub bytes_of_hex : List ℕ → Option (List ℕ)
bytes_of_hex text = if list_all is_lower_digit text then result_ok (decode_of text) else None

-- these bytes, or none at Bad
abbrev pub GivesHex : Result (List ℕ) HexError → Option (List ℕ) → Type 0
GivesHex (Ok bytes) found = found ≡ Some bytes
GivesHex (Err Bad) found = found ≡ None
GivesHex (Err Memory) found = Unit {0}

-- Bad answers no such text, and an answer of bytes only such a text
abbrev pub BadIsExact : Result (List ℕ) HexError → List ℕ → Type 0
BadIsExact (Ok bytes) text = IsHexText text
BadIsExact (Err Bad) text = IsHexText text → ⊥
BadIsExact (Err Memory) text = Unit {0}
