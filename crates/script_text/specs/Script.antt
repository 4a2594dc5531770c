-- A script as lines, and a line as words.
use Rattle.std.specs.Prelude.{◌≡◌, ℕ, ◌==◌, ◌≤◌, suc, Bool, true, if◌then◌else◌, List, [], ◌∷◌, ◌++◌, length}
use Rattle.std.specs.List.{flat_map, onto_first, slice_split, AllByRecursion}
use Rattle.format_spec.specs.Bytes.{Bytes}
use Rattle.format_spec.specs.declared.limits.TheConstants.{MAX_LINE, MAX_LINES}

-- The lines of a script. A line ends with a line feed, 10, or with the script; a last line without a line feed
-- counts where it is not empty.
abbrev pub lines : Bytes → List Bytes
lines [] = []
lines (byte ∷ bytes) = if byte == 10 then [] ∷ lines bytes else onto_first byte (lines bytes)

-- how many line feeds there are
abbrev pub feeds : Bytes → ℕ
feeds [] = 0
feeds (byte ∷ bytes) = if byte == 10 then suc (feeds bytes) else feeds bytes

-- bytes of one line: there is no line feed among them
abbrev pub IsLine : Bytes → Type 0
IsLine bytes = feeds bytes ≡ 0

-- lines, each with a line feed behind it
abbrev pub text_of_lines : List Bytes → Bytes
text_of_lines some_lines = flat_map (λ line. line ++ 10 ∷ []) some_lines

-- the words of a line: what stands between its spaces, 32
abbrev pub words : Bytes → List Bytes
words line = slice_split (λ byte. byte == 32) line

-- an empty line, or one that begins with `#`, 35, has no reply
abbrev pub is_silent : Bytes → Bool
is_silent [] = true
is_silent (byte ∷ bytes) = byte == 35

-- a line is within the limit on its bytes
abbrev pub IsShort : Bytes → Type 0
IsShort line = length line ≤ MAX_LINE

-- lines are within the limits on bytes and on lines
pub record AreWithinLimits (some_lines : List Bytes) : Type 0 where
  pub short : AllByRecursion IsShort some_lines
  pub few : length some_lines ≤ MAX_LINES
