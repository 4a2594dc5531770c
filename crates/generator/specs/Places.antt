-- Places in the generated script, and the lines from a place on.
use Rattle.std.specs.Prelude.{◌≡◌, ℕ, ◌+◌, ◌-◌, ◌/◌, ◌%◌, ◌<◌, ◌≤◌, Bool, true, false, ◌==◌, nat_le, if◌then◌else◌, List, [], ◌∷◌, ◌++◌, map, codes, Option, Some, None, Result, Ok, Err}
use Rattle.std.specs.List.{range_with_len}
use Rattle.format_spec.specs.Bytes.{Bytes}
use Rattle.byte_codec.specs.declared.error.NoMemory.{NoMemory}
use Rattle.generator.specs.Script.{canister_line, write_lines, x_after_writes, forget_line, merge_line, purge_line, lines_behind, blocks_from, last_lines}
use Rattle.generator.specs.declared.place.Place.{Place}
use Rattle.generator.specs.declared.place.Place.TheVariants.{Canisters, Writes, Behind, Last}

-- the lines of these numbers, without the last
unfoldable pub numbered : (ℕ → Bytes) → ℕ → ℕ → List Bytes
numbered line from to = map line (range_with_len from (to - from))

-- the line of this number behind the writes of block j
abbrev pub line_by : Bool → ℕ → ℕ → Bytes
line_by late j n =
    if n == 0 then codes "round"
    else if n == 1 then codes "checkpoint"
    else if nat_le n 9 then codes "step checkpoint"
    else if nat_le n 13 then forget_line (j - 3 + (n - 10))
    else if n == 14 then merge_line ((j / 4) % 4)
    else if nat_le n 22 then codes "step merge"
    else if nat_le 24 n then codes "sweep"
    else if late then purge_line (j - 12)
    else codes "sweep"

unfoldable pub line_behind : ℕ → ℕ → Bytes
line_behind j n = line_by (nat_le 16 j) j n

-- how many lines there are behind the writes
abbrev pub count_with : Bool → Bool → ℕ
count_with fourth late = if fourth then (if late then 25 else 24) else 1

unfoldable pub count_behind : ℕ → ℕ
count_behind j = count_with (j % 4 == 0) (nat_le 16 j)

abbrev pub last_line : ℕ → Bytes
last_line n = if n == 0 then codes "root live" else codes "heights"

-- the lines behind a block, 0 for the canisters, of so many
unfoldable pub lines_after : ℕ → ℕ → ℕ → List Bytes
lines_after blocks block x = blocks_from (blocks - block) (block + 1) x ++ last_lines

-- the lines from a place on
unfoldable pub lines_left : ℕ → ℕ → Place → List Bytes
lines_left blocks x (Canisters done) = numbered canister_line done 4 ++ lines_after blocks 0 x
lines_left blocks x (Writes block done) =
    write_lines (32 - done) x ++ (lines_behind block ++ lines_after blocks block (x_after_writes (32 - done) x))
lines_left blocks x (Behind block done) = numbered (line_behind block) done (count_behind block) ++ lines_after blocks block x
lines_left blocks x (Last done) = numbered last_line done 2

-- the place is one of such a script: there is a line, or it is the end
unfoldable pub IsPlace : ℕ → Place → Type 0
IsPlace blocks (Canisters done) = done < 4
IsPlace blocks (Writes block done) = (block ≤ blocks) × (done < 32)
IsPlace blocks (Behind block done) = (block ≤ blocks) × (done < count_behind block)
IsPlace blocks (Last done) = done ≤ 2

-- The first line is put behind what was there, and the rest is left. There is none exactly where no line is left.
-- After want of memory all lines are left.
abbrev pub GivesLine : Result Bool NoMemory → List Bytes → List Bytes → Bytes → Bytes → Type 0
GivesLine (Ok true) old new before now = (line : Bytes) × (old ≡ line ∷ new) × (now ≡ before ++ line)
GivesLine (Ok false) old new before now = (old ≡ []) × (new ≡ []) × (now ≡ before)
GivesLine (Err error) old new before now = new ≡ old

-- The x and the place behind the first line, which is put behind what was there, or none where no line is left.
abbrev pub GivesNext : ℕ → List Bytes → Bytes → Bytes → Option (ℕ × Place) → Type 0
GivesNext blocks old before now None = (old ≡ []) × (now ≡ before)
GivesNext blocks old before now (Some next) =
    IsPlace blocks next.1 × ((line : Bytes) × (old ≡ line ∷ lines_left blocks next.0 next.1) × (now ≡ before ++ line))
