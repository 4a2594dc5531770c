-- The lines from a place on, one by one.
use Rattle.std.proofs.Common.{◌≡◌, refl, ℕ, suc, ◌+◌, ◌-◌, ◌%◌, ◌<◌, ◌≤◌, ◌==◌, nat_le, Bool, true, false, [], ◌∷◌, ◌++◌, map, append_assoc, arith}
use Rattle.std.specs.List.{range_with_len}
use Rattle.format_spec.specs.Bytes.{Bytes}
use Rattle.generator.specs.Draws.{x_after}
use Rattle.generator.specs.Places.{numbered, line_by, line_behind, count_with, count_behind, lines_after}
use Rattle.generator.specs.Script.{write_line, write_lines, x_after_writes, behind_writes, lines_behind, blocks_from, last_lines}

pub numbered_first : (line : ℕ → Bytes) (from to : ℕ) → from < to → numbered line from to ≡ line from ∷ numbered line (from + 1) to
unfolding numbered
numbered_first line from to h = let e : to - from ≡ suc (to - (from + 1)) = omega arith in rw e refl

pub numbered_end : (line : ℕ → Bytes) (from to : ℕ) → to ≤ from → numbered line from to ≡ []
unfolding numbered
numbered_end line from to h = let e : to - from ≡ 0 = omega arith in rw e refl

pub write_lines_first : (n x : ℕ) → write_lines (suc n) x ≡ write_line x ∷ write_lines n (x_after 3 x)
unfolding write_lines
write_lines_first n x = refl

-- the lines behind the writes of a block, by their numbers
behind_by : (fourth late : Bool) (j : ℕ) → behind_writes fourth late j ≡ map (line_by late j) (range_with_len 0 (count_with fourth late))
behind_by true true j = refl
behind_by true false j = refl
behind_by false late j = refl

pub behind_numbered : (j : ℕ) → lines_behind j ≡ numbered (line_behind j) 0 (count_behind j)
unfolding lines_behind numbered line_behind count_behind
behind_numbered j =
    let e : count_with (j % 4 == 0) (nat_le 16 j) - 0 ≡ count_with (j % 4 == 0) (nat_le 16 j) = omega arith in
    rw e (behind_by (j % 4 == 0) (nat_le 16 j) j)

pub block_begun : (blocks block x : ℕ) → block < blocks
    → lines_after blocks block x ≡ write_lines 32 x ++ (lines_behind (block + 1) ++ lines_after blocks (block + 1) (x_after_writes 32 x))
unfolding lines_after blocks_from
block_begun blocks block x h =
    let e : blocks - block ≡ suc (blocks - (block + 1)) = omega arith in
    rw e (simp append_assoc)

pub blocks_ended : (blocks block x : ℕ) → blocks ≤ block → lines_after blocks block x ≡ last_lines
unfolding lines_after blocks_from
blocks_ended blocks block x h = let e : blocks - block ≡ 0 = omega arith in rw e refl

few_by : (fourth late : Bool) → count_with fourth late ≤ 25
few_by true true = omega arith
few_by true false = omega arith
few_by false late = omega arith

pub few_behind : (j : ℕ) → count_behind j ≤ 25
unfolding count_behind
few_behind j = few_by (j % 4 == 0) (nat_le 16 j)

some_by : (fourth late : Bool) → 0 < count_with fourth late
some_by true true = omega arith
some_by true false = omega arith
some_by false late = omega arith

pub some_behind : (j : ℕ) → 0 < count_behind j
unfolding count_behind
some_behind j = some_by (j % 4 == 0) (nat_le 16 j)
