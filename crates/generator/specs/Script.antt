-- The generated script: canisters, blocks of writes, and the last two lines.
use Rattle.std.specs.Prelude.{ℕ, zero, suc, ◌+◌, ◌-◌, ◌/◌, ◌%◌, Bool, ◌==◌, nat_le, if◌then◌else◌, List, [], ◌∷◌, ◌++◌, map, replicate, codes, decimal}
use Rattle.std.specs.List.{range_with_len}
use Rattle.hex.specs.Hex.{encode_lower}
use Rattle.format_spec.specs.Bytes.{Bytes}
use Rattle.generator.specs.Draws.{drawn, x_after}

-- a number below 256 in two digits
abbrev pub two_digits : ℕ → Bytes
two_digits n = encode_lower (n ∷ [])

unfoldable pub canister_line : ℕ → Bytes
canister_line c = codes "canister " ++ two_digits c

-- `write 0c heap o vv`, from the three draws after x
unfoldable pub write_line : ℕ → Bytes
write_line x =
    (codes "write " ++ two_digits (drawn 4 (x_after 1 x)))
    ++ (codes " heap " ++ decimal (drawn 4194304 (x_after 2 x)))
    ++ (codes " " ++ two_digits (drawn 256 (x_after 3 x)))

-- n writes behind each other, from the draws after x
unfoldable pub write_lines : ℕ → ℕ → List Bytes
write_lines zero x = []
write_lines (suc n) x = write_line x ∷ write_lines n (x_after 3 x)

-- the x after n writes
unfoldable pub x_after_writes : ℕ → ℕ → ℕ
x_after_writes zero x = x
x_after_writes (suc n) x = x_after_writes n (x_after 3 x)

abbrev pub forget_line : ℕ → Bytes
forget_line height = codes "forget " ++ decimal height

abbrev pub merge_line : ℕ → Bytes
merge_line c = codes "merge " ++ two_digits c ++ codes " heap"

abbrev pub purge_line : ℕ → Bytes
purge_line height = codes "purge " ++ decimal height

-- the lines behind the round of every fourth block; `late` says that there is something to purge
abbrev pub checkpoint_lines : Bool → ℕ → List Bytes
checkpoint_lines late j =
    codes "checkpoint" ∷ replicate 8 (codes "step checkpoint")
    ++ map (λ k. forget_line (j - 3 + k)) (range_with_len 0 4)
    ++ merge_line ((j / 4) % 4) ∷ replicate 8 (codes "step merge")
    ++ (if late then purge_line (j - 12) ∷ [] else [])
    ++ codes "sweep" ∷ []

-- the lines behind the writes of a block, which is a fourth one or not
abbrev pub behind_writes : Bool → Bool → ℕ → List Bytes
behind_writes fourth late j = codes "round" ∷ (if fourth then checkpoint_lines late j else [])

unfoldable pub lines_behind : ℕ → List Bytes
lines_behind j = behind_writes (j % 4 == 0) (nat_le 16 j) j

-- block j, with the x before its first draw
abbrev pub block : ℕ → ℕ → List Bytes
block j x = write_lines 32 x ++ lines_behind j

-- n blocks from block j on
unfoldable pub blocks_from : ℕ → ℕ → ℕ → List Bytes
blocks_from zero j x = []
blocks_from (suc n) j x = block j x ++ blocks_from n (j + 1) (x_after_writes 32 x)

abbrev pub last_lines : List Bytes
last_lines = codes "root live" ∷ codes "heights" ∷ []

-- the lines of so many blocks from a seed, without their line feeds
unfoldable pub generated : ℕ → ℕ → List Bytes
generated blocks seed = map canister_line (range_with_len 0 4) ++ (blocks_from blocks 1 seed ++ last_lines)
