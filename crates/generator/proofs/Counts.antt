-- How many lines there are.
use Rattle.std.proofs.Common.{◌≡◌, refl, ℕ, zero, suc, ◌+◌, ◌-◌, ◌*◌, ◌/◌, ◌++◌, ◌∙◌, length, ap, length-append, arith}
use Rattle.std.proofs.lemmas.Grind.{common_steps}
use Rattle.std.proofs.lemmas.List.FromFn.{length-map-range_with_len}
use Rattle.generator.specs.Draws.{x_after}
use Rattle.generator.specs.Places.{numbered, line_behind, count_behind}
use Rattle.generator.specs.Script.{write_lines, x_after_writes, lines_behind, blocks_from, last_lines, generated}
use Rattle.generator.proofs.Lefts.{behind_numbered}

length_writes : (n x : ℕ) → length (write_lines n x) ≡ n
unfolding write_lines
length_writes zero x = refl
length_writes (suc n) x = omega (arith, length_writes n (x_after 3 x))

length_behind : (j : ℕ) → length (lines_behind j) ≡ count_behind j
unfolding numbered
length_behind j =
    let e : count_behind j - 0 ≡ count_behind j = omega arith in
    ap length (behind_numbered j) ∙ length-map-range_with_len (line_behind j) 0 (count_behind j - 0) ∙ e

-- the lines of the first k blocks
abbrev pub lines_of : ℕ → ℕ
lines_of k = 33 * k + 23 * (k / 4) + (k / 4 - 3)

more_lines : (k : ℕ) → 32 + count_behind (k + 1) + lines_of k ≡ lines_of (k + 1)
unfolding count_behind
more_lines k = grind (arith, common_steps)

length_blocks : (n k x : ℕ) → length (blocks_from n (k + 1) x) + lines_of k ≡ lines_of (k + n)
unfolding blocks_from
length_blocks zero k x = omega arith
length_blocks (suc n) k x =
    let here = length_writes 32 x in
    let behind = length_behind (k + 1) in
    let more = more_lines k in
    let rest = length_blocks n (k + 1) (x_after_writes 32 x) in
    let joined = length-append (write_lines 32 x ++ lines_behind (k + 1)) (blocks_from n (k + 1 + 1) (x_after_writes 32 x)) in
    let both = length-append (write_lines 32 x) (lines_behind (k + 1)) in
    let e : k + suc n ≡ k + 1 + n = omega arith in
    rw e (omega (arith, here, behind, more, rest, joined, both))

pub length_generated : (blocks seed : ℕ) → length (generated blocks seed) ≡ 6 + lines_of blocks
unfolding generated
length_generated blocks seed =
    let first = length_blocks blocks 0 seed in
    let joined = length-append (blocks_from blocks 1 seed) last_lines in
    let e : 0 + blocks ≡ blocks = omega arith in
    let whole : length (blocks_from blocks 1 seed) ≡ lines_of blocks = omega (arith, first, ap lines_of e) in
    omega (arith, whole, joined)
