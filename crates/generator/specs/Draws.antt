-- The numbers that are drawn, and what each is drawn from.
use Rattle.std.specs.Prelude.{ℕ, zero, suc, ◌+◌, ◌*◌, ◌/◌, ◌%◌, ◌^◌}

-- the x after a draw
unfoldable pub next_x : ℕ → ℕ
next_x x = (x * 6364136223846793005 + 1442695040888963407) % 2 ^ 64

abbrev pub quotient : ℕ → ℕ
quotient x = x / 2 ^ 33

-- what a draw below m gives, by the x after it
unfoldable pub drawn : ℕ → ℕ → ℕ
drawn m x = quotient x % m

-- the x after n draws
abbrev pub x_after : ℕ → ℕ → ℕ
x_after zero x = x
x_after (suc n) x = x_after n (next_x x)
