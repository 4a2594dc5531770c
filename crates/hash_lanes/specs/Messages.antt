-- How the message of a chunk, 15 bytes of name and the chunk, falls into blocks.
use Rattle.std.specs.Prelude.{ℕ, ◌+◌, ◌/◌}

-- the blocks that so many last bytes of a message, fewer than 64, fill with the padding
abbrev pub last_count : ℕ → ℕ
last_count left = (left + 72) / 64
