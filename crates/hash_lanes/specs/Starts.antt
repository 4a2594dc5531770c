-- Eight places in one byte string, where messages or chunks begin.
use Rattle.std.specs.Prelude.{ℕ, ◌+◌, ◌*◌, ◌<◌, ◌≤◌, List, length, take, drop, slice_index}
use Rattle.format_spec.specs.Bytes.{Bytes}

-- there are n bytes at each of the places
abbrev pub AreInside : List ℕ → ℕ → Bytes → Type 0
AreInside starts n bytes = (j : ℕ) → j < 8 → slice_index starts j + n ≤ length bytes

-- the first n bytes at place j
abbrev pub chunk_at : Bytes → List ℕ → ℕ → ℕ → Bytes
chunk_at bytes starts n j = take n (drop (slice_index starts j) bytes)

-- row j of rows of n bytes
abbrev pub row : ℕ → ℕ → Bytes → Bytes
row n j rows = take n (drop (n * j) rows)
