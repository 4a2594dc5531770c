-- What a call that reads an LEB128 number answers.
use Rattle.std.specs.Prelude.{◌≡◌, ◌≢◌, ◌<◌, ◌≤◌, ◌+◌, ◌*◌, ◌^◌, ℕ, zero, suc, [], ◌++◌, take, length, Result, Ok, Err}
use Rattle.format_spec.specs.Bytes.{Bytes, leb, leb_within, BeginsLeb}
use Rattle.format_spec.specs.Fields.{Cursor}
use Rattle.byte_codec.specs.declared.error.LebError.{LebError}
use Rattle.byte_codec.specs.declared.error.LebError.TheVariants.{Short, Long}

-- the input is the beginning of a shortest spelling and ends before it does
abbrev pub IsCutLeb : Bytes → Type 0
IsCutLeb s = (n : ℕ) × (more : Bytes) × (n < 2 ^ 64) × (leb n ≡ s ++ more) × (more ≢ [])

-- no shortest spelling begins with some front of the input, and none stands in front of it
abbrev pub IsNoLeb : Bytes → Type 0
IsNoLeb s =
    ((k : ℕ) × (k ≤ length s) × (BeginsLeb (take k s) → ⊥))
    × ((n : ℕ) (rest : Bytes) → n < 2 ^ 64 → s ≡ leb n ++ rest → ⊥)

-- the number whose spelling was taken; elsewhere the reader stays
abbrev pub ReadsLeb : Cursor → Cursor → Result ℕ LebError → Type 0
ReadsLeb old new (Ok n) = (n < 2 ^ 64) × (old.rest ≡ leb n ++ new.rest) × (new.at ≡ old.at + length (leb n))
ReadsLeb old new (Err Short) = IsCutLeb old.rest × (new ≡ old)
ReadsLeb old new (Err Long) = IsNoLeb old.rest × (new ≡ old)

-- a number below 2 ^ 64 is below this when its lowest 10 - k groups of seven bits are gone
abbrev pub leb_limit : ℕ → ℕ
leb_limit zero = 1
leb_limit (suc zero) = 2
leb_limit (suc (suc k)) = 128 * leb_limit (suc k)

-- the same for a spelling in at most k bytes: the number and the length of its spelling
abbrev pub FindsLeb : ℕ → Bytes → Result (ℕ × ℕ) LebError → Type 0
FindsLeb k s (Ok found) =
    (found.0 < leb_limit k) × (found.1 ≤ length s) × (leb_within k found.0 ≡ take found.1 s)
FindsLeb k s (Err Short) =
    (n : ℕ) × (more : Bytes) × (1 ≤ n) × (n < leb_limit k) × (leb_within k n ≡ s ++ more) × (more ≢ [])
FindsLeb k s (Err Long) =
    ((j : ℕ) × (j ≤ length s) × ((n : ℕ) (more : Bytes) → n < leb_limit k → leb_within k n ≡ take j s ++ more → ⊥))
    × ((n : ℕ) (rest : Bytes) → n < leb_limit k → s ≡ leb_within k n ++ rest → ⊥)
