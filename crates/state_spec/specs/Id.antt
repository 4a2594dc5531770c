-- The ids of canisters.
use Rattle.std.specs.Prelude.{ℕ, ◌≤◌, List, length}
use Rattle.format_spec.specs.declared.limits.TheConstants.{MAX_ID}

-- 1 to 29 bytes
abbrev pub IsId : List ℕ → Type 0
IsId bytes = (1 ≤ length bytes) × (length bytes ≤ MAX_ID)
