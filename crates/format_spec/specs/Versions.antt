-- The versions of a state, and the limits that depend on them.
use Rattle.std.specs.Prelude.{ℕ, Bool, ◌||◌, ◌==◌, if◌then◌else◌}
use Rattle.format_spec.specs.declared.limits.TheConstants.{FIRST_MEMORY_PAGES, FIRST_STATE_PAGES, MAX_MEMORY_PAGES, MAX_STATE_PAGES}

abbrev pub is_version : ℕ → Bool
is_version version = version == 1 || version == 2

-- the pages that a memory has at most
unfoldable pub memory_limit : ℕ → ℕ
memory_limit version = if version == 1 then FIRST_MEMORY_PAGES else MAX_MEMORY_PAGES

-- the pages that all memories of a state have at most
unfoldable pub state_limit : ℕ → ℕ
state_limit version = if version == 1 then FIRST_STATE_PAGES else MAX_STATE_PAGES
