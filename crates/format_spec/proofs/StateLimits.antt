-- The limits of both versions, as numbers and beside each other.
use Rattle.std.proofs.Common.{◌≡◌, ℕ, ◌≤◌, ◌==◌, Bool, true, false, refl, arith}
use Rattle.std.specs.Prelude.{if◌then◌else◌}
use Rattle.format_spec.specs.declared.limits.TheConstants.{FIRST_MEMORY_PAGES, FIRST_STATE_PAGES, MAX_MEMORY_PAGES, MAX_STATE_PAGES}
use Rattle.format_spec.specs.Versions.{memory_limit, state_limit}

pub memory_limit-1 : memory_limit 1 ≡ FIRST_MEMORY_PAGES
unfolding memory_limit
memory_limit-1 = refl

pub state_limit-1 : state_limit 1 ≡ FIRST_STATE_PAGES
unfolding state_limit
state_limit-1 = refl

pub memory_limit-2 : memory_limit 2 ≡ MAX_MEMORY_PAGES
unfolding memory_limit
memory_limit-2 = refl

pub state_limit-2 : state_limit 2 ≡ MAX_STATE_PAGES
unfolding state_limit
state_limit-2 = refl

between : (first most : ℕ) → first ≤ most → (b : Bool) → (first ≤ (if b then first else most)) × ((if b then first else most) ≤ most)
between first most h true = (omega arith, h)
between first most h false = (h, omega arith)

-- no version has lower limits than the first, nor higher ones than the greatest
pub memory_limits : (version : ℕ) → (memory_limit 1 ≤ memory_limit version) × (memory_limit version ≤ MAX_MEMORY_PAGES)
unfolding memory_limit
memory_limits version = between FIRST_MEMORY_PAGES MAX_MEMORY_PAGES (omega arith) (version == 1)

pub state_limits : (version : ℕ) → (state_limit 1 ≤ state_limit version) × (state_limit version ≤ MAX_STATE_PAGES)
unfolding state_limit
state_limits version = between FIRST_STATE_PAGES MAX_STATE_PAGES (omega arith) (version == 1)
