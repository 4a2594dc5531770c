-- A state as a published height keeps it.
use Rattle.std.specs.Prelude.{◌≡◌, ℕ, List}
use Rattle.format_spec.specs.Bytes.{Bytes}
use Rattle.state_spec.specs.State.{State, memory_bytes}
use Rattle.store_spec.specs.Image.{Published, whole_layers}
use Rattle.sys_state.specs.System.{System, kept_of}

-- the state has these parts and these bytes of memories
pub record HasParts (s : State) (system : System) (memories : List Bytes) : Type 0 where
  pub version : s.version ≡ 1
  pub parts : kept_of s ≡ system
  pub bytes : memory_bytes s ≡ memories

-- the published height of a state whose memories were written whole
abbrev pub whole : ℕ → State → Published
whole height s = record { height = height; state = s; layers = whole_layers s }
