-- What is known of the state of a published height, and where the pages of its memories stand.
use Rattle.std.specs.Prelude.{◌≡◌, ◌≤◌, ◌<◌, ◌+◌, ◌-◌, ℕ, ◌*◌, List, length, map, sum_by, slice_get, Some}
use Rattle.std.specs.Option.{option_map_or}
use Rattle.std.specs.List.{AllZip}
use Rattle.format_spec.specs.Bytes.{Bytes}
use Rattle.format_spec.specs.declared.limits.TheConstants.{PAGE_SIZE}
use Rattle.state_spec.specs.State.{State, system_of, memory_bytes}
use Rattle.state_spec.specs.Files.{memories_in}
use Rattle.state_spec.specs.Memory.{pages_holding}
use Rattle.store_spec.specs.Image.{Published, HasTrueSums, opened_state}
use Rattle.sys_state.specs.System.{part_of, kept_of}
use Rattle.state_spec.specs.Root.{root_of}
use Rattle.height_store.specs.Store.{StoredHeight, IsHeight, height_at}

-- What is known of a published height without its disk: the live state that a store which opens at it has, but for the
-- bytes of its memories, and the sums of their chunks.
pub record KnowsHeight (h : StoredHeight) (p : Published) : Type 0 where
  pub good : IsHeight h
  pub height : h.mark.height ≡ p.height
  pub version : p.state.version ≡ h.mark.version
  pub parts : system_of p.state ≡ part_of h.system
  pub system : kept_of (opened_state p) ≡ h.system
  pub bytes : memory_bytes (opened_state p) ≡ memory_bytes p.state
  pub sizes : map (λ bytes. length bytes) (memory_bytes p.state) ≡ map (λ m. m.1 * PAGE_SIZE) (memories_in (part_of h.system))
  pub sums : AllZip (HasTrueSums h.mark.version) h.mark.memories (memory_bytes p.state)
  pub root : h.mark.root ≡ root_of p.state
  pub same_root : root_of (opened_state p) ≡ root_of p.state

-- the bytes of the memory at a place of a state, in the order of files
abbrev pub IsMemoryAt : State → ℕ → Bytes → Type 0
IsMemoryAt s file bytes = slice_get (memory_bytes s) file ≡ Some bytes

-- how many bytes the memories of a height have
abbrev pub bytes_of : StoredHeight → ℕ
bytes_of h = sum_by (λ m. m.1 * PAGE_SIZE) (memories_in (part_of h.system))

-- the same, and none where it is not published
abbrev pub bytes_at : List StoredHeight → ℕ → ℕ
bytes_at hs height = option_map_or bytes_of (height_at hs height) 0

-- the first of them, and the one behind the last
pub record AreTheirPages (offset len first behind : ℕ) : Type 0 where
  pub begins : first * PAGE_SIZE ≤ offset
  pub soon : offset < first * PAGE_SIZE + PAGE_SIZE
  pub ends : behind * PAGE_SIZE < offset + len + PAGE_SIZE
  pub covers : len ≤ behind * PAGE_SIZE - offset
  pub count : behind ≡ first + pages_holding offset len
