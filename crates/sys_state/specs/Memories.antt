-- All memories of a state, heap and stable of each canister in turn: where one stands, and how many bytes each has.
use Rattle.std.specs.Prelude.{◌≡◌, ℕ, ◌+◌, ◌*◌, ◌≤◌, List, length, map, sum_by}
use Rattle.std.specs.List.{AllByRecursion}
use Rattle.format_spec.specs.Bytes.{Bytes}
use Rattle.format_spec.specs.declared.limits.TheConstants.{PAGE_SIZE}
use Rattle.format_spec.specs.Versions.{memory_limit, state_limit}
use Rattle.state_spec.specs.Files.{memory_pages}
use Rattle.sys_state.specs.System.{parts}
use Rattle.sys_state.specs.declared.mem.Mem.{Mem}
use Rattle.sys_state.specs.declared.mem.Mem.TheVariants.{Heap, Stable}
use Rattle.sys_state.specs.declared.record.CanisterRecord.{CanisterRecord}

-- the canister at a place has the heap there and the stable memory behind it
abbrev pub index_of : ℕ → Mem → ℕ
index_of place Heap = 2 * place
index_of place Stable = 2 * place + 1

-- each memory has as many bytes as its pages have
abbrev pub HaveSizes : List (Bytes × CanisterRecord) → List Bytes → Type 0
HaveSizes canisters memories = map (λ bytes. length bytes) memories ≡ map (λ memory. memory.1 * PAGE_SIZE) (memory_pages (parts canisters))

-- no memory has more bytes than a memory of this version, and all together have no more than all of them
pub record AreWithin (version : ℕ) (memories : List Bytes) : Type 0 where
  pub each : AllByRecursion (λ bytes. length bytes ≤ memory_limit version * PAGE_SIZE) memories
  pub together : sum_by (λ bytes. length bytes) memories ≤ state_limit version * PAGE_SIZE
