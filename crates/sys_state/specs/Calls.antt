-- What the calls of a state refuse, and what they change.
use Rattle.std.specs.Prelude.{◌≡◌, ℕ, ◌+◌, List, [], ◌∷◌, length, Option, Some, None, Result, Ok, Err, is_some, nat_le, nat_lt, if◌then◌else◌, Bool, not, ◌&&◌}
use Rattle.std.specs.Result.{IsOkUnless}
use Rattle.std.specs.FinMap.{find, put}
use Rattle.format_spec.specs.Bytes.{Bytes, bytes_cmp, path_cmp}
use Rattle.format_spec.specs.declared.limits.TheConstants.{MAX_CANISTERS, MAX_ENTRIES}
use Rattle.format_spec.specs.Versions.{memory_limit, state_limit}
use Rattle.state_spec.specs.State.{all_pages, is_reserved, has_conflict, without}
use Rattle.sys_state.specs.declared.error.SysError.{SysError}
use Rattle.sys_state.specs.declared.error.SysError.TheVariants as errors
use Rattle.sys_state.specs.declared.mem.Mem.{Mem}
use Rattle.sys_state.specs.declared.mem.Mem.TheVariants.{Heap, Stable}
use Rattle.sys_state.specs.declared.record.CanisterRecord.{CanisterRecord}
use Rattle.state_spec.specs.Places.{place_of, Replaces}
use Rattle.sys_state.specs.System.{System, part_of}

-- ---- answers

-- the refusal, where there is one
abbrev pub answer : Option SysError → Result (Unit {0}) SysError
answer (Some e) = Err e
answer None = Ok tt

-- the same, but where nothing is refused memory may run out
abbrev pub Answers : Option SysError → Result (Unit {0}) SysError → Type 0
Answers (Some e) result = result ≡ Err e
Answers None result = IsOkUnless result errors.Memory

-- ---- canisters

abbrev pub canister_in : System → Bytes → Option CanisterRecord
canister_in s id = find bytes_cmp id s.canisters

abbrev pub with_canister : System → Bytes → CanisterRecord → System
with_canister s id c = record s { canisters = put bytes_cmp id c s.canisters }

abbrev pub without_canister : System → Bytes → System
without_canister s id = record s { canisters = without bytes_cmp id s.canisters }

-- an empty canister
abbrev pub newborn : ℕ → CanisterRecord
newborn birth = record { «module» = None; certified = []; heap = 0; stable = 0; birth = birth }

-- the pages of a memory
abbrev pub pages_of : Mem → CanisterRecord → ℕ
pages_of Heap c = c.heap
pages_of Stable c = c.stable

-- a memory has so many pages
abbrev pub with_pages : Mem → ℕ → CanisterRecord → CanisterRecord
with_pages Heap n c = record c { heap = n }
with_pages Stable n c = record c { stable = n }

-- so many pages more
abbrev pub with_more_pages : Mem → ℕ → CanisterRecord → CanisterRecord
with_more_pages mem more c = with_pages mem (pages_of mem c + more) c

abbrev pub with_module : Option Bytes → CanisterRecord → CanisterRecord
with_module wasm c = record c { «module» = wasm }

abbrev pub with_certified : Bytes → CanisterRecord → CanisterRecord
with_certified bytes c = record c { certified = bytes }

-- the pages of all memories
abbrev pub all_pages_of : System → ℕ
all_pages_of s = all_pages (part_of s).canisters

-- ---- refusals, in the order in which they are looked at

abbrev pub create_refusal : System → Bytes → Option SysError
create_refusal s id =
    if is_some (canister_in s id) then Some errors.Exists
    else if nat_le MAX_CANISTERS (length s.canisters) then Some errors.ManyCanisters
    else None

abbrev pub find_refusal : System → Bytes → Option SysError
find_refusal s id = if is_some (canister_in s id) then None else Some errors.NoCanister

abbrev pub pages_refusal : ℕ → System → Mem → ℕ → Option CanisterRecord → Option SysError
pages_refusal version s mem more None = Some errors.NoCanister
pages_refusal version s mem more (Some c) =
    if nat_lt (memory_limit version) (pages_of mem c + more) then Some errors.MemoryFull
    else if nat_lt (state_limit version) (all_pages_of s + more) then Some errors.StateFull
    else None

abbrev pub extend_refusal : ℕ → System → Bytes → Mem → ℕ → Option SysError
extend_refusal version s id mem more = pages_refusal version s mem more (canister_in s id)

-- ---- entries

abbrev pub is_entry : System → List Bytes → Bool
is_entry s path = is_some (find path_cmp path s.entries)

abbrev pub put_refusal : System → List Bytes → Option SysError
put_refusal s path =
    if is_reserved path then Some errors.Reserved
    else if has_conflict s.entries path then Some errors.PathConflict
    else if not (is_entry s path) && nat_le MAX_ENTRIES (length s.entries) then Some errors.TreeFull
    else None

abbrev pub del_refusal : System → List Bytes → Option SysError
del_refusal s path = if is_entry s path then None else Some errors.NoPath

abbrev pub with_entry : System → List Bytes → Bytes → System
with_entry s path value = record s { entries = put path_cmp path value s.entries }

abbrev pub without_entry : System → List Bytes → System
without_entry s path = record s { entries = without path_cmp path s.entries }

-- ---- changes of canisters

-- the canister is there now, behind those with lower ids
pub record Creates (old new : System) (id : Bytes) (c : CanisterRecord) : Type 0 where
  pub was : canister_in old id ≡ None
  pub now : new ≡ with_canister old id c
  pub split : Replaces old.canisters new.canisters (place_of bytes_cmp id old.canisters) [] ((id, c) ∷ [])

-- the canister that was there has changed, and nothing else
pub record Changes (old new : System) (id : Bytes) (change : CanisterRecord → CanisterRecord) : Type 0 where
  pub c : CanisterRecord
  pub was : canister_in old id ≡ Some c
  pub now : new ≡ with_canister old id (change c)
  pub split : Replaces old.canisters new.canisters (place_of bytes_cmp id old.canisters) ((id, c) ∷ []) ((id, change c) ∷ [])

-- the canister is gone
pub record Removes (old new : System) (id : Bytes) : Type 0 where
  pub c : CanisterRecord
  pub was : canister_in old id ≡ Some c
  pub now : new ≡ without_canister old id
  pub split : Replaces old.canisters new.canisters (place_of bytes_cmp id old.canisters) ((id, c) ∷ []) []
