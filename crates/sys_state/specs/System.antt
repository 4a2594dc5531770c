-- What a state is apart from the bytes of its memories and the rounds of their pages.
use Rattle.std.specs.Prelude.{ℕ, ◌^◌, ◌<◌, List, map, IfSome}
use Rattle.std.specs.List.{AllByRecursion}
use Rattle.format_spec.specs.Bytes.{Bytes, IsBytes}
use Rattle.state_spec.specs.State.{State, Canister, CanisterPart, SystemPart, IsSystem, IsByteEntry, pages_of}
use Rattle.sys_state.specs.declared.record.CanisterRecord.{CanisterRecord}

-- canisters by ascending ids, entries by ascending paths
pub record System : Type 0 where
  pub time : ℕ
  pub canisters : List (Bytes × CanisterRecord)
  pub entries : List (List Bytes × Bytes)

abbrev pub system : ℕ → List (Bytes × CanisterRecord) → List (List Bytes × Bytes) → System
system time canisters entries = record { time = time; canisters = canisters; entries = entries }

-- without the birth
abbrev pub part_of_record : CanisterRecord → CanisterPart
part_of_record c = record { wasm = c.module; certified = c.certified; heap = c.heap; stable = c.stable }

abbrev pub parts : List (Bytes × CanisterRecord) → List (Bytes × CanisterPart)
parts cs = map (λ c. (c.0, part_of_record c.1)) cs

-- without births: what the system text spells
abbrev pub part_of : System → SystemPart
part_of s = record {
  time = s.time;
  canisters = parts s.canisters;
  entries = s.entries;
}

abbrev pub record_of : Canister → CanisterRecord
record_of c = record {
  «module» = c.wasm;
  certified = c.certified;
  heap = pages_of c.heap;
  stable = pages_of c.stable;
  birth = c.birth;
}

-- what of a plain state isn't memory bytes or rounds
abbrev pub kept_of : State → System
kept_of s = record { time = s.time; canisters = map (λ c. (c.0, record_of c.1)) s.canisters; entries = s.entries }

-- ---- what is within the limits

-- of bytes, with a birth of 64 bits
pub record IsCanister (c : Bytes × CanisterRecord) : Type 0 where
  pub id : IsBytes c.0
  pub wasm : IfSome c.1.module IsBytes
  pub certified : IsBytes c.1.certified
  pub birth : c.1.birth < 2 ^ 64

-- within all limits of a version, so that a text spells it: those of version 2 are within no others
pub record IsWithinLimits (s : System) : Type 0 where
  pub system : IsSystem 2 (part_of s)
  pub canisters : AllByRecursion IsCanister s.canisters
  pub entries : AllByRecursion IsByteEntry s.entries
