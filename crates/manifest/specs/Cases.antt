-- The states of the tests.
use Rattle.std.specs.Prelude.{ℕ, List, [], ◌∷◌, None}
use Rattle.format_spec.specs.Bytes.{Bytes}
use Rattle.sys_state.specs.declared.record.CanisterRecord.{CanisterRecord}

-- a canister whose heap has so many pages, born at height 1
abbrev pub one_canister : Bytes → ℕ → List (Bytes × CanisterRecord)
one_canister id pages = (id, record { «module» = None; certified = []; heap = pages; stable = 0; birth = 1 }) ∷ []
