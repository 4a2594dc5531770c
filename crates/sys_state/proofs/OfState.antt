-- The parts of a state are those of what is kept of it.
use Rattle.std.proofs.Common.{◌≡◌, List, [], ◌∷◌, map, refl, ap}
use Rattle.format_spec.specs.Bytes.{Bytes}
use Rattle.state_spec.specs.State.{Canister, CanisterPart, State, part_of as canister_part, system_of}
use Rattle.sys_state.specs.System.{kept_of, part_of, part_of_record, record_of}
use Rattle.sys_state.specs.declared.record.CanisterRecord.{CanisterRecord}

parts_twice : (cs : List (Bytes × Canister))
    → map {B = Bytes × CanisterPart} (λ (c : Bytes × CanisterRecord). (c.0, part_of_record c.1)) (map {B = Bytes × CanisterRecord} (λ (c : Bytes × Canister). (c.0, record_of c.1)) cs) ≡ map {B = Bytes × CanisterPart} (λ (c : Bytes × Canister). (c.0, canister_part c.1)) cs
parts_twice [] = refl
parts_twice (c ∷ cs) =
    let first : Bytes × CanisterPart = (c.0, canister_part c.1) in
    ap (λ (t : List (Bytes × CanisterPart)). first ∷ t) (parts_twice cs)

pub parts_of_state : (s : State) → part_of (kept_of s) ≡ system_of s
unfolding system_of
parts_of_state s = ap (λ (cs : List (Bytes × CanisterPart)). record { time = s.time; canisters = cs; entries = s.entries }) (parts_twice s.canisters)
