use Rattle.std.proofs.Common.{◌≡◌, ◌++◌, take}
use Rattle.std.specs.List.{flat_map}
use Rattle.state_spec.specs.SystemText.{canister_text}
use Rattle.sys_state.specs.System.{part_of_record}
use Rattle.sys_state.proofs.state.encoding.write_canisters.Given as goal

abbrev pub invariant-loop-id : goal.invariant-loop-id
invariant-loop-id l = l.text ≡ l.fn.text ++ flat_map (λ c. canister_text (c.0, part_of_record c.1)) (take l.id-index l.canisters)
