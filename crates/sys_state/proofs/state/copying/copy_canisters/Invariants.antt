use Rattle.std.proofs.Common.{◌≡◌, take}
use Rattle.sys_state.proofs.state.copying.copy_canisters.Given as goal

abbrev pub invariant-loop-id : goal.invariant-loop-id
invariant-loop-id l = l.copies.items ≡ take l.id-index l.canisters
