use Rattle.std.proofs.Common.{◌≡◌, take}
use Rattle.sys_state.proofs.path.Path.copy.Given as goal

abbrev pub invariant-loop-label : goal.invariant-loop-label
invariant-loop-label l = l.labels.items ≡ take l.label-index l.label-items
