use Rattle.std.proofs.Common.{◌≡◌, ◌+◌, ◌++◌, take, drop}
use Rattle.layer_stack.proofs.merging.put_in_place.Given as goal

abbrev pub invariant-loop-i : goal.invariant-loop-i
invariant-loop-i l = l.layers.items ≡ take l.from l.initial.layers.items ++ drop (l.from + l._i) l.initial.layers.items
