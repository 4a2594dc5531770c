use Rattle.std.proofs.Common.{◌≡◌, take}
use Rattle.layer_stack.proofs.stack.Stack.above.Given as goal

abbrev pub invariant-loop-file : goal.invariant-loop-file
invariant-loop-file l = l.layers.items ≡ take l.file-index l.upper
