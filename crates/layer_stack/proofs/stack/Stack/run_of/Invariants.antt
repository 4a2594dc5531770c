use Rattle.std.proofs.Common.{take}
use Rattle.layer_stack.specs.Found.{IsRun}
use Rattle.layer_stack.proofs.stack.Stack.run_of.Given as goal

abbrev pub invariant-loop-k : goal.invariant-loop-k
invariant-loop-k l = IsRun l.self l.i l.place (take l.k l.pages)
