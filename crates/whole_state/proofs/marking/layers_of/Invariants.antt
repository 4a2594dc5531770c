use Rattle.std.proofs.Common.{◌≡◌, map, take}
use Rattle.whole_state.proofs.marking.layers_of.Given as goal

abbrev pub invariant-loop-file : goal.invariant-loop-file
invariant-loop-file l = l.numbers.items ≡ map (λ file. file.number) (take l.file-index l.file-items)
