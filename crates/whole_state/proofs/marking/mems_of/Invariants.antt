use Rattle.std.proofs.Common.{◌≡◌, map, take}
use Rattle.height_store.specs.Store.{numbers_of}
use Rattle.whole_state.proofs.marking.mems_of.Given as goal

abbrev pub invariant-loop-i : goal.invariant-loop-i
invariant-loop-i l = (map (λ memory. memory.layers) l.mems.items ≡ map numbers_of (take l.i l.stacks)) × (map (λ memory. memory.sums) l.mems.items ≡ map (λ hashes. hashes.items) (take l.i l.sums))
