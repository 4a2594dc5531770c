use Rattle.std.proofs.Common.{◌≡◌, map, take}
use Rattle.state_spec.specs.Manifest.{chunk_hashes}
use Rattle.whole_state.proofs.marking.all_sums.Given as goal

abbrev pub invariant-loop-memory : goal.invariant-loop-memory
invariant-loop-memory l = map (λ hashes. hashes.items) l.sums.items ≡ map (λ memory. chunk_hashes 1 memory.items) (take l.memory-index l.memories)
