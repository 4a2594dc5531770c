use Rattle.std.proofs.Common.{◌≡◌, map, take}
use Rattle.live_state.proofs.memories.copy_memories.Given as goal

abbrev pub invariant-loop-memory : goal.invariant-loop-memory
invariant-loop-memory l = map (λ v. v.items) l.copies.items ≡ map (λ v. v.items) (take l.memory-index l.memories)
