use Rattle.height_store.proofs.ChunkRows.{Halfway}
use Rattle.height_store.proofs.chunks.index_of_memories.Given as goal

abbrev pub invariant-loop-i : goal.invariant-loop-i
invariant-loop-i l = Halfway l.mems l.pages l.i l.index
