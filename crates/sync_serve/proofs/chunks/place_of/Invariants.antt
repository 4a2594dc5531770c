use Rattle.sync_serve.proofs.ChunkPlaces.{Leads}
use Rattle.sync_serve.proofs.chunks.place_of.Given as goal

abbrev pub invariant-loop-file : goal.invariant-loop-file
invariant-loop-file l = Leads l.pages l.index l.file l.left
