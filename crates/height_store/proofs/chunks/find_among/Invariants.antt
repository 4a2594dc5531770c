use Rattle.std.proofs.Common.{◌≡◌, drop}
use Rattle.height_store.specs.Chunks.{chunk_in}
use Rattle.height_store.proofs.chunks.find_among.Given as goal

abbrev pub invariant-loop-kept : goal.invariant-loop-kept
invariant-loop-kept l = chunk_in l.heights l.size l.hash ≡ chunk_in (drop l.kept-index l.heights) l.size l.hash
