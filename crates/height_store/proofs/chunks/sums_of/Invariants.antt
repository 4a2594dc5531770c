use Rattle.std.proofs.Common.{◌≡◌, Some, map, take}
use Rattle.height_store.proofs.chunks.sums_of.Given as goal

abbrev pub invariant-loop-hash : goal.invariant-loop-hash
invariant-loop-hash l = l.sums.items ≡ map Some (take l.hash-index l.hashes)
