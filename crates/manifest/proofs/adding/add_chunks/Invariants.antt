use Rattle.std.proofs.Common.{◌≡◌, ◌++◌, take, map}
use Rattle.format_spec.specs.Hashes.{ChunkSum}
use Rattle.manifest.proofs.adding.add_chunks.Given as goal

abbrev pub invariant-loop-sum : goal.invariant-loop-sum
invariant-loop-sum l = l.chunks.items ≡ l.initial.chunks.items ++ map (λ (sum : ChunkSum). record { file = l.file; sum = sum }) (take l.sum-index l.sums)
