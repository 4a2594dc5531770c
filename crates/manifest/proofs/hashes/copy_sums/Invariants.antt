use Rattle.std.proofs.Common.{◌≡◌, map, take}
use Rattle.state_spec.specs.Manifest.{ChunkRow}
use Rattle.manifest.proofs.hashes.copy_sums.Given as goal

abbrev pub invariant-loop-row : goal.invariant-loop-row
invariant-loop-row l = l.sums.items ≡ map (λ (row : ChunkRow). row.sum) (take l.row-index l.rows)
