use Rattle.std.proofs.Common.{◌≡◌, ◌+◌, ◌==◌, drop}
use Rattle.std.specs.List.{prefix_len}
use Rattle.state_spec.specs.Manifest.{ChunkRow}
use Rattle.manifest.proofs.hashes.rows_of.Given as goal

abbrev pub invariant-rows : goal.invariant-rows
invariant-rows l = l.i + prefix_len (λ (r : ChunkRow). r.file == l.file) (drop l.i l.rows) ≡ prefix_len (λ (r : ChunkRow). r.file == l.file) l.rows
