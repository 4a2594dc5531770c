use Rattle.std.proofs.Common.{◌≡◌, ◌≤◌, ◌+◌, ◌*◌, ◌++◌, length, take}
use Rattle.std.specs.List.{flat_map}
use Rattle.state_spec.specs.ManifestText.{chunk_row_text}
use Rattle.manifest.proofs.encoding.write_chunks.Given as goal

abbrev pub invariant-loop-row : goal.invariant-loop-row
invariant-loop-row l =
    (l.out ≡ l.initial.out ++ flat_map chunk_row_text (take l.row-index l.chunks))
    × (length l.out ≤ length l.initial.out + 48 * l.row-index)
