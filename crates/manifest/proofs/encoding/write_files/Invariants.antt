use Rattle.std.proofs.Common.{◌≡◌, ◌≤◌, ◌+◌, ◌*◌, ◌++◌, length, take}
use Rattle.std.specs.List.{flat_map}
use Rattle.state_spec.specs.ManifestText.{file_row_text}
use Rattle.manifest.proofs.encoding.write_files.Given as goal

abbrev pub invariant-loop-row : goal.invariant-loop-row
invariant-loop-row l =
    (l.out ≡ l.initial.out ++ flat_map file_row_text (take l.row-index l.files))
    × (length l.out ≤ length l.initial.out + 296 * l.row-index)
