use Rattle.std.proofs.Common.{◌≡◌, ◌-◌, [], length}
use Rattle.format_spec.specs.Fields.{each}
use Rattle.state_spec.specs.ManifestText.{row_after}
use Rattle.manifest.specs.Reading.{InOrder}
use Rattle.manifest.proofs.memory_chunks.read_some.Given as goal

abbrev pub invariant-loop : goal.invariant-loop
invariant-loop l =
    (each (row_after l.memories) (l.count - l.counter) l.rows.items l.reader ≡ each (row_after l.memories) l.count [] l.fn.reader)
    × (length l.rows.items ≡ l.counter) × InOrder 0 (length l.memories) l.rows.items
