use Rattle.std.proofs.Common.{◌≡◌, ◌-◌, [], length, map, take}
use Rattle.format_spec.specs.Fields.{each}
use Rattle.state_spec.specs.ManifestText.{slot_after, slot_of}
use Rattle.manifest.proofs.chunks.read_chunks.Given as goal

abbrev pub invariant-loop-slot : goal.invariant-loop-slot
invariant-loop-slot l =
    (each (slot_after l.slots) (length l.slots - l.slot-index) l.rows.items l.reader ≡ each (slot_after l.slots) (length l.slots) [] l.fn.reader)
    × (map slot_of l.rows.items ≡ take l.slot-index l.slots)
