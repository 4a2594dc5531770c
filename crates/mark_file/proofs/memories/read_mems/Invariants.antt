use Rattle.std.proofs.Common.{◌≡◌, ◌-◌, [], length}
use Rattle.format_spec.specs.Fields.{each}
use Rattle.mark_file.specs.Reading.{memory_after}
use Rattle.mark_file.proofs.memories.read_mems.Given as goal

abbrev pub invariant-loop-count : goal.invariant-loop-count
invariant-loop-count l =
    (each (memory_after l.version l.pages) (length l.pages - l.count-index) l.mems.items l.reader ≡ each (memory_after l.version l.pages) (length l.pages) [] l.fn.reader)
    × (length l.mems.items ≡ l.count-index)
