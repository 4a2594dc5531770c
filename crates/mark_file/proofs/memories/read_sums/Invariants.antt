use Rattle.std.proofs.Common.{◌≡◌, ◌-◌, []}
use Rattle.format_spec.specs.Fields.{each}
use Rattle.mark_file.specs.Reading.{sum_after}
use Rattle.mark_file.proofs.memories.read_sums.Given as goal

abbrev pub invariant-loop : goal.invariant-loop
invariant-loop l = each (sum_after l.version) (l.count - l.counter) l.sums.items l.reader ≡ each (sum_after l.version) l.count [] l.fn.reader
