use Rattle.std.proofs.Common.{◌≡◌, ◌-◌, []}
use Rattle.format_spec.specs.Fields.{each}
use Rattle.mark_file.specs.Reading.{layer_after}
use Rattle.mark_file.proofs.memories.read_layers.Given as goal

abbrev pub invariant-loop : goal.invariant-loop
invariant-loop l = each layer_after (l.count - l.counter) l.layers.items l.reader ≡ each layer_after l.count [] l.fn.reader
