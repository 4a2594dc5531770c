use Rattle.std.proofs.Common.{◌≡◌, ◌-◌, true, []}
use Rattle.std.specs.List.{AllByRecursion}
use Rattle.std.specs.FinMap.{is_sorted}
use Rattle.format_spec.specs.Bytes.{path_cmp}
use Rattle.format_spec.specs.Fields.{each}
use Rattle.state_spec.specs.State.{are_apart}
use Rattle.state_spec.specs.SystemText.{entry_after}
use Rattle.state_spec.specs.State.{IsByteEntry}
use Rattle.sys_state.proofs.reading.entries.read_entries.Given as goal

abbrev pub invariant-loop : goal.invariant-loop
invariant-loop l = record {
  read : each entry_after (l.count - l.counter) l.entries.items l.reader ≡ each entry_after l.count [] l.fn.reader;
  sorted : is_sorted path_cmp l.entries.items ≡ true;
  apart : are_apart l.entries.items ≡ true;
  bytes : AllByRecursion IsByteEntry l.entries.items;
}
