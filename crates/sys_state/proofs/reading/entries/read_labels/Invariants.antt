use Rattle.std.proofs.Common.{◌-◌}
use Rattle.sys_state.proofs.Labels.{Begun}
use Rattle.sys_state.proofs.reading.entries.read_labels.Given as goal

abbrev pub invariant-loop : goal.invariant-loop
invariant-loop l = Begun (l.count - l.counter) l.labels.items l.fn.reader l.reader
