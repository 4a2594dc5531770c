use Rattle.std.proofs.Common.{◌≡◌, ◌++◌, take}
use Rattle.std.specs.List.{flat_map}
use Rattle.state_spec.specs.SystemText.{entry_text}
use Rattle.sys_state.proofs.state.encoding.write_entries.Given as goal

abbrev pub invariant-loop-path : goal.invariant-loop-path
invariant-loop-path l = l.text ≡ l.fn.text ++ flat_map entry_text (take l.path-index l.entries)
