use Rattle.std.proofs.Common.{◌≡◌, ◌++◌, take}
use Rattle.std.specs.List.{flat_map}
use Rattle.format_spec.specs.Bytes.{short_string}
use Rattle.sys_state.proofs.state.encoding.write_path.Given as goal

abbrev pub invariant-loop-label : goal.invariant-loop-label
invariant-loop-label l = l.text ≡ l.initial.text ++ flat_map short_string (take l.label-index l.label-items)
