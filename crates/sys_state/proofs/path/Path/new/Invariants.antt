use Rattle.std.proofs.Common.{◌≡◌, true, take}
use Rattle.std.specs.List.{AllByRecursion, list_all}
use Rattle.format_spec.specs.Bytes.{IsBytes}
use Rattle.state_spec.specs.State.{is_label}
use Rattle.sys_state.proofs.path.Path.new.Given as goal

abbrev pub invariant-loop-label : goal.invariant-loop-label
invariant-loop-label l = record {
  good : list_all is_label (take l.label-index l.label-items) ≡ true;
  bytes : AllByRecursion IsBytes (take l.label-index l.label-items);
}
