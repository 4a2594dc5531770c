use Rattle.std.proofs.Common.{◌≡◌, drop}
use Rattle.format_spec.specs.Bytes.{path_cmp}
use Rattle.sys_state.proofs.path.order_labels.Given as goal

abbrev pub invariant-loop-i : goal.invariant-loop-i
invariant-loop-i l = path_cmp (drop l.i l.a) (drop l.i l.b) ≡ path_cmp l.a l.b
