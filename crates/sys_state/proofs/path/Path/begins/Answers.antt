use Rattle.std.proofs.Common.{ap, sym, ◌∙◌}
use Rattle.std.specs.Ordering.{is_eq}
use Rattle.state_spec.proofs.Paths.{prefix_by_cmp}
use Rattle.sys_state.proofs.path.Path.begins.Goals as goal

pub returns-then-labels-others : goal.returns-then-labels-others
returns-then-labels-others c = rw (← c.labels-labels.ensures.value, ← c.labels-others.ensures.value) (c.is_eq.ensures ∙ ap is_eq c.order_labels.ensures ∙ sym (prefix_by_cmp c.labels-labels.result.now c.labels-others.result.now))
