use Rattle.std.proofs.Common.{sym, ◌∙◌}
use Rattle.state_spec.proofs.Paths.{conflict_begun, conflict_behind}
use Rattle.sys_state.proofs.state.entries.conflicts.Goals as goal

pub returns-then-is_begun : goal.returns-then-is_begun
returns-then-is_begun c = c.if-is_begun.true ∙ sym (conflict_begun c.args.path.now c.args.entries.now c.args.i c.requires.place (sym c.is_begun.ensures ∙ c.if-is_begun.true))

pub returns-else-is_begun : goal.returns-else-is_begun
returns-else-is_begun c = c.goes_on.ensures ∙ sym (conflict_behind c.args.path.now c.args.entries.now c.args.i c.requires.place (sym c.is_begun.ensures ∙ c.if-is_begun.false))
