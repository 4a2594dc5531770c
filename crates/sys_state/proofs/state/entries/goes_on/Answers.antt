use Rattle.std.proofs.Common.{◌∙◌}
use Rattle.state_spec.proofs.Paths.{first_decides}
use Rattle.sys_state.proofs.state.entries.goes_on.Goals as goal

pub returns-then-i-entries : goal.returns-then-i-entries
returns-then-i-entries c =
    (rw (← c.index-entries-i.is) at c.begins.ensures)
    ∙ first_decides c.args.path.now c.args.entries.now c.args.i c.requires.place c.requires.sorted c.index-entries-i.result c.index-entries-i.is c.if-i-entries.true
