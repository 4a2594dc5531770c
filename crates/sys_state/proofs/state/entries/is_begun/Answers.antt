use Rattle.std.proofs.Common.{◌∙◌, arith}
use Rattle.state_spec.proofs.Paths.{last_decides, place_within}
use Rattle.sys_state.proofs.state.entries.is_begun.Goals as goal

pub returns-then-i-gt0 : goal.returns-then-i-gt0
returns-then-i-gt0 c =
    (rw (← c.index-entries-i.is) at c.begins.ensures)
    ∙ last_decides c.args.path.now c.args.entries.now c.args.i c.requires.place c.requires.sorted c.index-entries-i.result c.requires.apart _ (omega arith) c.index-entries-i.is
    (omega (arith, place_within c.args.path.now c.args.entries.now c.args.i c.requires.place))
