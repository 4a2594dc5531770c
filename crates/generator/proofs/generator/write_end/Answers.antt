use Rattle.std.proofs.Common.{arith, refl}
use Rattle.generator.specs.Places.{last_line}
use Rattle.generator.proofs.Steps.{last_done, all_done}
use Rattle.generator.proofs.generator.write_end.Goals as goal

pub returns-then-done-eq2 : goal.returns-then-done-eq2
returns-then-done-eq2 c = (all_done c.args.blocks c.args.x c.args.done (omega arith), refl)

pub returns : goal.returns
returns c = (
  c.after_last.ensures.place c.args.blocks,
  (
    last_line c.args.done,
    last_done c.args.blocks c.args.x c.args.done c.after_last.result (omega arith) (c.after_last.ensures.left c.args.blocks c.args.x),
    c.in_ok-write_last.ensures,
  ),
)
