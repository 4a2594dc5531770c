use Rattle.std.proofs.Common.{◌≡◌, ◌+◌, ◌-◌, ◌++◌, refl, sym, ap, arith, List}
use Rattle.format_spec.specs.Bytes.{Bytes}
use Rattle.generator.specs.Places.{lines_left, lines_after, IsPlace}
use Rattle.generator.specs.Script.{write_lines, x_after_writes}
use Rattle.generator.proofs.Lefts.{behind_numbered, some_behind}
use Rattle.generator.proofs.place.after_write.Goals as goal

pub returns-then-done-lt31-clause-place : goal.returns-then-done-lt31-clause-place
unfolding IsPlace
returns-then-done-lt31-clause-place c = (omega arith, omega arith)

pub returns-then-done-lt31-clause-left : goal.returns-then-done-lt31-clause-left
unfolding lines_left
returns-then-done-lt31-clause-left c = λ x. refl

pub returns-else-done-lt31-clause-place : goal.returns-else-done-lt31-clause-place
unfolding IsPlace
returns-else-done-lt31-clause-place c = (omega arith, some_behind c.args.block)

pub returns-else-done-lt31-clause-left : goal.returns-else-done-lt31-clause-left
unfolding lines_left write_lines x_after_writes
returns-else-done-lt31-clause-left c = λ x.
    let e : 32 - (c.args.done + 1) ≡ 0 = omega arith in
    rw e (sym (ap (λ (lines : List Bytes). lines ++ lines_after c.args.blocks c.args.block x) (behind_numbered c.args.block)))
