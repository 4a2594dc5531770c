use Rattle.std.proofs.Common.{◌+◌, ◌++◌, refl, sym, ap, ◌∙◌, arith, List}
use Rattle.format_spec.specs.Bytes.{Bytes}
use Rattle.generator.specs.Places.{lines_left, lines_after, IsPlace, line_behind, count_behind}
use Rattle.generator.proofs.Lefts.{numbered_end, few_behind}
use Rattle.generator.proofs.place.after_behind.Goals as goal

pub overflow_add-done : goal.overflow_add-done
overflow_add-done c = omega (arith, few_behind c.args.block)

pub returns-then-done-count_behind-clause-place : goal.returns-then-done-count_behind-clause-place
unfolding IsPlace
returns-then-done-count_behind-clause-place c = (omega arith, omega arith)

pub returns-then-done-count_behind-clause-left : goal.returns-then-done-count_behind-clause-left
unfolding lines_left
returns-then-done-count_behind-clause-left c = λ x. refl

pub returns-else-done-count_behind-clause-left : goal.returns-else-done-count_behind-clause-left
returns-else-done-count_behind-clause-left c = λ x.
    c.behind_block.ensures.left (omega arith) x
    ∙ sym (ap (λ (lines : List Bytes). lines ++ lines_after c.args.blocks c.args.block x)
    (numbered_end (line_behind c.args.block) (c.args.done + 1) (count_behind c.args.block) (omega arith)))
