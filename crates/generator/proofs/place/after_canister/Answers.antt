use Rattle.std.proofs.Common.{◌+◌, ◌++◌, refl, sym, ap, ◌∙◌, arith}
use Rattle.generator.specs.Places.{lines_left, lines_after, IsPlace}
use Rattle.generator.specs.Script.{canister_line}
use Rattle.generator.proofs.Lefts.{numbered_end}
use Rattle.format_spec.specs.Bytes.{Bytes}
use Rattle.std.proofs.Common.{List}
use Rattle.generator.proofs.place.after_canister.Goals as goal

pub returns-then-canister-lt3-clause-place : goal.returns-then-canister-lt3-clause-place
unfolding IsPlace
returns-then-canister-lt3-clause-place c = omega arith

pub returns-then-canister-lt3-clause-left : goal.returns-then-canister-lt3-clause-left
unfolding lines_left
returns-then-canister-lt3-clause-left c = λ x. refl

pub returns-else-canister-lt3-clause-left : goal.returns-else-canister-lt3-clause-left
returns-else-canister-lt3-clause-left c = λ x.
    c.behind_block.ensures.left (omega arith) x
    ∙ sym (ap (λ (lines : List Bytes). lines ++ lines_after c.args.blocks 0 x) (numbered_end canister_line (c.args.canister + 1) 4 (omega arith)))
