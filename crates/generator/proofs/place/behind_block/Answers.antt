use Rattle.std.proofs.Common.{sym, arith}
use Rattle.generator.specs.Places.{numbered, lines_left, IsPlace}
use Rattle.generator.proofs.Lefts.{block_begun, blocks_ended}
use Rattle.generator.proofs.place.behind_block.Goals as goal

pub returns-then-block-blocks-clause-place : goal.returns-then-block-blocks-clause-place
unfolding IsPlace
returns-then-block-blocks-clause-place c = (omega arith, omega arith)

pub returns-then-block-blocks-clause-left : goal.returns-then-block-blocks-clause-left
unfolding lines_left
returns-then-block-blocks-clause-left c = λ within x. sym (block_begun c.args.blocks c.args.block x (omega arith))

pub returns-else-block-blocks-clause-place : goal.returns-else-block-blocks-clause-place
unfolding IsPlace
returns-else-block-blocks-clause-place c = omega arith

pub returns-else-block-blocks-clause-left : goal.returns-else-block-blocks-clause-left
unfolding lines_left numbered
returns-else-block-blocks-clause-left c = λ within x. sym (blocks_ended c.args.blocks c.args.block x (omega arith))
