use Rattle.std.proofs.Common.{refl}
use Rattle.std.specs.Fmt.{digits}
use Rattle.hex.specs.Hex.{encode_with}
use Rattle.generator.specs.Script.{lines_behind}
use Rattle.generator.proofs.examples.lines_of_fourth_blocks.Goals as goal

pub returns-clause-third : goal.returns-clause-third
unfolding lines_behind
returns-clause-third c = refl

pub returns-clause-fourth : goal.returns-clause-fourth
unfolding lines_behind
returns-clause-fourth c = refl

pub returns-clause-forget : goal.returns-clause-forget
unfolding lines_behind digits
returns-clause-forget c = refl

pub returns-clause-merge : goal.returns-clause-merge
unfolding lines_behind encode_with
returns-clause-merge c = refl

pub returns-clause-sixteenth : goal.returns-clause-sixteenth
unfolding lines_behind digits
returns-clause-sixteenth c = refl
