use Rattle.std.proofs.Common.{◌≡◌, ◌-◌, refl, arith}
use Rattle.generator.specs.Places.{numbered, lines_left, lines_after, IsPlace}
use Rattle.generator.specs.Script.{generated}
use Rattle.generator.proofs.generator.Generator.new.Goals as goal

pub invariant_of-result : goal.invariant_of-result
unfolding IsPlace
invariant_of-result c = (omega arith, omega arith)

pub returns : goal.returns
unfolding generated lines_left lines_after numbered
returns c = let e : c.args.blocks - 0 ≡ c.args.blocks = omega arith in rw e refl
