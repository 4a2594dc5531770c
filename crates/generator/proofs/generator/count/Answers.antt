use Rattle.std.proofs.Common.{arith}
use Rattle.generator.proofs.Counts.{length_generated}
use Rattle.generator.proofs.generator.count.Goals as goal

pub returns-clause-lines : goal.returns-clause-lines
returns-clause-lines c = λ seed. omega (arith, length_generated c.args.blocks seed)
