use Rattle.std.proofs.Common.{arith}
use Rattle.store_spec.proofs.refusals.too_many_marks.Goals as goal

pub returns : goal.returns
returns c = λ files ps many opens. absurd (omega (arith, many, opens.few))
