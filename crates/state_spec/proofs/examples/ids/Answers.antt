use Rattle.std.proofs.Common.{lit≤, arith}
use Rattle.state_spec.proofs.examples.ids.Goals as goal

pub returns-clause-one : goal.returns-clause-one
returns-clause-one c = (lit≤ tt, lit≤ tt)

pub returns-clause-longest : goal.returns-clause-longest
returns-clause-longest c = (lit≤ tt, lit≤ tt)

pub returns-clause-none : goal.returns-clause-none
returns-clause-none c is = omega (arith, is.0)

pub returns-clause-longer : goal.returns-clause-longer
returns-clause-longer c is = omega (arith, is.1)
