use Rattle.std.proofs.Common.{refl}
use Rattle.generator.specs.Draws.{next_x, drawn}
use Rattle.generator.proofs.examples.first_draws.Goals as goal

pub returns-clause-x : goal.returns-clause-x
unfolding next_x
returns-clause-x c = refl

pub returns-clause-quotient : goal.returns-clause-quotient
unfolding next_x
returns-clause-quotient c = refl

pub returns-clause-canister : goal.returns-clause-canister
unfolding next_x drawn
returns-clause-canister c = refl
