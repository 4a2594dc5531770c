use Rattle.witness.proofs.Once.{check_once}
use Rattle.witness.proofs.laws.a_check_has_one_answer.Goals as goal

pub returns : goal.returns
returns c = check_once
