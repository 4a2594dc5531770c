use Rattle.merge_job.proofs.Stepped.{one_less}
use Rattle.merge_job.proofs.laws.a_step_leaves_one_less.Goals as goal

pub returns : goal.returns
returns c = one_less
