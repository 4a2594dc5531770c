use Rattle.merge_job.proofs.Stepped.{merge_needs}
use Rattle.merge_job.proofs.laws.a_merge_is_kept_through_calls.Goals as goal

pub returns : goal.returns
returns c = merge_needs
