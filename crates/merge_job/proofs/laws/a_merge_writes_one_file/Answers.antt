use Rattle.merge_job.proofs.Stepped.{written_once}
use Rattle.merge_job.proofs.laws.a_merge_writes_one_file.Goals as goal

pub returns : goal.returns
returns c = written_once
