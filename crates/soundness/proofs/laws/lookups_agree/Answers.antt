use Rattle.soundness.proofs.Witnessed.{lookups_tell}
use Rattle.soundness.proofs.laws.lookups_agree.Goals as goal

pub returns : goal.returns
returns c = λ t u path hashes t_bytes whole ordered u_bytes same. lookups_tell t u path hashes t_bytes whole ordered u_bytes same
