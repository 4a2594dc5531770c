use Rattle.soundness.proofs.Witnessed.{witness_tells}
use Rattle.soundness.proofs.laws.checked_witness.Goals as goal

pub returns : goal.returns
returns c = λ text t s path bytes read good same. witness_tells text t s path bytes read good same
