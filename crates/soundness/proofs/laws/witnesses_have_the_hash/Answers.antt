use Rattle.soundness.proofs.Witnesses.{witness_hash}
use Rattle.soundness.proofs.laws.witnesses_have_the_hash.Goals as goal

pub returns : goal.returns
returns c = λ s ps. witness_hash s ps
