use Rattle.soundness.proofs.StatePieces.{meta_good}
use Rattle.soundness.proofs.laws.state_metas_are_metas.Goals as goal

pub returns : goal.returns
returns c = λ s h. meta_good s h
