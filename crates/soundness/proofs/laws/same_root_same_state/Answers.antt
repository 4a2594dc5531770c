use Rattle.state_spec.specs.State.{SameState}
use Rattle.state_spec.specs.Root.{hashed_strings}
use Rattle.soundness.proofs.Strings.{or_clash}
use Rattle.soundness.proofs.SameRoot.{same_root}
use Rattle.soundness.proofs.StateBytes.{state_strings}
use Rattle.soundness.proofs.laws.same_root_same_state.Goals as goal

pub returns : goal.returns
returns c = λ s t hs ht e. or_clash (SameState s t) (hashed_strings s) (hashed_strings t) (state_strings s hs) (state_strings t ht) (same_root s t hs ht e)
