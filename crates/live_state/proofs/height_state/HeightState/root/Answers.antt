use Rattle.live_state.proofs.Hashed.{root_is}
use Rattle.live_state.proofs.height_state.HeightState.root.Goals as goal

pub returns : goal.returns
returns c = λ k keeps. root_is k.1 _ _ _ (c.in_ok-manifest.ensures.value k keeps) c.in_ok-meta.ensures.value c.root.ensures
