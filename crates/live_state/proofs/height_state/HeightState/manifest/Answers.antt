use Rattle.live_state.proofs.height_state.HeightState.manifest.Goals as goal

pub from_scratch-requires-clause-fit : goal.from_scratch-requires-clause-fit
from_scratch-requires-clause-fit c = rw c.deref.ensures.value c.self.invariant.sizes
