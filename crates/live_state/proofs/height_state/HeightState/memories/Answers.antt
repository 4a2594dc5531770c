use Rattle.std.proofs.Common.{sym}
use Rattle.live_state.proofs.height_state.HeightState.memories.Goals as goal

pub returns-clause-fit : goal.returns-clause-fit
returns-clause-fit c = rw (sym c.self.view_is) c.self.invariant.sizes

pub returns-clause-within : goal.returns-clause-within
returns-clause-within c = rw (sym c.self.view_is) c.self.invariant.within
