use Rattle.std.proofs.Common.{ap}
use Rattle.live_state.specs.StateKept.{StateView}
use Rattle.live_state.proofs.Hashed.{parts_kept}
use Rattle.live_state.proofs.height_state.HeightState.witness.Goals as goal

pub returns-in-Some : goal.returns-in-Some
returns-in-Some c = λ k keeps. c.witness_in.ensures k.1 (parts_kept c.args.self.now c.self.inside.sys k keeps (ap (λ (h : StateView). h.system) c.self.view_is))

pub returns-in-None : goal.returns-in-None
returns-in-None c = λ k keeps. c.witness_of.ensures k.1 (parts_kept c.args.self.now c.self.inside.sys k keeps (ap (λ (h : StateView). h.system) c.self.view_is))
