use Rattle.std.proofs.Common.{map, ap}
use Rattle.live_state.specs.StateKept.{StateView}
use Rattle.live_state.proofs.Hashed.{fit_kept, parts_kept}
use Rattle.live_state.proofs.height_state.HeightState.count_manifest.Goals as goal

pub returns : goal.returns
returns c = λ k keeps.
    let inside : StateView = record { system = c.self.inside.sys; memories = map (λ v. v.items) c.self.inside.memories.items; height = c.self.inside.height } in
    c.manifest_counts.ensures k.1 keeps.version (parts_kept c.args.self.now c.self.inside.sys k keeps (ap (λ (h : StateView). h.system) c.self.view_is))
    (fit_kept c.args.self.now inside k c.self.view_is keeps c.self.invariant.sizes)
