use Rattle.std.proofs.Common.{◌≡◌, refl, ap, ◌*◌, ◌∙◌, arith}
use Rattle.sha2.specs.Sha256.{add_state, compress}
use Rattle.sha2.proofs.Schedule256.{IsWindow_first}
use Rattle.hash_lanes.specs.Lanes.{lane, window}
use Rattle.hash_lanes.proofs.rounds.compress.Goals as goal

pub schedule-init : goal.schedule-init
schedule-init c j b lt block =
    let win = IsWindow_first b (window j c.args.words) refl block in
    (win, c.first_rounds-v.ensures j b lt win)

pub schedule-preserved : goal.schedule-preserved
schedule-preserved c j b lt block =
    c.sixteen_steps-next.ensures j b (lane j c.args.state.now) lt (c.schedule.invariant j b lt block)

pub returns : goal.returns
unfolding compress
returns c = λ j b lt block.
    let done : 16 * c.schedule.turn ≡ 64 = omega (arith, c.schedule.auto.turn-end (omega arith)) in
    c.add_state-sum.ensures j lt ∙ ap (add_state (lane j c.args.state.now)) (rw done at (c.schedule.invariant j b lt block).1)
