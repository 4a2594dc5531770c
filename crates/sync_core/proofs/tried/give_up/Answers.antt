use Rattle.std.proofs.Common.{◌&&◌, ◌+◌, ◌<◌, length, arith, refl}
use Rattle.sync_plan.specs.Views.{item_of}
use Rattle.sync_spec.specs.Core.{same_item, without_ask, is_asked_of}
use Rattle.sync_core.specs.Views.{wanted_of}
use Rattle.sync_core.proofs.Mapping.{changed_more}
use Rattle.sync_core.proofs.tried.give_up.Goals as goal

pub loop-wanted-preserved : goal.loop-wanted-preserved
loop-wanted-preserved c =
    let below : c.loop-wanted.wanted-index < length c.loop-wanted.missing = omega (arith, c.loop-wanted-test.true, c.loop-wanted.auto.missing, c.loop-wanted.auto.wanted-index-end) in
    changed_more wanted_of (without_ask (λ w. same_item w.item (item_of c.args.item) && is_asked_of c.args.peer w)) c.loop-wanted.wanted-index
    (c.loop-wanted.wanted-index + 1) c.loop-wanted.missing c.args.missing.now c.without_ask_of.result _ refl below c.loop-wanted.invariant c.without_ask_of.ensures
