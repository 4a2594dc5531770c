use Rattle.std.proofs.Common.{◌+◌, ◌<◌, length, arith, refl}
use Rattle.sync_spec.specs.Core.{is_old, without_ask}
use Rattle.sync_core.specs.Views.{wanted_of}
use Rattle.sync_core.proofs.Mapping.{changed_more}
use Rattle.sync_core.proofs.tried.give_up_old.Goals as goal

pub loop-wanted-preserved : goal.loop-wanted-preserved
loop-wanted-preserved c =
    let below : c.loop-wanted.wanted-index < length c.loop-wanted.missing = omega (arith, c.loop-wanted-test.true, c.loop-wanted.auto.missing, c.loop-wanted.auto.wanted-index-end) in
    changed_more wanted_of (without_ask (is_old c.args.turn)) c.loop-wanted.wanted-index (c.loop-wanted.wanted-index + 1) c.loop-wanted.missing c.args.missing.now c.without_old.result _ refl below c.loop-wanted.invariant c.without_old.ensures
