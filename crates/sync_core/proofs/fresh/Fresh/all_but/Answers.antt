use Rattle.std.proofs.Common.{◌<◌, ◌∙◌, length, refl, rules}
use Rattle.sync_core.proofs.Numbers.{but_none, but_step}
use Rattle.sync_core.proofs.fresh.Fresh.all_but.Goals as goal

pub loop-number-init : goal.loop-number-init
loop-number-init c = (c.in_ok-fresh.ensures.numbers ∙ but_none c.args.had.now _, c.in_ok-fresh.ensures.kind)

pub loop-number-preserved : goal.loop-number-preserved
loop-number-preserved c =
    let below : c.loop-number.number-index < length c.args.had.now = search rules in (
      but_step c.args.had.now c.loop-number.number-index c.args.count _ _ _ _ c.remove_number.ensures.numbers refl c.loop-number.invariant.0 below,
      c.remove_number.ensures.kind ∙ c.loop-number.invariant.1,
    )
