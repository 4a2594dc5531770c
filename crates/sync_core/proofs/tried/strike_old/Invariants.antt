use Rattle.std.proofs.Common.{◌≡◌, fold, filter, take}
use Rattle.sync_spec.specs.Core.{is_old, with_strike_for_ask}
use Rattle.sync_core.specs.Views.{all_wanted}
use Rattle.sync_core.proofs.tried.strike_old.Given as goal

abbrev pub invariant-loop-wanted : goal.invariant-loop-wanted
invariant-loop-wanted l = l.strikes ≡ fold with_strike_for_ask l.initial.strikes (filter (is_old l.turn) (all_wanted (take l.wanted-index l.missing)))
