use Rattle.std.proofs.Common.{◌&&◌}
use Rattle.sync_plan.specs.Views.{item_of}
use Rattle.sync_spec.specs.Core.{same_item, without_ask, is_asked_of}
use Rattle.sync_core.specs.Views.{wanted_of}
use Rattle.sync_core.proofs.Mapping.{Changed}
use Rattle.sync_core.proofs.tried.give_up.Given as goal

abbrev pub invariant-loop-wanted : goal.invariant-loop-wanted
invariant-loop-wanted l = Changed wanted_of (without_ask (λ w. same_item w.item (item_of l.item) && is_asked_of l.peer w)) l.wanted-index l.missing l.initial.missing
