use Rattle.sync_plan.specs.Views.{item_of}
use Rattle.sync_spec.specs.Core.{with_ask_now}
use Rattle.sync_core.specs.Views.{wanted_of}
use Rattle.sync_core.proofs.Mapping.{Changed}
use Rattle.sync_core.proofs.tried.ask_for.Given as goal

abbrev pub invariant-loop-wanted : goal.invariant-loop-wanted
invariant-loop-wanted l = Changed wanted_of (with_ask_now l.peer (item_of l.item) l.turn) l.wanted-index l.missing l.initial.missing
