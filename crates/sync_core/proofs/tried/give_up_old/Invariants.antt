use Rattle.sync_spec.specs.Core.{is_old, without_ask}
use Rattle.sync_core.specs.Views.{wanted_of}
use Rattle.sync_core.proofs.Mapping.{Changed}
use Rattle.sync_core.proofs.tried.give_up_old.Given as goal

abbrev pub invariant-loop-wanted : goal.invariant-loop-wanted
invariant-loop-wanted l = Changed wanted_of (without_ask (is_old l.turn)) l.wanted-index l.missing l.initial.missing
