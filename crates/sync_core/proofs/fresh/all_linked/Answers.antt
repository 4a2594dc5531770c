use Rattle.sync_core.proofs.Numbers.{not_linked, one_more}
use Rattle.sync_core.proofs.fresh.all_linked.Goals as goal

pub push_back-requires-clause-unlinked : goal.push_back-requires-clause-unlinked
push_back-requires-clause-unlinked c = not_linked c.loop-number.links c.args.count c.loop-number.number c.loop-number.invariant

pub loop-number-preserved : goal.loop-number-preserved
loop-number-preserved c = one_more c.loop-number.links c.push_back.new.self c.args.count c.loop-number.number c.loop-number.invariant c.push_back.ensures
