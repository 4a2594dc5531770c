use Rattle.sync_core.proofs.Numbers.{first_sound}
use Rattle.sync_core.proofs.fresh.Fresh.all.Goals as goal

pub invariant_of-result : goal.invariant_of-result
invariant_of-result c = record { sound = first_sound c.in_ok-all_linked.field-0 c.args.count c.in_ok-all_linked.ensures }
