use Rattle.std.proofs.Common.{◌≡◌}
use Rattle.sync_core.proofs.Numbers.{first_linked}
use Rattle.sync_core.proofs.fresh.all_linked.Given as goal

abbrev pub invariant-loop-number : goal.invariant-loop-number
invariant-loop-number l = l.links ≡ first_linked l.count l.number
