use Rattle.std.proofs.Common.{◌≡◌, length}
use Rattle.slot_links.proofs.tests.a_thousand_calls_answer_as_plain_lists.Given as goal

abbrev pub invariant-loop-turn : goal.invariant-loop-turn
invariant-loop-turn g l = (l.links.items ≡ 8) × (length l.links.members ≡ 3)
