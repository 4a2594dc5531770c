use Rattle.page_delta.specs.Delta.{IsLive, Holds}
use Rattle.page_delta.proofs.tests.a_thousand_calls_answer_as_plain_maps.Given as goal

abbrev pub invariant-loop-turn : goal.invariant-loop-turn
invariant-loop-turn g l =
    IsLive l.deltas l.first.id × IsLive l.deltas l.second.id × IsLive l.deltas l.third.id × Holds l.pool l.deltas
