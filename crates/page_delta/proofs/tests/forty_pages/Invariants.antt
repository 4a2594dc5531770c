use Rattle.page_delta.specs.Delta.{IsLive, Holds}
use Rattle.page_delta.proofs.tests.forty_pages.Given as goal

abbrev pub invariant-loop-page : goal.invariant-loop-page
invariant-loop-page l = IsLive l.deltas l.id × Holds l.pool l.deltas
