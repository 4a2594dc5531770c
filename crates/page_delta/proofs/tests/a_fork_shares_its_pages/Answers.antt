use Rattle.std.proofs.Common.{sym}
use Rattle.page_delta.proofs.Lives.{apart, stays}
use Rattle.page_delta.proofs.tests.a_fork_shares_its_pages.Goals as goal

pub drop_into-requires-2-clause-live : goal.drop_into-requires-2-clause-live
drop_into-requires-2-clause-live g c =
    let other = apart c.forty_pages.new.deltas c.in_ok-first.first c.in_ok-fork.fork c.in_ok-first.ensures.live c.in_ok-fork.ensures.added.fresh in
    stays c.set.new.self c.drop_into.new.self c.in_ok-first.first c.in_ok-fork.fork c.drop_into.ensures.dropped.others (λ same. other (sym same)) c.in_ok-set.ensures.set.live
