use Rattle.page_map.proofs.Lives.{other_live}
use Rattle.page_map.proofs.Written.{apart}
use Rattle.page_map.proofs.tests.a_fork_stays_as_it_was.Goals as goal

pub read-requires-clause-live : goal.read-requires-clause-live
read-requires-clause-live g c =
    other_live c.fork.new.self c.write-2.new.self c.write.new.map.id c.in_ok-fork.fork c.write-2.ensures.others
    (apart c.write.new.self c.write.new.map.id c.in_ok-fork.fork.id c.in_ok-fork.ensures.fresh c.write.ensures.live.live) c.in_ok-fork.ensures.live
