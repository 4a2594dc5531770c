use Rattle.std.proofs.Common.{sym}
use Rattle.page_map.proofs.Lives.{other_live}
use Rattle.page_map.proofs.Written.{apart}
use Rattle.page_map.proofs.tests.a_map_that_is_given_up_leaves_its_fork.Goals as goal

pub give_up-requires : goal.give_up-requires
give_up-requires g c =
    other_live c.restack.new.self c.fork.new.self c.in_ok-fork.fork.id c.restack.new.map c.in_ok-fork.ensures.others
    (λ same. apart c.restack.new.self c.restack.new.map.id c.in_ok-fork.fork.id c.in_ok-fork.ensures.fresh c.restack.ensures.live.live (sym same)) c.restack.ensures.live

pub read-requires-clause-live : goal.read-requires-clause-live
read-requires-clause-live g c =
    other_live c.fork.new.self c.give_up.new.self c.restack.new.map.id c.in_ok-fork.fork c.give_up.ensures.others
    (apart c.restack.new.self c.restack.new.map.id c.in_ok-fork.fork.id c.in_ok-fork.ensures.fresh c.restack.ensures.live.live) c.in_ok-fork.ensures.live
