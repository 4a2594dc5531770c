use Rattle.std.proofs.Common.{ap}
use Rattle.peer_model.specs.Orders.{MemView}
use Rattle.peer_model.proofs.Noted.{fault_counted, failing}
use Rattle.peer_model.proofs.memory.MemPeersPeers.send.Goals as goal

pub returns-then-fails-clause-cause : goal.returns-then-fails-clause-cause
returns-then-fails-clause-cause c =
    fault_counted _ _ _ _ _ (ap (λ (v : MemView). v.faults) c.self.view_is) c.if-fails.true c.is_failing-fails.ensures.cause

pub returns-then-fails-clause-orders : goal.returns-then-fails-clause-orders
returns-then-fails-clause-orders c =
    failing c.is_failing-fails.result _ _ _ c.self.view_is c.if-fails.true c.is_failing-fails.ensures.listed c.is_failing-fails.ensures.calls c.is_failing-fails.ensures.faults c.is_failing-fails.ensures.fails
