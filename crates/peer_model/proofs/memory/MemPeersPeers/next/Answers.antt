use Rattle.std.proofs.Common.{◌∷◌, [], refl, ap}
use Rattle.sync_spec.specs.Events.{came}
use Rattle.peer_model.specs.declared.calls.Look.TheVariants.{Came}
use Rattle.peer_model.specs.Orders.{MemView}
use Rattle.peer_model.proofs.Noted.{look_noted, fault_counted, failing}
use Rattle.peer_model.proofs.memory.MemPeersPeers.next.Goals as goal

pub returns-then-is_failing-clause-cause : goal.returns-then-is_failing-clause-cause
returns-then-is_failing-clause-cause c =
    fault_counted _ _ _ _ _ (ap (λ (v : MemView). v.faults) c.self.view_is) c.if-is_failing.true c.is_failing.ensures.cause

pub returns-then-is_failing-clause-orders : goal.returns-then-is_failing-clause-orders
returns-then-is_failing-clause-orders c =
    failing c.is_failing.result _ _ _ c.self.view_is c.if-is_failing.true c.is_failing.ensures.listed c.is_failing.ensures.calls c.is_failing.ensures.faults c.is_failing.ensures.fails

pub returns-clause-records : goal.returns-clause-records
returns-clause-records c = record {
  entries = came c.in-Some.peer c.in-Some.message ∷ [];
  found = (c.in-Some.peer, c.in-Some.message, c.place-taken.ensures, refl);
  given = look_noted c.self.inside.looks.items _ _ (Came c.in-Some.peer c.in-Some.message) _ c.reserve.ensures.items c.note_look-2.ensures (ap (λ (v : MemView). v.told.given) c.self.view_is);
  asked = ap (λ (v : MemView). v.told.asked) c.self.view_is;
}
