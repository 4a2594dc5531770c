use Rattle.std.proofs.Common.{Ok, Err, inl, inr, refl, ap}
use Rattle.peer_model.specs.declared.peers.PeerError.TheVariants.{Fault, Memory}
use Rattle.sync_serve.specs.declared.root.RootError.{RootError}
use Rattle.sync_serve.proofs.Asked.{asks_disk, next_bad_is}
use Rattle.sync_serve.proofs.roots.RootPeers.answer.Goals as goal

pub returns-in-Ok-clause-asks : goal.returns-in-Ok-clause-asks
returns-in-Ok-clause-asks g c =
    asks_disk g.D.Disk c.self.inside.roots.items c.args.peer c.index_mut.result.now c.answer.new.self c.index_mut.ensures.value
    (Ok c.in-Ok.answer) c.self.inside.waiting.items c.self.inside.bad c.self.inside.bad c.args.self.now c.self.view_is c.requires.peer
    c.in-Ok.ensures.same c.in-Ok.ensures.never_falls (inl refl) (λ fault. absurd (cc fault))

pub returns-in-Err-Bad-clause-asks : goal.returns-in-Err-Bad-clause-asks
returns-in-Err-Bad-clause-asks g c =
    let more = next_bad_is c.self.inside.bad c.saturating_add-self-inside.result c.saturating_add-self-inside.ensures c.self.ranges.1.1.0.1 in
    let shut = c.in-Err-Bad.ensures.bad (ap (λ (e : RootError). Err e) c.in-Err-Bad.field-0-is) in
    asks_disk g.D.Disk c.self.inside.roots.items c.args.peer c.index_mut.result.now c.answer.new.self c.index_mut.ensures.value
    (Err Fault) c.self.inside.waiting.items c.self.inside.bad c.saturating_add-self-inside.result c.args.self.now c.self.view_is c.requires.peer
    c.in-Err-Bad.ensures.same c.in-Err-Bad.ensures.never_falls (inr (more, refl, shut)) (λ fault. inr (more, shut))

pub returns-in-Err-Fault-clause-asks : goal.returns-in-Err-Fault-clause-asks
returns-in-Err-Fault-clause-asks g c =
    asks_disk g.D.Disk c.self.inside.roots.items c.args.peer c.index_mut.result.now c.answer.new.self c.index_mut.ensures.value
    (Err Fault) c.self.inside.waiting.items c.self.inside.bad c.self.inside.bad c.args.self.now c.self.view_is c.requires.peer
    c.in-Err-Fault.ensures.same c.in-Err-Fault.ensures.never_falls (inl refl) (λ fault. inl (c.in-Err-Fault.ensures.fault (ap (λ (e : RootError). Err e) c.in-Err-Fault.field-0-is)))

pub returns-in-Err-Memory-clause-asks : goal.returns-in-Err-Memory-clause-asks
returns-in-Err-Memory-clause-asks g c =
    asks_disk g.D.Disk c.self.inside.roots.items c.args.peer c.index_mut.result.now c.answer.new.self c.index_mut.ensures.value
    (Err Memory) c.self.inside.waiting.items c.self.inside.bad c.self.inside.bad c.args.self.now c.self.view_is c.requires.peer
    c.in-Err-Memory.ensures.same c.in-Err-Memory.ensures.never_falls (inl refl) (λ fault. absurd (cc fault))
