use Rattle.std.proofs.Common.{Ok, map, ap, ◌∙◌}
use Rattle.sync_serve.specs.Roots.{RootsView}
use Rattle.sync_serve.proofs.Asked.{disk_of, asks_failed, error_is, counted, counted_on, behind}
use Rattle.peer_model.specs.declared.peers.PeerError.TheVariants.{Memory}
use Rattle.sync_serve.proofs.roots.RootPeersPeers.send.Goals as goal

pub returns-in_err-answer-clause-asks : goal.returns-in_err-answer-clause-asks
returns-in_err-answer-clause-asks g c =
    asks_failed g.D.Disk c.args.peer c.in_err-answer.field-0.0 c.from_residual.result c.args.self.now c.answer.new.self
    (error_is c.from_residual.result c.in_err-answer.field-0.0 c.from_residual.ensures.1) c.in_err-answer.ensures.asks

pub returns-in_err-answer-clause-cause : goal.returns-in_err-answer-clause-cause
returns-in_err-answer-clause-cause g c =
    counted g.D.Disk c.args.peer c.from_residual.result c.args.self.now c.answer.new.self
    (asks_failed g.D.Disk c.args.peer c.in_err-answer.field-0.0 c.from_residual.result c.args.self.now c.answer.new.self
    (error_is c.from_residual.result c.in_err-answer.field-0.0 c.from_residual.ensures.1) c.in_err-answer.ensures.asks)

pub returns-in_err-push_back-clause-cause : goal.returns-in_err-push_back-clause-cause
returns-in_err-push_back-clause-cause g c =
    counted_on g.D.Disk c.args.peer (Ok c.in_ok-answer.answer) c.args.self.now c.answer.new.self c.in_ok-answer.ensures.asks
    (record { disks = map disk_of c.self.inside.roots.items; waiting = c.push_back.new.self.items; bad = c.self.inside.bad }) _
    (ap (λ (v : RootsView g.row.D.Denot). v.disks) c.self.view_is) (ap (λ (v : RootsView g.row.D.Denot). v.bad) c.self.view_is)
    (λ fault. absurd (cc (fault, error_is c.from_residual-in_err-push_back.result Memory c.from_residual-in_err-push_back.ensures.1)))

pub returns-clause-serves : goal.returns-clause-serves
returns-clause-serves g c = λ told disk there ps stands. (
  c.in_ok-answer.answer,
  c.in_ok-answer.ensures.serves told disk there ps stands,
  behind c.args.self.now.waiting c.push_back.new.self.items c.self.inside.waiting.items (c.args.peer, c.in_ok-answer.answer) c.in_ok-push_back.ensures.items
      (ap (λ (v : RootsView g.row.D.Denot). v.waiting) c.self.view_is ∙ c.in_ok-answer.ensures.waiting),
)

pub returns-clause-cause : goal.returns-clause-cause
returns-clause-cause g c =
    counted_on g.D.Disk c.args.peer (Ok c.in_ok-answer.answer) c.args.self.now c.answer.new.self c.in_ok-answer.ensures.asks
    (record { disks = map disk_of c.self.inside.roots.items; waiting = c.push_back.new.self.items; bad = c.self.inside.bad }) _
    (ap (λ (v : RootsView g.row.D.Denot). v.disks) c.self.view_is) (ap (λ (v : RootsView g.row.D.Denot). v.bad) c.self.view_is)
    (λ fault. absurd (cc fault))
