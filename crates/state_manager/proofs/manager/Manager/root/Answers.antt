use Rattle.std.proofs.Common.{refl, ap, ◌∙◌}
use Rattle.state_spec.specs.Root.{root_of}
use Rattle.format_spec.specs.Bytes.{Bytes}
use Rattle.script_text.specs.declared.reply.Reply.TheVariants as replies
use Rattle.machine_spec.specs.Machine.{outcome_of}
use Rattle.state_manager.proofs.Standing.{at_some, knows_some, line_none, line_published, line_some}
use Rattle.state_manager.proofs.manager.Manager.root.Goals as goal

pub returns-in-Some : goal.returns-in-Some
returns-in-Some c = λ m k.
    let p = knows_some c.args.self.now m k c.args.at c.in-Some.found.now c.in-Some.ensures in
    line_published c.args.self.now m k c.args.at c.in-Some.found.now c.in-Some.ensures (λ s. outcome_of (replies.Root (root_of s)) m) c.root_published.result (λ s. refl)
    (c.root_published.ensures p.published p.related)

pub returns-in_ok-root-in-Some-state_at : goal.returns-in_ok-root-in-Some-state_at
returns-in_ok-root-in-Some-state_at c = λ m k.
    let n = at_some c.args.self.now m k c.args.at c.in-Some-state_at.state.now c.in-Some-state_at.ensures in
    line_some c.args.self.now m k c.args.at c.in_default.ensures c.in-Some-state_at.state.now c.in-Some-state_at.ensures (λ s. outcome_of (replies.Root (root_of s)) m)
    (replies.Root c.in_ok-root-in-Some-state_at.field-0) (λ s. refl) (ap (λ (r : Bytes). replies.Root r) (c.in_ok-root-in-Some-state_at.ensures n.0 n.1))

pub returns-in-None : goal.returns-in-None
returns-in-None c = λ m k. line_none c.args.self.now m k c.args.at c.in_default.ensures c.in-None.ensures (λ s. outcome_of (replies.Root (root_of s)) m)
