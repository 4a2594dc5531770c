use Rattle.std.proofs.Common.{refl, ap, ◌∙◌}
use Rattle.machine_spec.specs.HeightSteps.{tree_root}
use Rattle.format_spec.specs.Bytes.{Bytes}
use Rattle.script_text.specs.declared.command.Command.TheVariants as commands
use Rattle.script_text.specs.declared.reply.Reply.TheVariants as replies
use Rattle.machine_spec.specs.Machine.{outcome_of}
use Rattle.state_manager.proofs.Standing.{at_some, knows_some, line_none, line_some, performs_published, with_tree}
use Rattle.state_manager.proofs.manager.Manager.tree.Goals as goal

pub returns-in-Some-clause-step : goal.returns-in-Some-clause-step
returns-in-Some-clause-step c = λ m k.
    let p = knows_some c.args.self.now m k c.args.at c.in-Some.found.now c.in-Some.ensures in
    performs_published c.args.self.now m k c.args.at (commands.Tree c.args.at) (λ s. replies.Tree (tree_root s)) refl c.in-Some.found.now c.in-Some.ensures c.tree_published.result
    (c.tree_published.ensures p.published p.related)

pub returns-in_ok-tree_root-in-Some-state_at-clause-step : goal.returns-in_ok-tree_root-in-Some-state_at-clause-step
returns-in_ok-tree_root-in-Some-state_at-clause-step c = λ m k.
    let kept = with_tree c.args.self.now c.keep_tree.new.self m c.args.at c.keep_tree.ensures k c.in_default.ensures in
    let n = at_some c.keep_tree.new.self m kept.keeps c.args.at c.in-Some-state_at.state.now c.in-Some-state_at.ensures in
    line_some c.keep_tree.new.self m kept.keeps c.args.at kept.none c.in-Some-state_at.state.now c.in-Some-state_at.ensures (λ s. outcome_of (replies.Tree (tree_root s)) m)
    (replies.Tree c.in_ok-tree_root-in-Some-state_at.field-0) (λ s. refl) (ap (λ (r : Bytes). replies.Tree r) (c.in_ok-tree_root-in-Some-state_at.ensures n.0 n.1))

pub returns-in-None-clause-step : goal.returns-in-None-clause-step
returns-in-None-clause-step c = λ m k.
    let kept = with_tree c.args.self.now c.keep_tree.new.self m c.args.at c.keep_tree.ensures k c.in_default.ensures in
    line_none c.keep_tree.new.self m kept.keeps c.args.at kept.none c.in-None.ensures (λ s. outcome_of (replies.Tree (tree_root s)) m)
