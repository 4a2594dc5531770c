use Rattle.std.proofs.Common.{◌+◌, ◌∙◌, ℕ, Ok, ap, refl, subst}
use Rattle.disk_model.specs.OnlyReads.{reads_only_none}
use Rattle.disk_model.specs.Spending.{Spends, spends_looks}
use Rattle.format_spec.specs.Bytes.{Bytes}
use Rattle.state_spec.specs.Root.{root_of}
use Rattle.height_store.specs.KnownLaws.{shown_known}
use Rattle.script_text.specs.declared.command.Command.TheVariants as commands
use Rattle.script_text.specs.declared.reply.Reply.TheVariants as replies
use Rattle.machine_spec.specs.Machine.{outcome_of}
use Rattle.store_spec.specs.Image.{opened_state}
use Rattle.state_manager.proofs.DiskLines.{failed_line, reads_only_line, shown_some, still_line}
use Rattle.state_manager.proofs.Spending.{bytes_there}
use Rattle.state_manager.proofs.Standing.{asks_none, asks_there, at_none, at_some, published_none, stacks_there}
use Rattle.state_manager.proofs.manager.Manager.scratch.Goals as goal

pub load-requires : goal.load-requires
load-requires g c = λ told. stacks_there _ c.args.self.now c.args.at c.in-Some.found.now c.in-Some.ensures (c.requires.over told).readable

pub returns-in_err-state-clause-line : goal.returns-in_err-state-clause-line
returns-in_err-state-clause-line g c = failed_line g.D.Disk.tells c.args.self.now (g.D.Disk.view c.args.disk.now) _ c.from_residual.result (commands.Scratch c.args.at) c.from_residual.ensures.0 c.requires.over (λ told. (_, c.load.ensures.reads_only told))

pub returns-in_err-root-clause-line : goal.returns-in_err-root-clause-line
returns-in_err-root-clause-line g c = failed_line g.D.Disk.tells c.args.self.now (g.D.Disk.view c.args.disk.now) _ c.from_residual-in_err-root.result (commands.Scratch c.args.at) c.from_residual-in_err-root.ensures.0 c.requires.over (λ told. (_, c.load.ensures.reads_only told))

pub returns-in-Some-clause-line : goal.returns-in-Some-clause-line
returns-in-Some-clause-line g c =
    reads_only_line g.D.Disk.tells c.args.self.now (g.D.Disk.view c.args.disk.now) _ (Ok (replies.Scratch c.in_ok-root.field-0)) (commands.Scratch c.args.at) c.requires.over (λ told. (_, c.load.ensures.reads_only told))
    (λ told m k.
    let most = bytes_there c.args.self.now m k.states c.args.at c.in-Some.found.now c.in-Some.ensures in
    subst (λ (n : ℕ). Spends 0 n (g.D.Disk.view c.args.disk.now) (g.D.Disk.view c.load.new.disk)) most (spends_looks _ _ _ (c.load.ensures.reads_only told)))
    (λ told m k.
    let p = shown_some c.args.self.now _ m (g.met.D.Disk.reads_as_image c.args.disk.now told) k c.args.at c.in-Some.found.now c.in-Some.ensures in
    let state = c.in_ok-state.ensures.state told p.published p.related in
    let root = c.in_ok-root.ensures (p.published.height + 1, opened_state p.published) state ∙ (shown_known _ c.in-Some.found.now p.published p.related).same_root in
    asks_there m c.args.at p.published.state p.state (λ s. outcome_of (replies.Scratch (root_of s)) m) (replies.Scratch c.in_ok-root.field-0) (ap (λ (r : Bytes). replies.Scratch r) root) refl)

pub returns-in_err-root-in-Some-state_at-clause-line : goal.returns-in_err-root-in-Some-state_at-clause-line
returns-in_err-root-in-Some-state_at-clause-line g c =
    failed_line g.D.Disk.tells c.args.self.now (g.D.Disk.view c.args.disk.now) (g.D.Disk.view c.args.disk.now) c.from_residual-in_err-root-in-Some-state_at.result (commands.Scratch c.args.at) c.from_residual-in_err-root-in-Some-state_at.ensures.0 c.requires.over (λ told. (0, reads_only_none 0 _))

pub returns-in_ok-root-in-Some-state_at-clause-line : goal.returns-in_ok-root-in-Some-state_at-clause-line
returns-in_ok-root-in-Some-state_at-clause-line g c =
    still_line g.D.Disk.tells c.args.self.now (g.D.Disk.view c.args.disk.now) (Ok (replies.Scratch c.in_ok-root-in-Some-state_at.field-0)) (commands.Scratch c.args.at) c.requires.over (λ m k. refl)
    (λ told m k.
    let n = at_some c.args.self.now m k.states c.args.at c.in-Some-state_at.state.now c.in-Some-state_at.ensures in
    asks_there m c.args.at n.0.1 (published_none c.args.self.now m k.states c.args.at c.in_default.ensures ∙ n.2) (λ s. outcome_of (replies.Scratch (root_of s)) m)
    (replies.Scratch c.in_ok-root-in-Some-state_at.field-0) (ap (λ (r : Bytes). replies.Scratch r) (c.in_ok-root-in-Some-state_at.ensures n.0 n.1)) refl)

pub returns-in-None-clause-line : goal.returns-in-None-clause-line
returns-in-None-clause-line g c =
    still_line g.D.Disk.tells c.args.self.now (g.D.Disk.view c.args.disk.now) _ (commands.Scratch c.args.at) c.requires.over (λ m k. refl)
    (λ told m k. asks_none m c.args.at (published_none c.args.self.now m k.states c.args.at c.in_default.ensures ∙ at_none c.args.self.now m k.states c.args.at c.in-None.ensures) _)
