use Rattle.std.proofs.Common.{◌∙◌, Ok, ap, refl}
use Rattle.std.proofs.lemmas.Result.{IfOk-weaker}
use Rattle.disk_model.specs.OnlyReads.{reads_only_none}
use Rattle.script_text.specs.declared.command.Command.TheVariants as commands
use Rattle.machine_spec.specs.LiveSteps.{read_reply}
use Rattle.machine_spec.specs.Machine.{outcome_of}
use Rattle.state_manager.proofs.DiskLines.{failed_line, reads_only_line, shown_some, still_line}
use Rattle.state_manager.proofs.Spending.{read_spends}
use Rattle.state_manager.proofs.Standing.{asks_none, asks_there, at_none, at_some, published_none, stacks_there}
use Rattle.state_manager.proofs.manager.Manager.read.Goals as goal

pub read_published-requires : goal.read_published-requires
read_published-requires g c = λ told. stacks_there _ c.args.self.now c.args.at c.in-Some.found.now c.in-Some.ensures (c.requires.over told).readable

pub returns-in-Some-clause-line : goal.returns-in-Some-clause-line
returns-in-Some-clause-line g c =
    reads_only_line g.D.Disk.tells c.args.self.now (g.D.Disk.view c.args.disk.now) _ c.read_published.result (commands.Read c.args.at c.args.id.now c.args.mem c.args.offset c.args.len) c.requires.over (λ told. (_, c.read_published.ensures.reads_only told))
    (λ told m k.
    let p = shown_some c.args.self.now _ m (g.met.D.Disk.reads_as_image c.args.disk.now told) k c.args.at c.in-Some.found.now c.in-Some.ensures in
    read_spends m c.args.at p.published.state p.on_disk c.args.id.now c.args.mem c.args.offset c.args.len _ _ c.read_published.result (c.read_published.ensures.told told)
    (c.read_published.ensures.reply told p.published p.related))
    (λ told m k.
    let p = shown_some c.args.self.now _ m (g.met.D.Disk.reads_as_image c.args.disk.now told) k c.args.at c.in-Some.found.now c.in-Some.ensures in
    IfOk-weaker c.read_published.result _ _ (λ reply is. asks_there m c.args.at p.published.state p.state (λ s. outcome_of (read_reply s c.args.id.now c.args.mem c.args.offset c.args.len) m) reply is refl)
    (c.read_published.ensures.reply told p.published p.related))

pub returns-in_err-read-in-Some-state_at-clause-line : goal.returns-in_err-read-in-Some-state_at-clause-line
returns-in_err-read-in-Some-state_at-clause-line g c =
    failed_line g.D.Disk.tells c.args.self.now (g.D.Disk.view c.args.disk.now) (g.D.Disk.view c.args.disk.now) c.from_residual.result (commands.Read c.args.at c.args.id.now c.args.mem c.args.offset c.args.len) c.from_residual.ensures.0 c.requires.over (λ told. (0, reads_only_none 0 _))

pub returns-in_ok-read-in-Some-state_at-clause-line : goal.returns-in_ok-read-in-Some-state_at-clause-line
returns-in_ok-read-in-Some-state_at-clause-line g c =
    still_line g.D.Disk.tells c.args.self.now (g.D.Disk.view c.args.disk.now) (Ok c.in_ok-read-in-Some-state_at.field-0) (commands.Read c.args.at c.args.id.now c.args.mem c.args.offset c.args.len) c.requires.over (λ m k. refl)
    (λ told m k.
    let n = at_some c.args.self.now m k.states c.args.at c.in-Some-state_at.state.now c.in-Some-state_at.ensures in
    asks_there m c.args.at n.0.1 (published_none c.args.self.now m k.states c.args.at c.in_default.ensures ∙ n.2) (λ s. outcome_of (read_reply s c.args.id.now c.args.mem c.args.offset c.args.len) m) c.in_ok-read-in-Some-state_at.field-0 (c.in_ok-read-in-Some-state_at.ensures n.0 n.1) refl)

pub returns-in-None-clause-line : goal.returns-in-None-clause-line
returns-in-None-clause-line g c =
    still_line g.D.Disk.tells c.args.self.now (g.D.Disk.view c.args.disk.now) _ (commands.Read c.args.at c.args.id.now c.args.mem c.args.offset c.args.len) c.requires.over (λ m k. refl)
    (λ told m k. asks_none m c.args.at (published_none c.args.self.now m k.states c.args.at c.in_default.ensures ∙ at_none c.args.self.now m k.states c.args.at c.in-None.ensures) _)
