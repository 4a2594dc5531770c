use Rattle.std.proofs.Common.{◌==◌, ◌∙◌, ℕ, Ok, sym, subst, refl}
use Rattle.std.specs.Prelude.{IsTrue}
use Rattle.height_store.specs.Kept.{MatchesFiles}
use Rattle.script_text.specs.declared.command.Command.TheVariants as commands
use Rattle.script_text.specs.declared.reply.Reply.TheVariants as replies
use Rattle.script_text.specs.declared.reply.Refusal.TheVariants as refusals
use Rattle.state_manager.specs.Kept.{ManagerView, DoesLine}
use Rattle.state_manager.proofs.DiskLines.{as_step, failed_line, height_absent, height_there, newest_test, reset_done, reset_low, reset_none, still_line}
use Rattle.state_manager.proofs.manager.Manager.reset.Goals as goal

pub returns-then-not-is_published-clause-line : goal.returns-then-not-is_published-clause-line
returns-then-not-is_published-clause-line g c =
    let over : IsTrue g.D.Disk.tells → MatchesFiles c.self.inside.store (g.D.Disk.view c.args.disk.now).state.files = λ told. subst (λ (h : ManagerView). MatchesFiles h.store (g.D.Disk.view c.args.disk.now).state.files) (sym c.self.view_is) (c.requires.over told) in
    subst (λ (h : ManagerView). DoesLine g.D.Disk.tells h h (g.D.Disk.view c.args.disk.now) (g.D.Disk.view c.args.disk.now) (Ok (replies.Refused refusals.NoHeight)) (commands.Reset c.args.height)) c.self.view_is
    (still_line g.D.Disk.tells _ (g.D.Disk.view c.args.disk.now) (Ok (replies.Refused refusals.NoHeight)) (commands.Reset c.args.height) over (λ m k. refl)
    (λ told m k. as_step (replies.Refused refusals.NoHeight) _ _ m (reset_none m c.args.height (height_absent c.self.inside.store.heights m.published c.args.height k.states.published (sym c.if-not-is_published.ensures))) refl refl))

pub returns-then-not-is_newest-clause-line : goal.returns-then-not-is_newest-clause-line
returns-then-not-is_newest-clause-line g c =
    let over : IsTrue g.D.Disk.tells → MatchesFiles c.self.inside.store (g.D.Disk.view c.args.disk.now).state.files = λ told. subst (λ (h : ManagerView). MatchesFiles h.store (g.D.Disk.view c.args.disk.now).state.files) (sym c.self.view_is) (c.requires.over told) in
    subst (λ (h : ManagerView). DoesLine g.D.Disk.tells h h (g.D.Disk.view c.args.disk.now) (g.D.Disk.view c.args.disk.now) (Ok (replies.Refused refusals.HeightLow)) (commands.Reset c.args.height)) c.self.view_is
    (still_line g.D.Disk.tells _ (g.D.Disk.view c.args.disk.now) (Ok (replies.Refused refusals.HeightLow)) (commands.Reset c.args.height) over (λ m k. refl)
    (λ told m k.
    let s = height_there c.self.inside.store.heights m.published c.args.height k.states.published (sym c.if-not-is_published.ensures) in
    as_step (replies.Refused refusals.HeightLow) _ _ m (reset_low m c.args.height s.0 s.1 (sym (newest_test (λ (n : ℕ). n == c.args.height) c.self.inside.store.heights m.published k.states.published) ∙ sym c.if-not-is_newest.ensures)) refl refl))

pub returns-in_err-self-inside-clause-line : goal.returns-in_err-self-inside-clause-line
returns-in_err-self-inside-clause-line g c = failed_line g.D.Disk.tells c.args.self.now (g.D.Disk.view c.args.disk.now) _ c.from_residual.result (commands.Reset c.args.height) c.from_residual.ensures.0 c.requires.over (λ told. (_, c.begin.ensures.reads_only told))

pub returns-clause-line : goal.returns-clause-line
returns-clause-line g c =
    let over : IsTrue g.D.Disk.tells → MatchesFiles c.self.inside.store (g.D.Disk.view c.args.disk.now).state.files = λ told. subst (λ (h : ManagerView). MatchesFiles h.store (g.D.Disk.view c.args.disk.now).state.files) (sym c.self.view_is) (c.requires.over told) in
    let now : ManagerView = record { live = c.in_ok-self-inside.field-0; memory = c.clear.new.self.items; store = c.self.inside.store; stopped = c.self.inside.stopped } in
    subst (λ (h : ManagerView). DoesLine g.D.Disk.tells h now (g.D.Disk.view c.args.disk.now) (g.D.Disk.view c.begin.new.disk) (Ok replies.Fine) (commands.Reset c.args.height)) c.self.view_is
    (reset_done g.D.Disk.tells _ now (g.D.Disk.view c.args.disk.now) (g.D.Disk.view c.begin.new.disk) c.args.height (λ told. g.met.D.Disk.reads_as_image c.begin.new.disk told) over c.begin.ensures.reads_only (sym c.if-not-is_published.ensures) (sym c.if-not-is_newest.ensures)
    refl refl c.clear.ensures.items (λ told ps each. c.in_ok-self-inside.ensures.state told ps each) (λ told. g.met.D.Disk.reads_as_image c.args.disk.now told))
