use Rattle.std.proofs.Common.{refl, ap, ◌∙◌, ◌==◌, ◌≤◌, not, Ok, sym, subst}
use Rattle.std.specs.Prelude.{find}
use Rattle.format_spec.specs.declared.limits.TheConstants.{MAX_HEIGHT}
use Rattle.live_state.specs.StateKept.{StateView}
use Rattle.machine_spec.specs.Machine.{Machine}
use Rattle.script_text.specs.declared.command.Command.TheVariants as commands
use Rattle.script_text.specs.declared.reply.Reply.TheVariants as replies
use Rattle.script_text.specs.declared.reply.Refusal.TheVariants as refusals
use Rattle.state_manager.proofs.Onward.{forgets, forgets_none}
use Rattle.state_manager.specs.Kept.{ManagerView, KeepsStates, Performs}
use Rattle.state_manager.proofs.manager.Manager.forget.Goals as goal
use Rattle.format_spec.proofs.Lists.{all_filtered}

pub returns-in-Some-clause-step : goal.returns-in-Some-clause-step
returns-in-Some-clause-step c = λ m k.
    forgets _ _ m (subst (λ (h : ManagerView). KeepsStates h m) (sym c.self.view_is) k) c.args.height _ (c.in-Some.ensures ∙ ap (find (λ a. a.height == c.args.height)) c.deref.ensures.value) refl refl refl c.drop_height.ensures

pub returns-in-None-clause-step : goal.returns-in-None-clause-step
returns-in-None-clause-step c =
    subst (λ (h : ManagerView). (m : Machine) → KeepsStates h m → Performs (Ok (replies.Refused refusals.NoHeight)) h m (commands.Forget c.args.height)) c.self.view_is
    (λ m k. forgets_none _ m k c.args.height (c.in-None.ensures ∙ ap (find (λ a. a.height == c.args.height)) c.deref.ensures.value))

pub invariant_of-self : goal.invariant_of-self
invariant_of-self c = rw c.drop_height.ensures (all_filtered (λ (state : StateView). state.height ≤ MAX_HEIGHT) (λ state. not (state.height == c.args.height)) c.self.inside.memory.items c.self.invariant)
