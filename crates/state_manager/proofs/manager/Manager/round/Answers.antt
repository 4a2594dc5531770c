use Rattle.std.proofs.Common.{refl, ap, ◌∙◌, ◌+◌, ◌∷◌, ◌++◌, [], Ok, sym, subst, arith}
use Rattle.machine_spec.specs.Machine.{Machine}
use Rattle.script_text.specs.declared.command.Command.TheVariants as commands
use Rattle.script_text.specs.declared.reply.Reply.TheVariants as replies
use Rattle.script_text.specs.declared.reply.Refusal.TheVariants as refusals
use Rattle.state_manager.proofs.Onward.{round_high, round_many, rounds}
use Rattle.state_manager.specs.Kept.{ManagerView, KeepsStates, Performs}
use Rattle.live_state.specs.StateKept.{StateView, KeepsState, live_of}
use Rattle.state_manager.proofs.manager.Manager.round.Goals as goal

pub returns-then-len-ge-MAX_HEIGHTS-clause-step : goal.returns-then-len-ge-MAX_HEIGHTS-clause-step
returns-then-len-ge-MAX_HEIGHTS-clause-step c =
    subst (λ (h : ManagerView). (m : Machine) → KeepsStates h m → Performs (Ok (replies.Refused refusals.ManyHeights)) h m commands.Round) c.self.view_is
    (λ m k. round_many _ m k (omega arith))

pub returns-then-height-gt-MAX_HEIGHT-clause-step : goal.returns-then-height-gt-MAX_HEIGHT-clause-step
returns-then-height-gt-MAX_HEIGHT-clause-step c =
    subst (λ (h : ManagerView). (m : Machine) → KeepsStates h m → Performs (Ok (replies.Refused refusals.HeightLimit)) h m commands.Round) c.self.view_is
    (λ m k. round_high _ m k (omega arith) (omega arith))

pub returns-clause-step : goal.returns-clause-step
returns-clause-step c = λ m k.
    let kept = subst (λ (h : ManagerView). KeepsStates h m) (sym c.self.view_is) k in
    let live = subst (λ (h : StateView). KeepsState h (live_of m)) (sym c.keep_tree.ensures) kept.live in
    rounds _ _ m kept (omega arith) (omega arith) _ _ c.height-height.ensures.value (c.in_ok-tree.ensures (live_of m) live) refl refl
    (c.in_ok-push.ensures.items ∙ ap (λ (a : StateView). c.self.inside.memory.items ++ a ∷ []) (c.in_ok-copy.ensures.copy ∙ c.keep_tree.ensures))
    (c.advance.ensures ∙ ap (λ (a : StateView). record a { height = a.height + 1 }) (c.copy.ensures.same ∙ c.keep_tree.ensures))
