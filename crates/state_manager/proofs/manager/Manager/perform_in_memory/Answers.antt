use Rattle.std.proofs.Common.{refl, sym, subst}
use Rattle.script_text.specs.declared.command.Command.{Command}
use Rattle.script_text.specs.declared.command.Command.TheVariants as commands
use Rattle.state_manager.specs.Kept.{ManagerView, KeepsStates, Performs}
use Rattle.live_state.specs.StateKept.{PerformsState}
use Rattle.state_manager.proofs.Onward.{on_live, leaves_put}
use Rattle.state_manager.proofs.manager.Manager.perform_in_memory.Goals as goal

pub returns-in_ok-copy-in-Put-2-clause-step : goal.returns-in_ok-copy-in-Put-2-clause-step
returns-in_ok-copy-in-Put-2-clause-step c = λ m k.
    let kept = subst (λ (h : ManagerView). KeepsStates h m) (sym c.self-in-Put.view_is) k in
    let path = subst (λ p. PerformsState c.put.result c.put.new.self m (commands.Put p c.in_ok-copy-in-Put-2.field-0)) c.in_ok-copy-in-Put.ensures (c.put.ensures m kept.live) in
    let value = subst (λ v. PerformsState c.put.result c.put.new.self m (commands.Put c.in-Put.path v)) c.in_ok-copy-in-Put-2.ensures path in
    let now : ManagerView = record { live = c.put.new.self; memory = c.self-in-Put.inside.memory.items; store = c.self-in-Put.inside.store; stopped = c.self-in-Put.inside.stopped } in
    let done = on_live _ now m (commands.Put c.in-Put.path c.in-Put.value) c.put.result kept refl refl refl (leaves_put (λ n. n.memory) m c.in-Put.path c.in-Put.value refl) (leaves_put (λ n. n.published) m c.in-Put.path c.in-Put.value refl) value in
    subst (λ (command : Command). Performs c.put.result now m command) (sym c.in-Put.is) done
