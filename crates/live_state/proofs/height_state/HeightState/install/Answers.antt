use Rattle.std.proofs.Common.{◌≡◌, List, map, sym, subst, refl}
use Rattle.std.proofs.lemmas.Result.{on_ok_weaker, on_err_weaker}
use Rattle.format_spec.specs.Bytes.{Bytes}
use Rattle.sys_state.specs.Calls as calls
use Rattle.live_state.specs.StateKept.{StateView, KeepsState, live_of}
use Rattle.live_state.proofs.Lines.{step_module}
use Rattle.live_state.proofs.Stepped.{from_answer}
use Rattle.live_state.proofs.height_state.HeightState.install.Goals as goal

pub returns : goal.returns
returns c = λ m k.
    let memories : List Bytes = map (λ v. v.items) c.self.inside.memories.items in
    step_module _ _ m (subst (λ (h : StateView). KeepsState h (live_of m)) (sym c.self.view_is) k) (record { height = refl }) c.args.id.now c.args.module c.reply_to.result
    (from_answer (calls.find_refusal c.self.inside.sys c.args.id.now) c.set_module.result c.reply_to.result ((calls.Changes c.self.inside.sys c.set_module.new.self c.args.id.now (calls.with_module c.args.module)) × (memories ≡ memories))
    ((c.set_module.new.self ≡ c.self.inside.sys) × (memories ≡ memories)) c.set_module.ensures.answer c.reply_to.ensures
    (on_ok_weaker c.set_module.result (λ x. (x, refl)) c.set_module.ensures.changed) (on_err_weaker c.set_module.result (λ x. (x, refl)) c.set_module.ensures.unchanged))
