use Rattle.std.proofs.Common.{◌≡◌, List, map, sym, subst, refl}
use Rattle.std.proofs.lemmas.Result.{on_ok_weaker, on_err_weaker}
use Rattle.format_spec.specs.Bytes.{Bytes}
use Rattle.sys_state.specs.Calls as calls
use Rattle.live_state.specs.StateKept.{StateView, KeepsState, live_of}
use Rattle.live_state.proofs.Lines.{step_put}
use Rattle.live_state.proofs.Stepped.{from_answers}
use Rattle.live_state.proofs.height_state.HeightState.put.Goals as goal

pub returns : goal.returns
returns c = λ m k.
    let memories : List Bytes = map (λ v. v.items) c.self.inside.memories.items in
    step_put _ _ m (subst (λ (h : StateView). KeepsState h (live_of m)) (sym c.self.view_is) k) (record { height = refl }) c.args.path c.args.value c.reply_to.result
    (from_answers (calls.put_refusal c.self.inside.sys c.args.path) c.put.result c.reply_to.result ((c.put.new.self ≡ calls.with_entry c.self.inside.sys c.args.path c.args.value) × (memories ≡ memories))
    ((c.put.new.self ≡ c.self.inside.sys) × (memories ≡ memories)) c.put.ensures.answer c.reply_to.ensures
    (on_ok_weaker c.put.result (λ x. (x, refl)) c.put.ensures.put) (on_err_weaker c.put.result (λ x. (x, refl)) c.put.ensures.unchanged))
