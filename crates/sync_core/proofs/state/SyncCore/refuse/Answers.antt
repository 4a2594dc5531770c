use Rattle.std.proofs.Common.{ℕ, List, map, ◌&&◌, ◌∙◌, sym, ap, subst}
use Rattle.std.specs.Vec.{vec_capacity}
use Rattle.sync_plan.specs.Views.{item_of}
use Rattle.sync_spec.specs.Core.{Core, with_strike, without_ask, same_item, is_asked_of, core_after_fault}
use Rattle.sync_core.specs.declared.tried.Wanted.{Wanted}
use Rattle.sync_core.specs.Fresh.{items_of}
use Rattle.sync_core.specs.Views.{all_wanted, HoldsCore}
use Rattle.sync_core.proofs.Slices.{put_back}
use Rattle.sync_core.proofs.Kept.{kept_fault}
use Rattle.sync_core.proofs.Calls.{fault_is}
use Rattle.sync_core.proofs.state.SyncCore.refuse.Goals as goal

pub invariant_of-self : goal.invariant_of-self
invariant_of-self c =
    let item = item_of c.args.item in
    let tried_back = put_back c.self.inside.tried.len c.give_up.new.missing c.self.inside.tried.items _ c.deref_mut.ensures.value c.deref_mut.ensures.len c.give_up.auto.missing in
    let now = ap all_wanted tried_back ∙ c.give_up.ensures ∙ ap (λ (ws : List Wanted). map (without_ask (λ w. same_item w.item item && is_asked_of c.args.peer w)) (all_wanted ws)) c.deref_mut.ensures.value in
    let strikes_back = put_back c.self.inside.strikes.len c.strike.new.strikes c.self.inside.strikes.items _ c.deref_mut-2.ensures.value c.deref_mut-2.ensures.len c.strike.auto.strikes in
    let after = strikes_back ∙ c.strike.ensures ∙ ap (λ (s : List ℕ). with_strike c.args.peer s) c.deref_mut-2.ensures.value in
    let e = fault_is (all_wanted c.self.inside.tried.items) _ (items_of c.self.inside.fresh) c.self.inside.strikes.items _ c.self.inside.turn c.args.peer item now after in
    subst (λ (k : Core). HoldsCore k (vec_capacity c.self.inside.tried)) (sym e) (kept_fault _ c.args.peer item _ c.self.invariant)

pub returns : goal.returns
returns c =
    let item = item_of c.args.item in
    let tried_back = put_back c.self.inside.tried.len c.give_up.new.missing c.self.inside.tried.items _ c.deref_mut.ensures.value c.deref_mut.ensures.len c.give_up.auto.missing in
    let now = ap all_wanted tried_back ∙ c.give_up.ensures ∙ ap (λ (ws : List Wanted). map (without_ask (λ w. same_item w.item item && is_asked_of c.args.peer w)) (all_wanted ws)) c.deref_mut.ensures.value in
    let strikes_back = put_back c.self.inside.strikes.len c.strike.new.strikes c.self.inside.strikes.items _ c.deref_mut-2.ensures.value c.deref_mut-2.ensures.len c.strike.auto.strikes in
    let after = strikes_back ∙ c.strike.ensures ∙ ap (λ (s : List ℕ). with_strike c.args.peer s) c.deref_mut-2.ensures.value in
    fault_is (all_wanted c.self.inside.tried.items) _ (items_of c.self.inside.fresh) c.self.inside.strikes.items _ c.self.inside.turn c.args.peer item now after
    ∙ ap (λ (k : Core). core_after_fault k c.args.peer item) c.self.view_is
