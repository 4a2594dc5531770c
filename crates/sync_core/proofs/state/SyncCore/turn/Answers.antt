use Rattle.std.proofs.Common.{ℕ, suc, ◌+◌, ◌≡◌, List, map, filter, fold, ◌∙◌, sym, ap, subst, arith}
use Rattle.std.specs.Vec.{vec_capacity}
use Rattle.sync_spec.specs.Core.{Core, with_strike_for_ask, without_ask, is_old, pardoned_strikes, core_after_turn}
use Rattle.sync_core.specs.declared.tried.Wanted.{Wanted}
use Rattle.sync_core.specs.Fresh.{items_of}
use Rattle.sync_core.specs.Views.{all_wanted, HoldsCore}
use Rattle.sync_core.proofs.Slices.{put_back}
use Rattle.sync_core.proofs.Kept.{kept_turn}
use Rattle.sync_core.proofs.Calls.{turn_is}
use Rattle.sync_core.proofs.state.SyncCore.turn.Goals as goal

pub invariant_of-self : goal.invariant_of-self
invariant_of-self c =
    let next = c.self.inside.turn + 1 in
    let n : next ≡ suc c.self.inside.turn = omega arith in
    let struck_back = put_back c.self.inside.strikes.len c.strike_old.new.strikes c.self.inside.strikes.items _ c.deref_mut.ensures.value c.deref_mut.ensures.len c.strike_old.auto.strikes in
    let after = c.strike_old.ensures ∙ ap (λ (s : List ℕ). fold with_strike_for_ask s (filter (is_old next) (all_wanted c.deref.result.now))) c.deref_mut.ensures.value
    ∙ ap (λ (ws : List Wanted). fold with_strike_for_ask c.self.inside.strikes.items (filter (is_old next) (all_wanted ws))) c.deref.ensures.value in
    let tried_back = put_back c.self.inside.tried.len c.give_up_old.new.missing c.self.inside.tried.items _ c.deref_mut-2.ensures.value c.deref_mut-2.ensures.len c.give_up_old.auto.missing in
    let now = ap all_wanted tried_back ∙ c.give_up_old.ensures ∙ ap (λ (ws : List Wanted). map (without_ask (is_old next)) (all_wanted ws)) c.deref_mut-2.ensures.value in
    let pardoned_back = put_back c.self.inside.strikes.len c.pardon.new.strikes _ _ c.deref_mut-3.ensures.value c.deref_mut-3.ensures.len c.pardon.auto.strikes in
    let pardoned = pardoned_back ∙ c.pardon.ensures ∙ ap pardoned_strikes (c.deref_mut-3.ensures.value ∙ struck_back) in
    let e = turn_is (all_wanted c.self.inside.tried.items) _ (items_of c.self.inside.fresh) c.self.inside.strikes.items c.strike_old.new.strikes _ c.self.inside.turn next n after now pardoned in
    subst (λ (k : Core). HoldsCore k (vec_capacity c.self.inside.tried)) (sym e) (kept_turn _ _ c.self.invariant)

pub returns : goal.returns
returns c =
    let next = c.self.inside.turn + 1 in
    let n : next ≡ suc c.self.inside.turn = omega arith in
    let struck_back = put_back c.self.inside.strikes.len c.strike_old.new.strikes c.self.inside.strikes.items _ c.deref_mut.ensures.value c.deref_mut.ensures.len c.strike_old.auto.strikes in
    let after = c.strike_old.ensures ∙ ap (λ (s : List ℕ). fold with_strike_for_ask s (filter (is_old next) (all_wanted c.deref.result.now))) c.deref_mut.ensures.value
    ∙ ap (λ (ws : List Wanted). fold with_strike_for_ask c.self.inside.strikes.items (filter (is_old next) (all_wanted ws))) c.deref.ensures.value in
    let tried_back = put_back c.self.inside.tried.len c.give_up_old.new.missing c.self.inside.tried.items _ c.deref_mut-2.ensures.value c.deref_mut-2.ensures.len c.give_up_old.auto.missing in
    let now = ap all_wanted tried_back ∙ c.give_up_old.ensures ∙ ap (λ (ws : List Wanted). map (without_ask (is_old next)) (all_wanted ws)) c.deref_mut-2.ensures.value in
    let pardoned_back = put_back c.self.inside.strikes.len c.pardon.new.strikes _ _ c.deref_mut-3.ensures.value c.deref_mut-3.ensures.len c.pardon.auto.strikes in
    let pardoned = pardoned_back ∙ c.pardon.ensures ∙ ap pardoned_strikes (c.deref_mut-3.ensures.value ∙ struck_back) in
    let e = turn_is (all_wanted c.self.inside.tried.items) _ (items_of c.self.inside.fresh) c.self.inside.strikes.items c.strike_old.new.strikes _ c.self.inside.turn next n after now pardoned in
    e ∙ ap core_after_turn c.self.view_is
