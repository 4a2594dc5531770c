use Rattle.std.proofs.Common.{◌≡◌, ◌≤◌, List, [], ◌∷◌, map, find, option_map, Some, None, refl, ◌∙◌, sym, ap, subst, arith}
use Rattle.std.specs.Vec.{vec_capacity}
use Rattle.std.proofs.lemmas.List.{map-append, length-map}
use Rattle.sync_plan.specs.Views.{item_of}
use Rattle.sync_spec.specs.Core as spec
use Rattle.sync_spec.specs.Core.{Core, is_unasked, next_ask, with_ask_now, core_after_send}
use Rattle.sync_core.specs.declared.tried.Wanted.{Wanted}
use Rattle.sync_core.specs.Fresh.{items_of}
use Rattle.sync_core.specs.Views.{wanted_of, all_wanted, HoldsCore}
use Rattle.sync_core.proofs.Slices.{put_back}
use Rattle.sync_core.proofs.Kept.{kept_sent, more_room}
use Rattle.sync_core.proofs.Calls.{is_found, is_not_found, sent_tried_is, sent_fresh_is, room_for_next}
use Rattle.sync_core.proofs.state.SyncCore.sent.Goals as goal

pub invariant_of-self : goal.invariant_of-self
invariant_of-self c =
    let item = item_of c.args.item in
    let ws = all_wanted c.self.inside.tried.items in
    let due = subst (λ (k : Core). next_ask k ≡ Some (c.args.peer, item)) (sym c.self.view_is) c.requires in
    let found = is_found item_of (λ (w : spec.Wanted). w.item) (Some c.in-Some.field-0) (find is_unasked ws) (c.in-Some.ensures ∙ ap (λ (xs : List Wanted). option_map (λ w. w.item) (find is_unasked (all_wanted xs))) c.deref.ensures.value) refl in
    let tried_back = put_back c.self.inside.tried.len c.ask_for.new.missing c.self.inside.tried.items _ c.deref_mut.ensures.value c.deref_mut.ensures.len c.ask_for.auto.missing in
    let now = ap all_wanted tried_back ∙ c.ask_for.ensures ∙ ap (λ (xs : List Wanted). map (with_ask_now c.args.peer item c.self.inside.turn) (all_wanted xs)) c.deref_mut.ensures.value in
    let e = sent_tried_is ws _ (items_of c.self.inside.fresh) c.self.inside.strikes.items c.self.inside.turn c.args.peer item found.0 found.1 due c.self.invariant.good now in
    subst (λ (k : Core). HoldsCore k (vec_capacity c.self.inside.tried)) (sym e) (kept_sent _ c.args.peer item _ due c.self.invariant)

pub returns-in-Some : goal.returns-in-Some
returns-in-Some c =
    let item = item_of c.args.item in
    let ws = all_wanted c.self.inside.tried.items in
    let due = subst (λ (k : Core). next_ask k ≡ Some (c.args.peer, item)) (sym c.self.view_is) c.requires in
    let found = is_found item_of (λ (w : spec.Wanted). w.item) (Some c.in-Some.field-0) (find is_unasked ws) (c.in-Some.ensures ∙ ap (λ (xs : List Wanted). option_map (λ w. w.item) (find is_unasked (all_wanted xs))) c.deref.ensures.value) refl in
    let tried_back = put_back c.self.inside.tried.len c.ask_for.new.missing c.self.inside.tried.items _ c.deref_mut.ensures.value c.deref_mut.ensures.len c.ask_for.auto.missing in
    let now = ap all_wanted tried_back ∙ c.ask_for.ensures ∙ ap (λ (xs : List Wanted). map (with_ask_now c.args.peer item c.self.inside.turn) (all_wanted xs)) c.deref_mut.ensures.value in
    let e = sent_tried_is ws _ (items_of c.self.inside.fresh) c.self.inside.strikes.items c.self.inside.turn c.args.peer item found.0 found.1 due c.self.invariant.good now in
    e ∙ ap (λ (k : Core). core_after_send k c.args.peer item) c.self.view_is

pub push-requires : goal.push-requires
push-requires c =
    let item = item_of c.args.item in
    let ws = all_wanted c.self.inside.tried.items in
    let due = subst (λ (k : Core). next_ask k ≡ Some (c.args.peer, item)) (sym c.self.view_is) c.requires in
    let none = is_not_found item_of (λ (w : spec.Wanted). w.item) None (find is_unasked ws) (c.in-None.ensures ∙ ap (λ (xs : List Wanted). option_map (λ w. w.item) (find is_unasked (all_wanted xs))) c.deref.ensures.value) refl in
    let few = room_for_next ws (items_of c.self.inside.fresh) c.self.inside.strikes.items c.self.inside.turn c.args.peer item none due c.self.invariant.good in
    let long = length-map c.self.inside.tried.items wanted_of in
    omega (arith, few, long, c.self.invariant.enough)

pub invariant_of-self-in-None : goal.invariant_of-self-in-None
invariant_of-self-in-None c =
    let item = item_of c.args.item in
    let ws = all_wanted c.self.inside.tried.items in
    let due = subst (λ (k : Core). next_ask k ≡ Some (c.args.peer, item)) (sym c.self.view_is) c.requires in
    let none = is_not_found item_of (λ (w : spec.Wanted). w.item) None (find is_unasked ws) (c.in-None.ensures ∙ ap (λ (xs : List Wanted). option_map (λ w. w.item) (find is_unasked (all_wanted xs))) c.deref.ensures.value) refl in
    let now = ap all_wanted c.push.ensures.items ∙ map-append wanted_of c.self.inside.tried.items (_ ∷ []) in
    let e = sent_fresh_is ws _ (items_of c.self.inside.fresh) _ c.self.inside.strikes.items c.self.inside.turn c.args.peer item none due c.self.invariant.good now c.remove.ensures.items in
    let room : vec_capacity c.self.inside.tried ≤ vec_capacity c.push.new.missing = omega (arith, c.push.ensures.room) in
    subst (λ (k : Core). HoldsCore k (vec_capacity c.push.new.missing)) (sym e) (kept_sent _ c.args.peer item _ due (more_room _ _ _ room c.self.invariant))

pub returns-in-None : goal.returns-in-None
returns-in-None c =
    let item = item_of c.args.item in
    let ws = all_wanted c.self.inside.tried.items in
    let due = subst (λ (k : Core). next_ask k ≡ Some (c.args.peer, item)) (sym c.self.view_is) c.requires in
    let none = is_not_found item_of (λ (w : spec.Wanted). w.item) None (find is_unasked ws) (c.in-None.ensures ∙ ap (λ (xs : List Wanted). option_map (λ w. w.item) (find is_unasked (all_wanted xs))) c.deref.ensures.value) refl in
    let now = ap all_wanted c.push.ensures.items ∙ map-append wanted_of c.self.inside.tried.items (_ ∷ []) in
    let e = sent_fresh_is ws _ (items_of c.self.inside.fresh) _ c.self.inside.strikes.items c.self.inside.turn c.args.peer item none due c.self.invariant.good now c.remove.ensures.items in
    e ∙ ap (λ (k : Core). core_after_send k c.args.peer item) c.self.view_is
