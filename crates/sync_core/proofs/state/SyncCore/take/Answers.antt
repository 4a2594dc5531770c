use Rattle.std.proofs.Common.{◌≤◌, ◌∙◌, sym, ap, subst, arith}
use Rattle.std.specs.Vec.{vec_capacity}
use Rattle.sync_plan.specs.Views.{item_of}
use Rattle.sync_spec.specs.Core.{Core, core_without_item}
use Rattle.sync_core.specs.Fresh.{items_of}
use Rattle.sync_core.specs.Views.{all_wanted, HoldsCore}
use Rattle.sync_core.proofs.Kept.{kept_had, more_room}
use Rattle.sync_core.proofs.Parts.{fresh_alone}
use Rattle.sync_core.proofs.Calls.{had_is}
use Rattle.sync_core.proofs.state.SyncCore.take.Goals as goal

pub invariant_of-self : goal.invariant_of-self
invariant_of-self c =
    let item = item_of c.args.item in
    let ws = all_wanted c.self.inside.tried.items in
    let is = items_of c.self.inside.fresh in
    let alone = fresh_alone ws is item (sym c.remove.ensures.was ∙ c.if-remove.true) (c.self.invariant.good.once item) in
    let e = had_is ws ws is _ c.self.inside.strikes.items c.self.inside.turn item alone c.remove.ensures.items in
    subst (λ (k : Core). HoldsCore k (vec_capacity c.self.inside.tried)) (sym e) (kept_had _ item _ c.self.invariant)

pub returns-then-remove : goal.returns-then-remove
returns-then-remove c =
    let item = item_of c.args.item in
    let ws = all_wanted c.self.inside.tried.items in
    let is = items_of c.self.inside.fresh in
    let alone = fresh_alone ws is item (sym c.remove.ensures.was ∙ c.if-remove.true) (c.self.invariant.good.once item) in
    had_is ws ws is _ c.self.inside.strikes.items c.self.inside.turn item alone c.remove.ensures.items
    ∙ ap (λ (k : Core). core_without_item k item) c.self.view_is

pub invariant_of-self-2 : goal.invariant_of-self-2
invariant_of-self-2 c =
    let item = item_of c.args.item in
    let e = had_is (all_wanted c.self.inside.tried.items) _ (items_of c.self.inside.fresh) _ c.self.inside.strikes.items c.self.inside.turn item c.remove-2.ensures.items c.remove.ensures.items in
    let room : vec_capacity c.self.inside.tried ≤ vec_capacity c.remove-2.new.missing = omega (arith, c.remove-2.ensures.room) in
    subst (λ (k : Core). HoldsCore k (vec_capacity c.remove-2.new.missing)) (sym e) (kept_had _ item _ (more_room _ _ _ room c.self.invariant))

pub returns : goal.returns
returns c =
    let item = item_of c.args.item in
    had_is (all_wanted c.self.inside.tried.items) _ (items_of c.self.inside.fresh) _ c.self.inside.strikes.items c.self.inside.turn item c.remove-2.ensures.items c.remove.ensures.items
    ∙ ap (λ (k : Core). core_without_item k item) c.self.view_is
