use Rattle.std.proofs.Common.{◌≡◌, ◌<◌, ◌^◌, length, ◌∙◌, sym, ap, subst, rules}
use Rattle.std.specs.Vec.{vec_capacity}
use Rattle.sync_spec.specs.Core.{Core, with_items, chunks_without}
use Rattle.sync_core.specs.Fresh.{items_of}
use Rattle.sync_core.specs.Views.{all_wanted, HoldsCore}
use Rattle.sync_core.proofs.Kept.{kept_chunks}
use Rattle.sync_core.proofs.Calls.{chunks_is}
use Rattle.sync_core.proofs.state.SyncCore.set_chunks.Goals as goal

pub invariant_of-self : goal.invariant_of-self
invariant_of-self c =
    let none = subst (λ (k : Core). length k.missing ≡ 0) (sym c.self.view_is) c.requires in
    let e = chunks_is (all_wanted c.self.inside.tried.items) (items_of c.self.inside.fresh) c.in_ok-self-inside.field-0.kind _ c.args.count c.args.had.now c.self.inside.strikes.items c.self.inside.turn none c.in_ok-self-inside.ensures.kind c.in_ok-self-inside.ensures.numbers in
    let below : c.args.count < 2 ^ 32 = search rules in
    subst (λ (k : Core). HoldsCore k (vec_capacity c.self.inside.tried)) (sym e) (kept_chunks _ _ c.args.count c.args.had.now below c.self.invariant)

pub returns-clause-chunks : goal.returns-clause-chunks
returns-clause-chunks c =
    let none = subst (λ (k : Core). length k.missing ≡ 0) (sym c.self.view_is) c.requires in
    let e = chunks_is (all_wanted c.self.inside.tried.items) (items_of c.self.inside.fresh) c.in_ok-self-inside.field-0.kind _ c.args.count c.args.had.now c.self.inside.strikes.items c.self.inside.turn none c.in_ok-self-inside.ensures.kind c.in_ok-self-inside.ensures.numbers in
    e ∙ ap (λ (k : Core). with_items k (chunks_without c.args.count c.args.had.now)) c.self.view_is
