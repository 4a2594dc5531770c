use Rattle.std.proofs.Common.{ℕ, List, ◌∙◌, sym, ap, subst}
use Rattle.std.specs.Vec.{vec_capacity}
use Rattle.sync_spec.specs.Core.{Core, with_strike}
use Rattle.sync_core.specs.Fresh.{items_of}
use Rattle.sync_core.specs.Views.{all_wanted, HoldsCore}
use Rattle.sync_core.proofs.Slices.{put_back}
use Rattle.sync_core.proofs.Kept.{kept_unsent}
use Rattle.sync_core.proofs.Calls.{unsent_is}
use Rattle.sync_core.proofs.state.SyncCore.unsent.Goals as goal

pub invariant_of-self : goal.invariant_of-self
invariant_of-self c =
    let back = put_back c.self.inside.strikes.len c.strike.new.strikes c.self.inside.strikes.items _ c.deref_mut.ensures.value c.deref_mut.ensures.len c.strike.auto.strikes in
    let after = back ∙ c.strike.ensures ∙ ap (λ (s : List ℕ). with_strike c.args.peer s) c.deref_mut.ensures.value in
    let e = unsent_is (all_wanted c.self.inside.tried.items) (items_of c.self.inside.fresh) c.self.inside.strikes.items _ c.self.inside.turn c.args.peer after in
    subst (λ (k : Core). HoldsCore k (vec_capacity c.self.inside.tried)) (sym e) (kept_unsent _ c.args.peer _ c.self.invariant)
