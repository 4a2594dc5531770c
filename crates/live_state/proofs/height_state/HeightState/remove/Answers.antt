use Rattle.std.proofs.Common.{map, sym, subst, refl, arith}
use Rattle.std.proofs.lemmas.List.{length-map}
use Rattle.live_state.specs.StateKept.{StateView, KeepsState, live_of}
use Rattle.sys_state.proofs.Indexed.{pair_for_each}
use Rattle.live_state.proofs.Lines.{step_remove}
use Rattle.live_state.proofs.Sized.{after_remove, within_remove}
use Rattle.live_state.proofs.height_state.HeightState.remove.Goals as goal

pub remove_canister-requires : goal.remove_canister-requires
remove_canister-requires c =
    let all = c.self.inside.memories.items in
    omega (arith, pair_for_each c.self.inside.sys.canisters (map (λ v. v.items) all) c.self.invariant.sizes, length-map all (λ v. v.items))

pub invariant_of-self : goal.invariant_of-self
invariant_of-self c = record {
  sizes = after_remove _ c.remove_canister.result c.self.inside.sys c.remove_canister.new.sys c.args.id.now (map (λ v. v.items) c.self.inside.memories.items) _ c.self.invariant.sizes c.remove_canister.ensures;
  within = within_remove _ c.remove_canister.result c.self.inside.sys c.remove_canister.new.sys c.args.id.now (map (λ v. v.items) c.self.inside.memories.items) _ c.self.invariant.within c.remove_canister.ensures;
  from_one = c.self.invariant.from_one;
  kept = tt;
}

pub returns : goal.returns
returns c = λ m k. step_remove _ _ m (subst (λ (h : StateView). KeepsState h (live_of m)) (sym c.self.view_is) k) (record { height = refl }) c.args.id.now c.remove_canister.result c.remove_canister.ensures
