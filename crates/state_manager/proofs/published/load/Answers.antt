use Rattle.std.proofs.Common.{ℕ, ◌∙◌, ap, map, refl, sym, subst, eqb-true, arith}
use Rattle.state_spec.specs.State.{IsSystem}
use Rattle.sys_state.specs.System.{System, part_of}
use Rattle.sys_state.proofs.Within.{memories_within}
use Rattle.height_store.specs.KnownLaws.{shown_known}
use Rattle.sys_state.specs.Memories.{HaveSizes}
use Rattle.live_state.specs.StateKept.{StateView}
use Rattle.state_manager.proofs.AtHeights.{have_sizes, loaded_kept}
use Rattle.state_manager.proofs.published.load.Goals as goal

pub loaded-requires-clause-sizes : goal.loaded-requires-clause-sizes
loaded-requires-clause-sizes g c =
    subst (λ (s : System). HaveSizes s.canisters (map (λ memory. memory.items) c.in_ok-memories.memories.items)) (sym (c.in_ok-copy.ensures ∙ c.sys.ensures.sys))
    (have_sizes (λ memory. memory.items) c.in_ok-memories.memories.items c.args.found.now.system c.in_ok-memories.ensures.sizes)

pub loaded-requires-clause-within : goal.loaded-requires-clause-within
loaded-requires-clause-within g c =
    let parts = c.sys.ensures.good.parts in
    memories_within 1 (part_of c.args.found.now.system) (map (λ memory. memory.items) c.in_ok-memories.memories.items)
    (have_sizes (λ memory. memory.items) c.in_ok-memories.memories.items c.args.found.now.system c.in_ok-memories.ensures.sizes)
    (subst (λ (v : ℕ). IsSystem v (part_of c.args.found.now.system)) (eqb-true c.args.found.now.mark.version 1 parts.opened) parts.mark.system_good)

pub returns-clause-state : goal.returns-clause-state
returns-clause-state g c = λ told p shows.
    loaded_kept c.args.found.now p (shown_known _ c.args.found.now p shows) c.args.found.now.mark.height refl c.loaded.result
    (ap (λ (x : StateView). x.system) c.loaded.ensures ∙ c.in_ok-copy.ensures ∙ c.sys.ensures.sys)
    (ap (λ (x : StateView). x.memories) c.loaded.ensures ∙ c.in_ok-memories.ensures.bytes told p shows)
    (λ few. ap (λ (x : StateView). x.height) c.loaded.ensures ∙ omega arith)
