use Rattle.std.proofs.Common.{◌≡◌, ◌/◌, ℕ, length, get_or, Some, sym, subst, refl, ap, ◌∙◌, arith}
use Rattle.std.specs.Vec.{vec_len}
use Rattle.format_spec.specs.declared.limits.TheConstants.{PAGE_SIZE}
use Rattle.sys_state.specs.Calls as calls
use Rattle.live_state.specs.StateKept.{StateView, KeepsState, live_of}
use Rattle.live_state.proofs.Grown.{kept_grown}
use Rattle.live_state.proofs.MemoryLines.{step_write, absent_there}
use Rattle.live_state.proofs.Sized.{is_within, has_pages, keeps_write, steps_write, within_write, few_pages}
use Rattle.live_state.proofs.height_state.HeightState.write.Goals as goal

pub returns-in_default : goal.returns-in_default
returns-in_default c = λ m k. absent_there c.args.self.now m k c.args.id.now _ (sym (ap (λ (h : StateView). calls.canister_in h.system c.args.id.now) c.self.view_is) ∙ c.in_default.ensures.found)

pub index_mut-memory-requires : goal.index_mut-memory-requires
index_mut-memory-requires c =
    omega (arith, c.memory_index.ensures, is_within (λ v. v.items) c.self.inside.memories.items c.self.inside.sys c.args.id.now c.in-Ok.place c.args.mem c.self.invariant.sizes c.in-Ok.ensures)

pub write_memory-requires : goal.write_memory-requires
write_memory-requires c =
    let memory = c.index_mut-memory.result.now in
    let count : vec_len memory ≡ length memory.items = omega arith in
    has_pages (λ v. v.items) c.self.inside.memories.items c.self.inside.sys c.self.inside.sys c.args.id.now c.in-Ok.place c.args.mem memory memory c.self.invariant.sizes c.in-Ok.ensures memory (vec_len memory) count
    (c.index_mut-memory.ensures.value ∙ ap (λ (i : ℕ). get_or c.self.inside.memories.items i memory) c.memory_index.ensures) (calls.canister_in c.self.inside.sys c.args.id.now) refl

pub invariant_of-self : goal.invariant_of-self
invariant_of-self c =
    let memory = c.index_mut-memory.result.now in
    let count : vec_len memory ≡ length memory.items = omega arith in
    let pages = has_pages (λ v. v.items) c.self.inside.memories.items c.self.inside.sys c.self.inside.sys c.args.id.now c.in-Ok.place c.args.mem memory memory c.self.invariant.sizes c.in-Ok.ensures memory (vec_len memory) count
    (c.index_mut-memory.ensures.value ∙ ap (λ (i : ℕ). get_or c.self.inside.memories.items i memory) c.memory_index.ensures) (Some c.in-Ok.ensures.value) c.in-Ok.ensures.found in
    record {
      sizes = keeps_write (λ v. v.items) c.self.inside.memories.items c.self.inside.sys c.write_memory.new.sys c.args.id.now c.in-Ok.place c.args.mem memory c.write_memory.new.memory c.self.invariant.sizes c.in-Ok.ensures
          c.memory_index.result c.memory_index.ensures c.index_mut-memory.ensures.value _ c.write_memory.result (vec_len memory / PAGE_SIZE) c.args.offset c.args.bytes.now (omega (arith, pages, count)) c.write_memory.ensures;
      within = within_write (λ v. v.items) c.self.inside.memories.items c.self.inside.sys c.write_memory.new.sys c.args.id.now c.in-Ok.place c.args.mem memory c.write_memory.new.memory c.self.invariant.sizes c.in-Ok.ensures
          c.memory_index.result c.memory_index.ensures c.index_mut-memory.ensures.value c.write_memory.result (vec_len memory / PAGE_SIZE) c.args.offset c.args.bytes.now (omega (arith, pages, count)) c.self.invariant.within c.write_memory.ensures;
      from_one = c.self.invariant.from_one;
      kept = kept_grown _ c.write_memory.result c.self.inside.sys c.write_memory.new.sys c.args.id.now c.args.mem _ _ _ c.self.inside.tree c.write_memory.ensures c.self.invariant.kept;
    }

pub returns : goal.returns
returns c = λ m k.
    let memory = c.index_mut-memory.result.now in
    let count : vec_len memory ≡ length memory.items = omega arith in
    let pages = has_pages (λ v. v.items) c.self.inside.memories.items c.self.inside.sys c.self.inside.sys c.args.id.now c.in-Ok.place c.args.mem memory memory c.self.invariant.sizes c.in-Ok.ensures memory (vec_len memory) count
    (c.index_mut-memory.ensures.value ∙ ap (λ (i : ℕ). get_or c.self.inside.memories.items i memory) c.memory_index.ensures) (Some c.in-Ok.ensures.value) c.in-Ok.ensures.found in
    let few = few_pages (λ v. v.items) c.self.inside.memories.items c.self.inside.sys c.write_memory.new.sys c.args.id.now c.in-Ok.place c.args.mem memory c.write_memory.new.memory c.self.invariant.sizes c.in-Ok.ensures
    c.memory_index.result c.memory_index.ensures c.index_mut-memory.ensures.value (vec_len memory / PAGE_SIZE) (omega (arith, pages, count)) c.self.invariant.within in
    step_write _ _ m (subst (λ (h : StateView). KeepsState h (live_of m)) (sym c.self.view_is) k) (record { height = refl }) c.args.id.now c.args.mem c.args.offset (vec_len memory / PAGE_SIZE) c.args.bytes.now c.in-Ok.ensures.value c.write_memory.new.memory.items c.write_memory.result c.in-Ok.ensures.found
    (omega (arith, pages)) few
    (steps_write (λ v. v.items) c.self.inside.memories.items c.self.inside.sys c.write_memory.new.sys c.args.id.now c.in-Ok.place c.args.mem memory c.write_memory.new.memory c.self.invariant.sizes c.in-Ok.ensures
    c.memory_index.result c.memory_index.ensures c.index_mut-memory.ensures.value _ c.write_memory.result (vec_len memory / PAGE_SIZE) c.args.offset c.args.bytes.now c.write_memory.ensures)
