use Rattle.std.proofs.Common.{◌∙◌, List, length, map, Some, ap, sym, subst, arith}
use Rattle.std.specs.Prelude.{IfOk}
use Rattle.state_spec.specs.Manifest.{ChunkRow}
use Rattle.store_spec.specs.Mark.{Mark}
use Rattle.sys_state.specs.System.{part_of}
use Rattle.mark_file.proofs.Wholes.{mark_fits}
use Rattle.chunk_index.specs.Index.{Indexes}
use Rattle.height_store.proofs.Places.{few_counts}
use Rattle.height_store.proofs.ChunkRows.{memories_fit, mark_rows, system_few}
use Rattle.height_store.proofs.chunks.index_of.Goals as goal

pub index_of_memories-requires-clause-few : goal.index_of_memories-requires-clause-few
index_of_memories-requires-clause-few c = few_counts (part_of c.args.sys.now) c.deref-2.result.now c.requires.system_good (c.deref-2.ensures.value ∙ c.in_ok-pages.ensures.pages)

pub index_of_memories-requires-clause-sums : goal.index_of_memories-requires-clause-sums
index_of_memories-requires-clause-sums c =
    memories_fit c.args.mark.now (part_of c.args.sys.now) c.deref.result.now c.deref-2.result.now c.requires (c.deref.ensures.value ∙ ap (λ (m : Mark). m.memories) c.mark.view_is) (c.deref-2.ensures.value ∙ c.in_ok-pages.ensures.pages)

pub overflow_cast-len : goal.overflow_cast-len
overflow_cast-len c = omega (arith, c.len.ensures, ap length c.deref-2.ensures.value, few_counts (part_of c.args.sys.now) c.deref-2.result.now c.requires.system_good (c.deref-2.ensures.value ∙ c.in_ok-pages.ensures.pages))

pub with_file-requires : goal.with_file-requires
with_file-requires c =
    omega (arith, system_few c.args.mark.now (part_of c.args.sys.now) c.deref-4.result.now c.requires (c.deref-4.ensures.value ∙ c.in_ok-sums.ensures ∙ ap (map Some) (c.deref-3.ensures.value ∙ ap (λ (m : Mark). m.system_sums) c.mark.view_is)), (mark_fits c.args.mark.now (part_of c.args.sys.now) c.requires).system)

pub returns : goal.returns
returns c =
    subst (λ (all : List ChunkRow). IfOk c.with_file.result (λ index. Indexes index all))
    (mark_rows c.args.mark.now (part_of c.args.sys.now) c.deref.result.now c.deref-2.result.now _ _ _ c.requires
    (c.deref.ensures.value ∙ ap (λ (m : Mark). m.memories) c.mark.view_is) (c.deref-2.ensures.value ∙ c.in_ok-pages.ensures.pages) (c.len.ensures ∙ sym c.deref-2.ensures.len) (ap length (c.bytes.ensures.value ∙ ap (λ (m : Mark). m.system) c.mark.view_is)) (c.deref-4.ensures.value ∙ c.in_ok-sums.ensures ∙ ap (map Some) (c.deref-3.ensures.value ∙ ap (λ (m : Mark). m.system_sums) c.mark.view_is)))
    (c.with_file.ensures _ c.in_ok-index.ensures)
