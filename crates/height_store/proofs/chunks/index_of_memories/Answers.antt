use Rattle.std.proofs.Common.{◌∙◌, ◌*◌, ◌++◌, ℕ, List, get_or, refl, ap, subst, arith}
use Rattle.std.proofs.lemmas.Slice.Zip.{AllZip-long}
use Rattle.format_spec.specs.declared.limits.TheConstants.{PAGE_SIZE}
use Rattle.state_spec.specs.Manifest.{ChunkRow}
use Rattle.store_spec.specs.Mark.{MarkMemory}
use Rattle.chunk_index.specs.Index.{Indexes, rows_of}
use Rattle.height_store.proofs.ChunkRows.{FitsCount, few_hashes, memory_turn}
use Rattle.height_store.proofs.chunks.index_of_memories.Goals as goal

pub bounds-pages-i : goal.bounds-pages-i
bounds-pages-i c = omega (arith, c.loop-i-test.true, AllZip-long FitsCount c.args.mems.now c.args.pages.now c.requires.sums)

pub overflow_cast-i : goal.overflow_cast-i
overflow_cast-i c = omega (arith, c.loop-i-test.true, AllZip-long FitsCount c.args.mems.now c.args.pages.now c.requires.sums, c.requires.few)

pub with_file-requires : goal.with_file-requires
with_file-requires c =
    few_hashes c.args.mems.now c.args.pages.now c.loop-i.i c.index-mems-i.result (get_or c.args.pages.now c.loop-i.i 0) c.loop-i-test.true c.index-mems-i.is refl c.requires.sums c.deref.result.now (c.deref.ensures.value ∙ ap (λ (m : MarkMemory). m.sums) c.mem.view_is) (omega (arith, c.type_inv.pages c.loop-i.i))

pub loop-i-preserved : goal.loop-i-preserved
loop-i-preserved c =
    memory_turn c.args.mems.now c.args.pages.now c.loop-i.i c.index-mems-i.result (get_or c.args.pages.now c.loop-i.i 0) c.loop-i-test.true c.index-mems-i.is refl c.requires.sums c.loop-i.index c.in_ok-index.index c.deref.result.now (c.deref.ensures.value ∙ ap (λ (m : MarkMemory). m.sums) c.mem.view_is)
    (subst (λ (n : ℕ). (rows : List ChunkRow) → Indexes c.loop-i.index rows → Indexes c.in_ok-index.index (rows ++ rows_of c.loop-i.i (n * PAGE_SIZE) c.deref.result.now)) c.from.ensures c.in_ok-index.ensures)
    c.loop-i.invariant
