use Rattle.std.proofs.Common.{◌∙◌, arith}
use Rattle.sys_state.specs.System.{part_of}
use Rattle.manifest.proofs.Counting.{few, by_sizes, by_state}
use Rattle.manifest.proofs.counts.count.Goals as goal

pub counts_of-requires-clause-memories : goal.counts_of-requires-clause-memories
counts_of-requires-clause-memories c =
    let f = few c.args.sys.now c.args.system.now c.memory_sizes-sizes.ensures.kept c.requires in
    omega (arith, f.memories, c.memory_sizes-sizes.ensures.memories)

pub counts_of-requires-clause-rows : goal.counts_of-requires-clause-rows
counts_of-requires-clause-rows c =
    let f = few c.args.sys.now c.args.system.now c.memory_sizes-sizes.ensures.kept c.requires in
    omega (arith, f.rows, c.memory_sizes-sizes.ensures.rows)

pub counts_of-requires-clause-chunks : goal.counts_of-requires-clause-chunks
counts_of-requires-clause-chunks c =
    let f = few c.args.sys.now c.args.system.now c.memory_sizes-sizes.ensures.kept c.requires in
    omega (arith, f.chunks, c.memory_sizes-sizes.ensures.chunks)

pub counts_of-requires-clause-more : goal.counts_of-requires-clause-more
counts_of-requires-clause-more c =
    let f = few c.args.sys.now c.args.system.now c.memory_sizes-sizes.ensures.kept c.requires in
    omega (arith, f.text_chunks, c.chunk_count-more.ensures.value)

pub returns-clause-sizes : goal.returns-clause-sizes
returns-clause-sizes c =
    c.counts_of.ensures ∙ by_sizes (part_of c.args.sys.now) c.args.system.now _ _ _ _ c.requires c.memory_sizes-sizes.ensures.memories c.memory_sizes-sizes.ensures.rows c.memory_sizes-sizes.ensures.chunks c.chunk_count-more.ensures.value

pub returns-clause-state : goal.returns-clause-state
returns-clause-state c = λ s one kept fit.
    c.counts_of.ensures ∙ by_sizes (part_of c.args.sys.now) c.args.system.now _ _ _ _ c.requires c.memory_sizes-sizes.ensures.memories c.memory_sizes-sizes.ensures.rows c.memory_sizes-sizes.ensures.chunks c.chunk_count-more.ensures.value
    ∙ by_state s c.args.sys.now one kept fit
