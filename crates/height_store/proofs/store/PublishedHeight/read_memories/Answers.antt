use Rattle.std.proofs.Common.{◌<◌, ◌+◌, ◌*◌, ℕ, [], length, map, sym, ◌∙◌, ap, subst, arith, Vec, Global}
use Rattle.std.proofs.lemmas.List.{length-map, take_all}
use Rattle.format_spec.specs.declared.limits.TheConstants.{PAGE_SIZE}
use Rattle.state_spec.specs.State.{memory_bytes}
use Rattle.state_spec.specs.Files.{memories_in}
use Rattle.sys_state.specs.System.{part_of}
use Rattle.disk_model.specs.State.{DiskState}
use Rattle.layer_stack.specs.Stacks.{AreLayers}
use Rattle.height_store.specs.Kept.{HasStacks}
use Rattle.height_store.proofs.BytesRead.{reads_next, reads_within}
use Rattle.height_store.proofs.Places.{few_counts, count_fits, own_counts, is_there, read_more, size_here, sizes_all, as_many, own_place, own_bytes}
use Rattle.height_store.proofs.store.PublishedHeight.read_memories.Goals as goal

pub overflow_cast-file : goal.overflow_cast-file
overflow_cast-file g c =
    omega (arith, c.loop-file-test.true, few_counts (part_of c.sys.result.now) c.in_ok-pages.pages.items c.in_ok-pages.ensures.kept.system c.in_ok-pages.ensures.pages)

pub read_memory-requires-clause-at_most : goal.read_memory-requires-clause-at_most
read_memory-requires-clause-at_most g c =
    let lt : c.loop-file.file < length c.in_ok-pages.pages.items = omega (arith, c.loop-file-test.true, c.len-file-end.ensures) in
    count_fits (part_of c.sys.result.now) c.in_ok-pages.pages.items c.loop-file.file c.index.result.now c.in_ok-pages.ensures.pages lt c.index.ensures c.in_ok-pages.ensures.kept.system

pub read_memory-requires-clause-readable : goal.read_memory-requires-clause-readable
read_memory-requires-clause-readable g c = λ told. subst (λ (s : DiskState). HasStacks s.files c.args.self.now) (sym (c.loop-file.invariant.reads_only told).state) (c.requires told)

pub read_memory-requires-clause-there : goal.read_memory-requires-clause-there
read_memory-requires-clause-there g c =
    let lt : c.loop-file.file < length c.in_ok-pages.pages.items = omega (arith, c.loop-file-test.true, c.len-file-end.ensures) in
    is_there (part_of c.args.self.now.system) c.in_ok-pages.pages.items c.loop-file.file c.index.result.now (own_counts c.args.self.now _ _ c.sys.ensures.sys c.in_ok-pages.ensures.pages) lt c.index.ensures

pub returns-in_err-memory-clause-reads_only : goal.returns-in_err-memory-clause-reads_only
returns-in_err-memory-clause-reads_only g c = λ told.
    let lt : c.loop-file.file < length c.in_ok-pages.pages.items = omega (arith, c.loop-file-test.true, c.len-file-end.ensures) in
    reads_within c.args.self.now c.in_ok-pages.pages.items (own_counts c.args.self.now _ _ c.sys.ensures.sys c.in_ok-pages.ensures.pages) (c.loop-file.file + 1) _ _
    (reads_next c.in_ok-pages.pages.items c.loop-file.file c.index.result.now _ _ _ lt c.index.ensures (c.loop-file.invariant.reads_only told) (c.read_memory.ensures.reads_only told))

pub returns-in_err-push-clause-reads_only : goal.returns-in_err-push-clause-reads_only
returns-in_err-push-clause-reads_only g c = λ told.
    let lt : c.loop-file.file < length c.in_ok-pages.pages.items = omega (arith, c.loop-file-test.true, c.len-file-end.ensures) in
    reads_within c.args.self.now c.in_ok-pages.pages.items (own_counts c.args.self.now _ _ c.sys.ensures.sys c.in_ok-pages.ensures.pages) (c.loop-file.file + 1) _ _
    (reads_next c.in_ok-pages.pages.items c.loop-file.file c.index.result.now _ _ _ lt c.index.ensures (c.loop-file.invariant.reads_only told) (c.read_memory.ensures.reads_only told))

pub returns-clause-reads_only : goal.returns-clause-reads_only
returns-clause-reads_only g c = λ told.
    reads_within c.args.self.now c.in_ok-pages.pages.items (own_counts c.args.self.now _ _ c.sys.ensures.sys c.in_ok-pages.ensures.pages) c.loop-file.file _ _ (c.loop-file.invariant.reads_only told)

pub loop-file-preserved : goal.loop-file-preserved
loop-file-preserved g c =
    let pages = c.in_ok-pages.pages.items in
    let file = c.loop-file.file in
    let count = c.index.result.now in
    let lt : file < length pages = omega (arith, c.loop-file-test.true, c.len-file-end.ensures) in
    let files = (g.D.Disk.view c.args.disk.now).state.files in
    let own = own_counts c.args.self.now _ _ c.sys.ensures.sys c.in_ok-pages.ensures.pages in
    let within : file < length (map (λ n. n * PAGE_SIZE) pages) = omega (arith, lt, length-map pages (λ n. n * PAGE_SIZE)) in
    record {
      sizes = read_more (λ (memory : Vec ℕ Global). length memory.items) c.loop-file.memories.items c.push.new.self.items c.in_ok-memory.memory (map (λ n. n * PAGE_SIZE) pages) file 0
          c.in_ok-push.ensures.items within (c.in_ok-memory.ensures.size ∙ size_here pages file count lt c.index.ensures) c.loop-file.invariant.sizes;
      faults = omega (arith, c.read_memory.ensures.cause.never_falls, c.loop-file.invariant.faults);
      reads_only = λ told. reads_next pages file count _ _ _ lt c.index.ensures (c.loop-file.invariant.reads_only told) (c.read_memory.ensures.reads_only told);
      bytes = λ told p shows.
          let place = own_place files c.args.self.now p shows pages own file count lt c.index.ensures in
          let are = subst (λ (s : DiskState). AreLayers s.files place.stack place.own) (sym (c.loop-file.invariant.reads_only told).state) place.are in
          let read = c.in_ok-memory.ensures.bytes told place.stack place.own place.stack_at are in
          read_more (λ (memory : Vec ℕ Global). memory.items) c.loop-file.memories.items c.push.new.self.items c.in_ok-memory.memory (memory_bytes p.state) file []
          c.in_ok-push.ensures.items (omega (arith, lt, as_many files c.args.self.now p shows pages own))
          (own_bytes files c.args.self.now p shows pages own file count lt c.index.ensures c.in_ok-memory.memory.items read) (c.loop-file.invariant.bytes told p shows);
    }

pub returns-clause-sizes : goal.returns-clause-sizes
returns-clause-sizes g c =
    let pages = c.in_ok-pages.pages.items in
    c.loop-file.invariant.sizes
    ∙ take_all c.loop-file.file (map (λ n. n * PAGE_SIZE) pages) (omega (arith, c.loop-file-test.false, length-map pages (λ n. n * PAGE_SIZE)))
    ∙ ap (map (λ n. n * PAGE_SIZE)) (own_counts c.args.self.now _ _ c.sys.ensures.sys c.in_ok-pages.ensures.pages)
    ∙ sizes_all (memories_in (part_of c.args.self.now.system))

pub returns-clause-bytes : goal.returns-clause-bytes
returns-clause-bytes g c = λ told p shows.
    let own = own_counts c.args.self.now _ _ c.sys.ensures.sys c.in_ok-pages.ensures.pages in
    let many = as_many (g.D.Disk.view c.args.disk.now).state.files c.args.self.now p shows c.in_ok-pages.pages.items own in
    c.loop-file.invariant.bytes told p shows ∙ take_all c.loop-file.file (memory_bytes p.state) (omega (arith, c.loop-file-test.false, many))
