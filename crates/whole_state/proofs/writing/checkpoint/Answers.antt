use Rattle.std.proofs.Common.{length, sum_by, refl, ◌∙◌, ◌<◌, ℕ, map, ap, sym, subst, arith, inl, Vec, Global}
use Rattle.std.proofs.lemmas.List.{length-map}
use Rattle.std.specs.List.{AllByRecursion}
use Rattle.format_spec.specs.Bytes.{Bytes}
use Rattle.store_spec.specs.Mark.{mark_text}
use Rattle.sys_state.specs.System.{part_of}
use Rattle.sys_state.proofs.Within.{system_within}
use Rattle.store_spec.specs.Whole.{file_bytes}
use Rattle.disk_model.specs.Moments.{at_start, then}
use Rattle.disk_model.specs.Writing.{write_done, write_failed, write_stopped}
use Rattle.height_store.specs.Laws.{kept_stands}
use Rattle.disk_model.specs.declared.name.Name.TheVariants.{Draft}
use Rattle.height_store.specs.Kept.{IsWritable}
use Rattle.height_store.specs.Store.{StoredHeight, numbers_of}
use Rattle.whole_state.specs.Whole.{whole}
use Rattle.whole_state.proofs.Made.{memories_good, memories_few, fits_mark, all_kept}
use Rattle.whole_state.proofs.Giving.{readable_kept, files_written, mark_written}
use Rattle.whole_state.proofs.Spent.{whole_spent}
use Rattle.whole_state.proofs.Standing.{stands_on, publishes, given_bounds}
use Rattle.whole_state.proofs.writing.checkpoint.Goals as goal

abbrev bytes : Vec ℕ Global → Bytes
bytes memory = memory.items

pub returns-in_err-system-clause-images : goal.returns-in_err-system-clause-images
returns-in_err-system-clause-images g c = λ told ps s parts settled keeps. at_start _ _ (λ image now. inl (kept_stands _ _ ps keeps image now))

pub mark_of-requires-clause-good : goal.mark_of-requires-clause-good
mark_of-requires-clause-good g c = system_within 1 (part_of c.args.sys.now) (map bytes c.args.memories.now) c.requires.fit c.encode.ensures.system c.requires.within

pub write_memories-requires-clause-memories : goal.write_memories-requires-clause-memories
write_memories-requires-clause-memories g c = memories_good (part_of c.args.sys.now) (map bytes c.args.memories.now) c.encode.ensures.system c.requires.fit

pub write_memories-requires-clause-few : goal.write_memories-requires-clause-few
write_memories-requires-clause-few g c = omega (arith, memories_few (part_of c.args.sys.now) (map bytes c.args.memories.now) c.encode.ensures.system c.requires.fit, length-map c.args.memories.now bytes)

pub returns-in_err-stacks-clause-numbers_given : goal.returns-in_err-stacks-clause-numbers_given
returns-in_err-stacks-clause-numbers_given g c =
    given_bounds bytes c.args.memories.now c.args.store.now c.write_memories.new.store (memories_few (part_of c.args.sys.now) (map bytes c.args.memories.now) c.encode.ensures.system c.requires.fit) c.write_memories.ensures.store

pub returns-in_err-stacks-clause-images : goal.returns-in_err-stacks-clause-images
returns-in_err-stacks-clause-images g c = λ told ps s parts settled keeps.
    stands_on c.args.store.now c.write_memories.new.store _ _ ps _ (g.met.D.Disk.reads_as_image c.args.disk.now told) (c.requires.readable told) (c.requires.writable told).room (c.write_memories.ensures.writes.only told).touches keeps

pub returns-in_err-mark-clause-numbers_given : goal.returns-in_err-mark-clause-numbers_given
returns-in_err-mark-clause-numbers_given g c =
    given_bounds bytes c.args.memories.now c.args.store.now c.write_memories.new.store (memories_few (part_of c.args.sys.now) (map bytes c.args.memories.now) c.encode.ensures.system c.requires.fit) c.write_memories.ensures.store

pub returns-in_err-mark-clause-images : goal.returns-in_err-mark-clause-images
returns-in_err-mark-clause-images g c = λ told ps s parts settled keeps.
    stands_on c.args.store.now c.write_memories.new.store _ _ ps _ (g.met.D.Disk.reads_as_image c.args.disk.now told) (c.requires.readable told) (c.requires.writable told).room (c.write_memories.ensures.writes.only told).touches keeps

pub publish-requires-clause-good : goal.publish-requires-clause-good
publish-requires-clause-good g c = (
  part_of c.args.sys.now,
  fits_mark c.in_ok-mark.mark (part_of c.args.sys.now) (map bytes c.args.memories.now) c.in_ok-stacks.stacks.items c.in_ok-mark.ensures.mark c.in_ok-mark.ensures.version
      (c.in_ok-mark.ensures.layers ∙ ap (map numbers_of) c.deref.ensures.value) c.requires.fit c.in_ok-stacks.ensures.whole,
)

pub publish-requires-clause-above : goal.publish-requires-clause-above
publish-requires-clause-above g c =
    subst (λ (n : ℕ). AllByRecursion (λ (h : StoredHeight). h.mark.height < n) c.write_memories.new.store.heights) (sym c.in_ok-mark.ensures.height)
    (subst (AllByRecursion (λ (h : StoredHeight). h.mark.height < c.args.height)) (sym c.write_memories.ensures.store.heights) c.requires.above)

pub publish-requires-clause-kept : goal.publish-requires-clause-kept
publish-requires-clause-kept g c = λ told. all_kept _ (map bytes c.args.memories.now) c.in_ok-stacks.stacks.items (c.in_ok-stacks.ensures.finished told)

pub publish-requires-clause-readable : goal.publish-requires-clause-readable
publish-requires-clause-readable g c = λ told.
    readable_kept (length c.args.memories.now) c.args.store.now c.write_memories.new.store _ _ c.write_memories.ensures.store (c.write_memories.ensures.writes.only told).touches.reads (c.requires.writable told).room (c.requires.readable told)

pub publish-requires-clause-writable : goal.publish-requires-clause-writable
publish-requires-clause-writable g c = λ told.
    subst (λ (n : ℕ). IsWritable c.write_memories.new.store n (g.D.Disk.view c.write_memories.new.disk).state.files) (sym c.in_ok-mark.ensures.height)
    (record { room = c.in_ok-stacks.ensures.room told; no_draft = (c.write_memories.ensures.writes.only told).touches.reads (Draft c.args.height) refl ∙ (c.requires.writable told).no_draft })

pub returns-clause-writable : goal.returns-clause-writable
returns-clause-writable g c = λ told n writable.
    c.in_ok-publish.ensures.writable told n (record { room = c.in_ok-stacks.ensures.room told; no_draft = (c.write_memories.ensures.writes.only told).touches.reads (Draft n) refl ∙ writable.no_draft })

pub returns-in_err-publish-clause-numbers_given : goal.returns-in_err-publish-clause-numbers_given
returns-in_err-publish-clause-numbers_given g c =
    let given = given_bounds bytes c.args.memories.now c.args.store.now c.write_memories.new.store (memories_few (part_of c.args.sys.now) (map bytes c.args.memories.now) c.encode.ensures.system c.requires.fit) c.write_memories.ensures.store in
    record { least = omega (arith, c.publish.ensures.numbers_given, given.least); most = omega (arith, c.publish.ensures.numbers_given, given.most) }

pub returns-clause-numbers_given : goal.returns-clause-numbers_given
returns-clause-numbers_given g c =
    let given = given_bounds bytes c.args.memories.now c.args.store.now c.write_memories.new.store (memories_few (part_of c.args.sys.now) (map bytes c.args.memories.now) c.encode.ensures.system c.requires.fit) c.write_memories.ensures.store in
    record { least = omega (arith, c.publish.ensures.numbers_given, given.least); most = omega (arith, c.publish.ensures.numbers_given, given.most) }

pub returns-in_err-publish-clause-images : goal.returns-in_err-publish-clause-images
returns-in_err-publish-clause-images g c = λ told ps s parts settled keeps.
    then _ _ _ _
    (stands_on c.args.store.now c.write_memories.new.store _ _ ps _ (g.met.D.Disk.reads_as_image c.args.disk.now told) (c.requires.readable told) (c.requires.writable told).room (c.write_memories.ensures.writes.only told).touches keeps)
    (publishes c.args.store.now c.write_memories.new.store _ _ c.args.sys.now (map bytes c.args.memories.now) c.in_ok-stacks.stacks.items c.in_ok-mark.mark c.args.height ps s
    (c.publish.ensures.images told ps (part_of c.args.sys.now) (whole c.args.height s))
    (record {
      sound = g.met.D.Disk.reads_as_image c.args.disk.now told;
      readable = c.requires.readable told;
      room = (c.requires.writable told).room;
      heights = c.write_memories.ensures.store.heights;
      touches = (c.write_memories.ensures.writes.only told).touches;
      settled = (c.in_ok-stacks.ensures.writes.only told).settles;
      finished = c.in_ok-stacks.ensures.finished told;
      whole = c.in_ok-stacks.ensures.whole;
      good = c.in_ok-mark.ensures.mark;
      one = c.in_ok-mark.ensures.version;
      is_height = c.in_ok-mark.ensures.height;
      layers = c.in_ok-mark.ensures.layers ∙ ap (map numbers_of) c.deref.ensures.value;
      sums = c.in_ok-mark.ensures.sums;
      fit = c.requires.fit;
    })
    parts settled keeps)

pub returns-clause-images : goal.returns-clause-images
returns-clause-images g c = λ told ps s parts settled keeps.
    then _ _ _ _
    (stands_on c.args.store.now c.write_memories.new.store _ _ ps _ (g.met.D.Disk.reads_as_image c.args.disk.now told) (c.requires.readable told) (c.requires.writable told).room (c.write_memories.ensures.writes.only told).touches keeps)
    (publishes c.args.store.now c.write_memories.new.store _ _ c.args.sys.now (map bytes c.args.memories.now) c.in_ok-stacks.stacks.items c.in_ok-mark.mark c.args.height ps s
    (c.publish.ensures.images told ps (part_of c.args.sys.now) (whole c.args.height s))
    (record {
      sound = g.met.D.Disk.reads_as_image c.args.disk.now told;
      readable = c.requires.readable told;
      room = (c.requires.writable told).room;
      heights = c.write_memories.ensures.store.heights;
      touches = (c.write_memories.ensures.writes.only told).touches;
      settled = (c.in_ok-stacks.ensures.writes.only told).settles;
      finished = c.in_ok-stacks.ensures.finished told;
      whole = c.in_ok-stacks.ensures.whole;
      good = c.in_ok-mark.ensures.mark;
      one = c.in_ok-mark.ensures.version;
      is_height = c.in_ok-mark.ensures.height;
      layers = c.in_ok-mark.ensures.layers ∙ ap (map numbers_of) c.deref.ensures.value;
      sums = c.in_ok-mark.ensures.sums;
      fit = c.requires.fit;
    })
    parts settled keeps)

pub returns-clause-stands : goal.returns-clause-stands
returns-clause-stands g c = λ told ps s parts settled keeps.
    publishes c.args.store.now c.write_memories.new.store _ _ c.args.sys.now (map bytes c.args.memories.now) c.in_ok-stacks.stacks.items c.in_ok-mark.mark c.args.height ps s
    (c.in_ok-publish.ensures.stands told ps (part_of c.args.sys.now) (whole c.args.height s))
    (record {
      sound = g.met.D.Disk.reads_as_image c.args.disk.now told;
      readable = c.requires.readable told;
      room = (c.requires.writable told).room;
      heights = c.write_memories.ensures.store.heights;
      touches = (c.write_memories.ensures.writes.only told).touches;
      settled = (c.in_ok-stacks.ensures.writes.only told).settles;
      finished = c.in_ok-stacks.ensures.finished told;
      whole = c.in_ok-stacks.ensures.whole;
      good = c.in_ok-mark.ensures.mark;
      one = c.in_ok-mark.ensures.version;
      is_height = c.in_ok-mark.ensures.height;
      layers = c.in_ok-mark.ensures.layers ∙ ap (map numbers_of) c.deref.ensures.value;
      sums = c.in_ok-mark.ensures.sums;
      fit = c.requires.fit;
    })
    parts settled keeps

pub returns-in_err-stacks-clause-writes : goal.returns-in_err-stacks-clause-writes
returns-in_err-stacks-clause-writes g c =
    write_failed g.D.Disk c.write_memories.result _ _ _ (sum_by file_bytes (map bytes c.args.memories.now)) _ _ _ c.from_residual-in_err-stacks.ensures.1 c.in_err-stacks.was (omega arith)
    (files_written g.D.Disk _ c.args.store.now c.write_memories.new.store c.args.height _ _ _ c.write_memories.ensures.writes)

pub returns-in_err-mark-clause-writes : goal.returns-in_err-mark-clause-writes
returns-in_err-mark-clause-writes g c =
    write_stopped g.D.Disk c.write_memories.result _ _ (sum_by file_bytes (map bytes c.args.memories.now)) _ _ _ c.from_residual-in_err-mark.ensures.1 (omega arith)
    (files_written g.D.Disk _ c.args.store.now c.write_memories.new.store c.args.height _ _ _ c.write_memories.ensures.writes)

pub returns-in_err-publish-clause-writes : goal.returns-in_err-publish-clause-writes
returns-in_err-publish-clause-writes g c =
    let memories = map bytes c.args.memories.now in
    write_failed g.D.Disk c.publish.result _ _ _ _ _ _ _ c.from_residual-in_err-publish.ensures.1 c.in_err-publish.was (omega arith)
    (mark_written g.D.Disk _ c.publish.result c.args.store.now c.write_memories.new.store c.args.height _ (sum_by file_bytes memories) (length (mark_text c.in_ok-mark.mark)) _ _ _ _ refl c.in_ok-mark.ensures.height
    (whole_spent c.in_ok-mark.mark (part_of c.args.sys.now) memories c.in_ok-stacks.stacks.items c.in_ok-mark.ensures.mark c.in_ok-mark.ensures.version (c.in_ok-mark.ensures.layers ∙ ap (map numbers_of) c.deref.ensures.value) c.in_ok-mark.ensures.sums
    (memories_good (part_of c.args.sys.now) memories c.encode.ensures.system c.requires.fit) c.in_ok-stacks.ensures.whole)
    c.in_ok-stacks.ensures.writes c.publish.ensures.writes)

pub returns-clause-writes : goal.returns-clause-writes
returns-clause-writes g c =
    let memories = map bytes c.args.memories.now in
    write_done g.D.Disk c.publish.result _ _ _ _ _ _ c.in_ok-publish.was
    (mark_written g.D.Disk _ c.publish.result c.args.store.now c.write_memories.new.store c.args.height _ (sum_by file_bytes memories) (length (mark_text c.in_ok-mark.mark)) _ _ _ _ refl c.in_ok-mark.ensures.height
    (whole_spent c.in_ok-mark.mark (part_of c.args.sys.now) memories c.in_ok-stacks.stacks.items c.in_ok-mark.ensures.mark c.in_ok-mark.ensures.version (c.in_ok-mark.ensures.layers ∙ ap (map numbers_of) c.deref.ensures.value) c.in_ok-mark.ensures.sums
    (memories_good (part_of c.args.sys.now) memories c.encode.ensures.system c.requires.fit) c.in_ok-stacks.ensures.whole)
    c.in_ok-stacks.ensures.writes c.publish.ensures.writes)
