use Rattle.std.proofs.Common.{◌+◌, ◌*◌, arith, length, subst}
use Rattle.disk_model.specs.declared.name.Name.TheVariants.{Page}
use Rattle.disk_model.specs.Files.{same_name}
use Rattle.disk_model.specs.Writing.{Wrote, write_done, write_failed}
use Rattle.whole_state.proofs.WholeFiles.{adds_more, page_more, fewer_so_far, all_so_far, one_page, added_one, file_so_far}
use Rattle.whole_state.proofs.pages.add_pages.Goals as goal

pub returns-in_err-add-clause-writes : goal.returns-in_err-add-clause-writes
returns-in_err-add-clause-writes g c =
    write_failed g.D.Disk c.add.result _ _ _ (file_so_far (c.loop-place.place + 1) c.args.writer.now.index) _ _ _ c.from_residual.ensures.1 c.in_err-add.was
    (fewer_so_far c.loop-place.place c.args.writer.now.index (length c.args.memory.now) (omega (arith, c.loop-place-test.true, c.requires.room)))
    (page_more g.D.Disk c.add.result c.loop-place.place c.args.writer.now c.loop-place.writer _ _ _ c.requires.missing c.loop-place.invariant.writer c.loop-place.invariant.writes c.add.ensures.writes)

pub loop-place-preserved : goal.loop-place-preserved
loop-place-preserved g c = record {
  writer = added_one c.args.writer.now c.loop-place.writer c.add.new.self c.loop-place.place c.loop-place.invariant.writer c.in_ok-add.ensures.writer;
  writes = write_done g.D.Disk c.add.result _ tt _ _ _ _ c.in_ok-add.was
      (page_more g.D.Disk c.add.result c.loop-place.place c.args.writer.now c.loop-place.writer _ _ _ c.requires.missing c.loop-place.invariant.writer c.loop-place.invariant.writes c.add.ensures.writes);
  so_far = λ told.
      adds_more c.args.memory.now c.copy_from_slice.new.self c.loop-place.place c.args.writer.now c.loop-place.writer c.add.new.self _ _ _ c.loop-place.invariant.writer
      (one_page c.args.memory.now c.copy_from_slice.new.self (c.loop-place.place * 4096) c.copy_from_slice.ensures.after)
      (c.in_ok-add.ensures.there told) (c.in_ok-add.ensures.added told) (c.loop-place.invariant.so_far told);
}

pub returns-clause-writes : goal.returns-clause-writes
returns-clause-writes g c =
    subst (λ count. Wrote g.D.Disk (same_name (Page c.args.writer.now.number)) count c.args.disk.now c.loop-place.disk)
    (all_so_far c.loop-place.place c.args.writer.now.index (length c.args.memory.now) c.requires.some (omega (arith, c.loop-place-test.false, c.loop-place.auto.place-end, c.requires.room)))
    c.loop-place.invariant.writes
