use Rattle.std.proofs.Common.{◌+◌, inl, inr, arith, ap, sym, subst, get_or}
use Rattle.std.proofs.lemmas.Result.{err_from_is_err_and}
use Rattle.disk_model.specs.State.{DiskState}
use Rattle.height_store.specs.declared.marks.OpenedMark.{OpenedMark}
use Rattle.height_store.specs.declared.error.StoreError.TheVariants.{BadMark}
use Rattle.height_store.specs.Bad.{IsFirstBadMark, HasGoodMark}
use Rattle.height_store.proofs.MarksRead.{same_height, handed_on, are_good, first_bad, heights_more, spelled_more, reads_only_longer, reads_more, reads_all}
use Rattle.height_store.proofs.marks.read_marks.Goals as goal

pub returns-then-len-eq-MAX_PUBLISHED-clause-bad_mark :
    goal.returns-then-len-eq-MAX_PUBLISHED-clause-bad_mark
returns-then-len-eq-MAX_PUBLISHED-clause-bad_mark g c = λ told height is.
    let files = (g.D.Disk.view c.args.disk.now).state.files in
    let bad = first_bad files c.args.heights.now c.loop-height.height-index c.loop-height.marks.items c.loop-height-test.true (c.requires.listed told)
    (record { few = c.loop-height.invariant.few; in_order = c.loop-height.invariant.heights; spelled = c.loop-height.invariant.spelled told }) (inl (omega (arith, c.len.ensures, c.if-len-eq-MAX_PUBLISHED.true))) in
    subst (IsFirstBadMark files) (same_height (get_or c.args.heights.now c.loop-height.height-index 0) height is) bad

pub returns-in_err-read_mark-clause-bad_mark : goal.returns-in_err-read_mark-clause-bad_mark
returns-in_err-read_mark-clause-bad_mark g c = λ told height is.
    let p = err_from_is_err_and c.from_residual.result c.from_residual.ensures.1 in
    let files = (g.D.Disk.view c.args.disk.now).state.files in
    let number = get_or c.args.heights.now c.loop-height.height-index 0 in
    let err = handed_on OpenedMark c.from_residual.result p.0 c.in_err-read_mark.field-0.0 (BadMark height) p.1 p.2 is in
    let bad = subst (λ (s : DiskState). HasGoodMark s.files number → ⊥) (c.loop-height.invariant.reads_only told).state (c.in_err-read_mark.ensures.bad told height err) in
    subst (IsFirstBadMark files) (sym (c.in_err-read_mark.ensures.number height err))
    (first_bad files c.args.heights.now c.loop-height.height-index c.loop-height.marks.items c.loop-height-test.true (c.requires.listed told)
    (record { few = c.loop-height.invariant.few; in_order = c.loop-height.invariant.heights; spelled = c.loop-height.invariant.spelled told }) (inr bad))

pub returns-then-len-eq-MAX_PUBLISHED-clause-reads :
    goal.returns-then-len-eq-MAX_PUBLISHED-clause-reads
returns-then-len-eq-MAX_PUBLISHED-clause-reads g c = λ told. reads_all c.args.heights.now c.loop-height.height-index _ _ (c.loop-height.invariant.reads told)

pub returns-in_err-read_mark-clause-reads : goal.returns-in_err-read_mark-clause-reads
returns-in_err-read_mark-clause-reads g c = λ told.
    let i = c.loop-height.height-index in
    reads_all c.args.heights.now (i + 1) _ _
    (reads_more c.args.heights.now i _ _ _ c.loop-height-test.true (c.loop-height.invariant.reads_only told).state (c.loop-height.invariant.reads told) (c.read_mark.ensures.reads told))

pub returns-in_err-push-clause-reads : goal.returns-in_err-push-clause-reads
returns-in_err-push-clause-reads g c = λ told.
    let i = c.loop-height.height-index in
    reads_all c.args.heights.now (i + 1) _ _
    (reads_more c.args.heights.now i _ _ _ c.loop-height-test.true (c.loop-height.invariant.reads_only told).state (c.loop-height.invariant.reads told) (c.read_mark.ensures.reads told))

pub returns-clause-reads : goal.returns-clause-reads
returns-clause-reads g c = λ told. reads_all c.args.heights.now c.loop-height.height-index _ _ (c.loop-height.invariant.reads told)

pub loop-height-preserved : goal.loop-height-preserved
loop-height-preserved g c =
    let h = c.in_ok-push.ensures.items in
    record {
      few = omega (arith, c.in_ok-push.ensures.len, c.loop-height.invariant.few, c.len.ensures, c.if-len-eq-MAX_PUBLISHED.false);
      heights = heights_more c.args.heights.now c.loop-height.height-index c.loop-height.marks.items c.push.new.self.items c.in_ok-read_mark.field-0 c.loop-height-test.true h c.in_ok-read_mark.ensures.height c.loop-height.invariant.heights;
      faults = omega (arith, c.read_mark.ensures.cause.never_falls, c.loop-height.invariant.faults);
      spelled = λ told. spelled_more (g.D.Disk.view c.args.disk.now).state.files (g.D.Disk.view c.loop-height.disk).state.files c.loop-height.marks.items c.push.new.self.items c.in_ok-read_mark.field-0 _ h
          (ap (λ (s : DiskState). s.files) (c.loop-height.invariant.reads_only told).state) c.in_ok-read_mark.ensures.height (c.in_ok-read_mark.ensures.spelled told) (c.loop-height.invariant.spelled told);
      reads = λ told. reads_more c.args.heights.now c.loop-height.height-index _ _ _ c.loop-height-test.true (c.loop-height.invariant.reads_only told).state (c.loop-height.invariant.reads told) (c.read_mark.ensures.reads told);
      reads_only = λ told. reads_only_longer c.loop-height.marks.items c.push.new.self.items c.in_ok-read_mark.field-0 _ _ _ h (c.loop-height.invariant.reads_only told) (c.in_ok-read_mark.ensures.reads_only told);
    }

pub returns-clause-good : goal.returns-clause-good
returns-clause-good g c = λ told.
    are_good (g.D.Disk.view c.args.disk.now).state.files c.args.heights.now c.loop-height.height-index c.loop-height.marks.items (omega arith) (c.requires.listed told)
    (record { few = c.loop-height.invariant.few; in_order = c.loop-height.invariant.heights; spelled = c.loop-height.invariant.spelled told })
