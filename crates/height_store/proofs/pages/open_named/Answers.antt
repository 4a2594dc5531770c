use Rattle.std.proofs.Common.{arith, sym, subst, get_or}
use Rattle.std.specs.List.{AllByRecursion}
use Rattle.std.proofs.lemmas.Result.{err_from_is_err_and}
use Rattle.disk_model.specs.State.{DiskState}
use Rattle.disk_model.specs.OnlyReads.{OnlyReads, reads_only_then}
use Rattle.page_file.specs.Files.{IsAsKnown}
use Rattle.page_file.specs.declared.error.PageError.TheVariants.{BadPage}
use Rattle.height_store.specs.Bad.{IsGoodNaming}
use Rattle.height_store.specs.Naming.{IsFirstBadNaming, index_bytes}
use Rattle.height_store.proofs.MarksRead.{handed_on}
use Rattle.height_store.proofs.Namings.{opened_next, good_next, first_bad_naming, named_all}
use Rattle.height_store.proofs.pages.open_named.Goals as goal

pub returns-in_err-open_one-clause-bad_page : goal.returns-in_err-open_one-clause-bad_page
returns-in_err-open_one-clause-bad_page g c = λ told number is.
    let p = err_from_is_err_and c.from_residual.result c.from_residual.ensures.1 in
    let files = (g.D.Disk.view c.args.disk.now).state.files in
    let naming = get_or c.args.named.now c.loop-naming.naming-index (0, 0) in
    let err = handed_on _ c.from_residual.result p.0 c.in_err-open_one.field-0.0 (BadPage number) p.1 p.2 is in
    let bad = subst (λ (s : DiskState). IsGoodNaming s.files naming → ⊥) (c.loop-naming.invariant.reads_only told).state (c.in_err-open_one.ensures.bad told number err) in
    subst (IsFirstBadNaming files c.args.named.now) (sym (c.in_err-open_one.ensures.number number err))
    (first_bad_naming files c.args.named.now c.loop-naming.naming-index (0, 0) c.loop-naming-test.true c.requires.ordered (c.loop-naming.invariant.good told) bad)

pub returns-in_err-open_one-clause-only_reads : goal.returns-in_err-open_one-clause-only_reads
returns-in_err-open_one-clause-only_reads g c = λ told.
    let more = c.open_one.ensures.only_reads told in
    (_, reads_only_then _ more.0 _ _ _ (c.loop-naming.invariant.reads_only told) more.1)

pub loop-naming-preserved : goal.loop-naming-preserved
loop-naming-preserved g c =
    record {
      opened = opened_next c.loop-naming.files.items c.open_one.new.files.items c.args.named.now c.loop-naming.naming-index (0, 0) c.loop-naming-test.true c.requires.ordered c.loop-naming.invariant.opened c.in_ok-open_one.ensures.takes;
      faults = omega (arith, c.open_one.ensures.cause.never_falls, c.loop-naming.invariant.faults);
      kept = λ told. subst (λ (s : DiskState). AllByRecursion (IsAsKnown s.files) c.open_one.new.files.items) (c.loop-naming.invariant.reads_only told).state (c.in_ok-open_one.ensures.kept told);
      good = λ told. good_next (g.D.Disk.view c.args.disk.now).state.files c.args.named.now c.loop-naming.naming-index (0, 0) c.loop-naming-test.true (c.loop-naming.invariant.good told)
          (subst (λ (s : DiskState). IsGoodNaming s.files (get_or c.args.named.now c.loop-naming.naming-index (0, 0))) (c.loop-naming.invariant.reads_only told).state (c.in_ok-open_one.ensures.good told));
      reads_only = λ told.
          let more = c.in_ok-open_one.ensures.reads_only told in
          subst (λ most. OnlyReads most (g.D.Disk.view c.args.disk.now) (g.D.Disk.view c.open_one.new.disk)) (sym more.1)
          (reads_only_then (index_bytes c.loop-naming.files.items) more.0 _ _ _ (c.loop-naming.invariant.reads_only told) more.2);
    }

pub returns-clause-named : goal.returns-clause-named
returns-clause-named g c = (named_all c.args.named.now c.loop-naming.files.items c.loop-naming.naming-index (omega arith) c.loop-naming.invariant.opened).named
