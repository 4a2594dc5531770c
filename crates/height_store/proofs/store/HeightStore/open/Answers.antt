use Rattle.std.proofs.Common.{ap, subst, ◌∙◌}
use Rattle.std.specs.List.Sorted.{IsStrictlyIncreasing}
use Rattle.std.proofs.lemmas.Result.{err_from_is_err_and}
use Rattle.height_store.specs.declared.error.StoreError.TheVariants.{BadMark}
use Rattle.height_store.specs.declared.store.HeightStore.{HeightStore}
use Rattle.height_store.specs.Kept.{IsReadable}
use Rattle.height_store.proofs.MarksRead.{handed_on}
use Rattle.store_spec.specs.Image.{Opens}
use Rattle.disk_model.specs.State.{DiskState}
use Rattle.height_store.proofs.Since.{bad_mark_read, settle_leaves, reads_only_leave_before, as_before, touches_named, gone_named, opened_over, opened_pages, opened_stands, opened_images}
use Rattle.height_store.proofs.store.HeightStore.open.Goals as goal

pub returns-in_err-settle-clause-images : goal.returns-in_err-settle-clause-images
returns-in_err-settle-clause-images g c = λ told each.
    as_before _ _ each (settle_leaves c.settle.result _ _ (g.met.D.Disk.reads_as_image c.args.disk.now told) (c.settle.ensures.does told))

pub returns-in_err-lists-clause-images : goal.returns-in_err-lists-clause-images
returns-in_err-lists-clause-images g c = λ told each.
    as_before _ _ each (reads_only_leave_before 0 _ _ _ (settle_leaves c.settle.result _ _ (g.met.D.Disk.reads_as_image c.args.disk.now told) (c.settle.ensures.does told)) (c.list_all.ensures.reads_only told))

pub returns-in_err-store-clause-bad_keeps : goal.returns-in_err-store-clause-bad_keeps
returns-in_err-store-clause-bad_keeps g c = λ told bad.
    let reads_only = c.read_store.ensures.only_reads told in
    reads_only_leave_before reads_only.0 _ _ _ (reads_only_leave_before 0 _ _ _ (settle_leaves c.settle.result _ _ (g.met.D.Disk.reads_as_image c.args.disk.now told) (c.settle.ensures.does told)) (c.list_all.ensures.reads_only told)) reads_only.1

pub returns-in_err-store-clause-images : goal.returns-in_err-store-clause-images
returns-in_err-store-clause-images g c = λ told each.
    let reads_only = c.read_store.ensures.only_reads told in
    as_before _ _ each (reads_only_leave_before reads_only.0 _ _ _ (reads_only_leave_before 0 _ _ _ (settle_leaves c.settle.result _ _ (g.met.D.Disk.reads_as_image c.args.disk.now told) (c.settle.ensures.does told)) (c.list_all.ensures.reads_only told)) reads_only.1)

pub returns-in_err-sweep_strays-clause-images : goal.returns-in_err-sweep_strays-clause-images
returns-in_err-sweep_strays-clause-images g c = λ told each.
    let sound = g.met.D.Disk.reads_as_image c.args.disk.now told in
    let reads_only = c.read_store.ensures.only_reads told in
    let first = reads_only_leave_before reads_only.0 _ _ _ (reads_only_leave_before 0 _ _ _ (settle_leaves c.settle.result _ _ sound (c.settle.ensures.does told)) (c.list_all.ensures.reads_only told)) reads_only.1 in
    opened_images c.in_ok-store.store _ _ _ _ _ sound (c.in_ok-settle.ensures.does told).state (c.list_all.ensures.reads_only told) reads_only
    (c.in_ok-store.ensures.found told) c.in_ok-store.ensures.good c.in_ok-store.ensures.named first
    (touches_named _ _ _ _ c.named.ensures.named (c.sweep_strays.ensures.writes.only told).touches) each

pub returns-clause-images : goal.returns-clause-images
returns-clause-images g c = λ told each.
    let sound = g.met.D.Disk.reads_as_image c.args.disk.now told in
    let reads_only = c.read_store.ensures.only_reads told in
    let first = reads_only_leave_before reads_only.0 _ _ _ (reads_only_leave_before 0 _ _ _ (settle_leaves c.settle.result _ _ sound (c.settle.ensures.does told)) (c.list_all.ensures.reads_only told)) reads_only.1 in
    opened_images c.in_ok-store.store _ _ _ _ _ sound (c.in_ok-settle.ensures.does told).state (c.list_all.ensures.reads_only told) reads_only
    (c.in_ok-store.ensures.found told) c.in_ok-store.ensures.good c.in_ok-store.ensures.named first
    (touches_named _ _ _ _ c.named.ensures.named (c.sweep_strays.ensures.writes.only told).touches) each

pub returns-clause-stands : goal.returns-clause-stands
returns-clause-stands g c = λ told ps each stands.
    opened_stands c.in_ok-store.store (g.D.Disk.view c.args.disk.now) _ _ _ _ (g.met.D.Disk.reads_as_image c.args.disk.now told) (c.in_ok-settle.ensures.does told).state (c.list_all.ensures.reads_only told) (c.read_store.ensures.only_reads told)
    (c.in_ok-store.ensures.found told) c.in_ok-store.ensures.good c.in_ok-store.ensures.named
    (touches_named _ _ _ _ c.named.ensures.named (c.sweep_strays.ensures.writes.only told).touches) ps each stands

pub returns-clause-over : goal.returns-clause-over
returns-clause-over g c = λ told.
    opened_over c.in_ok-store.store (g.D.Disk.view c.list_all.new.disk).state.files _ _ (ap (λ (s : DiskState). s.files) (c.read_store.ensures.only_reads told).1.state) (c.in_ok-store.ensures.found told)
    (touches_named _ _ _ _ c.named.ensures.named (c.sweep_strays.ensures.writes.only told).touches)
    (gone_named _ _ (g.D.Disk.view c.sweep_strays.new.disk).state.files c.named.ensures.named (c.in_ok-sweep_strays.ensures.gone told))

pub returns-clause-pages : goal.returns-clause-pages
returns-clause-pages g c = λ told.
    opened_pages c.in_ok-store.store (g.D.Disk.view c.list_all.new.disk).state.files _ _ (ap (λ (s : DiskState). s.files) (c.read_store.ensures.only_reads told).1.state) (c.in_ok-store.ensures.found told)
    (touches_named _ _ _ _ c.named.ensures.named (c.sweep_strays.ensures.writes.only told).touches)
    (gone_named _ _ (g.D.Disk.view c.sweep_strays.new.disk).state.files c.named.ensures.named (c.in_ok-sweep_strays.ensures.gone told))
    c.in_ok-store.ensures.named

pub returns-clause-found : goal.returns-clause-found
returns-clause-found g c = λ told.
    let same = ap (λ (s : DiskState). s.files) ((c.list_all.ensures.reads_only told).state ∙ (c.in_ok-settle.ensures.does told).state) in
    let found = c.in_ok-store.ensures.found told in
    subst (IsReadable c.in_ok-store.store.heights) same (record { listed = found.listed; marks = found.marks; stacks = found.stacks (g.D.Disk.view c.list_all.new.disk).state.files found.kept })

pub returns-clause-named_ascends : goal.returns-clause-named_ascends
returns-clause-named_ascends g c = subst IsStrictlyIncreasing c.named.ensures.named c.named.ensures.ascends

pub returns-clause-opens : goal.returns-clause-opens
returns-clause-opens g c = λ told.
    let same = ap (λ (s : DiskState). s.files) ((c.list_all.ensures.reads_only told).state ∙ (c.in_ok-settle.ensures.does told).state) in
    subst Opens same (c.in_ok-store.ensures.opens told)

pub returns-in_err-store-clause-bad_mark_reads : goal.returns-in_err-store-clause-bad_mark_reads
returns-in_err-store-clause-bad_mark_reads g c = λ told heights listed height is.
    let p = err_from_is_err_and c.from_residual-in_err-store.result c.from_residual-in_err-store.ensures.1 in
    let err = handed_on HeightStore c.from_residual-in_err-store.result p.0 c.in_err-store.field-0.0 (BadMark height) p.1 p.2 is in
    bad_mark_read _ _ _ _ c.in_ok-lists.lists.marks.items _ heights (c.in_ok-settle.ensures.does told) (c.list_all.ensures.reads_only told) (c.in_ok-lists.ensures.marks told) c.deref.ensures.value listed (c.in_err-store.ensures.bad_mark_reads told height err)
