use Rattle.std.proofs.Common.{ap, subst}
use Rattle.std.specs.Result.{IfOk}
use Rattle.std.proofs.lemmas.Result.{IfOk-weaker}
use Rattle.store_spec.specs.Image.{Opens}
use Rattle.std.specs.Prelude.{OnOk}
use Rattle.disk_model.specs.Files.{Files}
use Rattle.disk_model.specs.State.{DiskState}
use Rattle.disk_model.specs.OnlyReads.{reads_only_call, reads_only_then}
use Rattle.height_store.specs.Found.{IsFound}
use Rattle.height_store.specs.Kept.{IsReadable}
use Rattle.height_store.proofs.OnlyReading.{found_readable, marks_looked}
use Rattle.height_store.proofs.store.HeightStore.open_read.Goals as goal

pub returns-in_err-marks-clause-only_reads : goal.returns-in_err-marks-clause-only_reads
returns-in_err-marks-clause-only_reads g c = λ told. (0, reads_only_call 0 c.list.result _ _ (c.list.ensures.reads_only told))

pub returns-clause-only_reads : goal.returns-clause-only_reads
returns-clause-only_reads g c = λ told.
    let read = c.read_store.ensures.only_reads told in
    (_, reads_only_then 0 read.0 _ _ _ (reads_only_call 0 c.list.result _ _ (c.list.ensures.reads_only told)) read.1)

pub returns-clause-found : goal.returns-clause-found
returns-clause-found g c = λ told.
    let same = ap (λ (s : DiskState). s.files) (reads_only_call 0 c.list.result _ _ (c.list.ensures.reads_only told)).state in
    subst (λ (files : Files). IfOk c.read_store.result (λ store. IsReadable store.heights files)) same
    (IfOk-weaker c.read_store.result (λ store. IsFound store _) (λ store. IsReadable store.heights _) (λ store found. found_readable store _ found) (c.read_store.ensures.found told))

pub returns-clause-opens : goal.returns-clause-opens
returns-clause-opens g c = λ told.
    let same = ap (λ (s : DiskState). s.files) (reads_only_call 0 c.list.result _ _ (c.list.ensures.reads_only told)).state in
    subst (λ (files : Files). OnOk c.read_store.result (Opens files)) same (c.read_store.ensures.opens told)

pub returns-clause-bad_mark_reads : goal.returns-clause-bad_mark_reads
returns-clause-bad_mark_reads g c = λ told heights listed height is.
    marks_looked _ _ _ c.in_ok-marks.marks.items _ heights (reads_only_call 0 c.list.result _ _ (c.list.ensures.reads_only told)) (c.in_ok-marks.ensures.listing told) c.deref.ensures.value listed (c.read_store.ensures.bad_mark_reads told height is)
