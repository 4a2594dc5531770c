use Rattle.std.proofs.Common.{Result}
use Rattle.disk_model.specs.declared.disk.DiskError.{DiskError}
use Rattle.disk_model.specs.View.{DiskView, LooksOrNot}
use Rattle.disk_model.specs.OnlyReads.{OnlyReads, reads_only_call, reads_only_then}
use Rattle.height_store.proofs.opening.list_all.Goals as goal

one : {T : Type 0} (result : Result T DiskError) (old new : DiskView) → LooksOrNot 0 result old new → OnlyReads 0 old new
one result old new reads_only = reads_only_call 0 result old new reads_only

more : {T : Type 0} (result : Result T DiskError) (old mid new : DiskView) → OnlyReads 0 old mid → LooksOrNot 0 result mid new → OnlyReads 0 old new
more result old mid new first reads_only = reads_only_then 0 0 old mid new first (reads_only_call 0 result mid new reads_only)

pub returns-in_err-list-2-clause-reads_only : goal.returns-in_err-list-2-clause-reads_only
returns-in_err-list-2-clause-reads_only g c = λ told.
    more c.list-2.result _ _ _ (one c.list.result _ _ (c.list.ensures.reads_only told)) (c.list-2.ensures.reads_only told)

pub returns-in_err-list-3-clause-reads_only : goal.returns-in_err-list-3-clause-reads_only
returns-in_err-list-3-clause-reads_only g c = λ told.
    more c.list-3.result _ _ _ (more c.list-2.result _ _ _ (one c.list.result _ _ (c.list.ensures.reads_only told)) (c.list-2.ensures.reads_only told)) (c.list-3.ensures.reads_only told)

pub returns-in_err-list-4-clause-reads_only : goal.returns-in_err-list-4-clause-reads_only
returns-in_err-list-4-clause-reads_only g c = λ told.
    more c.list-4.result _ _ _ (more c.list-3.result _ _ _ (more c.list-2.result _ _ _ (one c.list.result _ _ (c.list.ensures.reads_only told)) (c.list-2.ensures.reads_only told)) (c.list-3.ensures.reads_only told)) (c.list-4.ensures.reads_only told)

pub returns-clause-reads_only : goal.returns-clause-reads_only
returns-clause-reads_only g c = λ told.
    more c.list-4.result _ _ _ (more c.list-3.result _ _ _ (more c.list-2.result _ _ _ (one c.list.result _ _ (c.list.ensures.reads_only told)) (c.list-2.ensures.reads_only told)) (c.list-3.ensures.reads_only told)) (c.list-4.ensures.reads_only told)
