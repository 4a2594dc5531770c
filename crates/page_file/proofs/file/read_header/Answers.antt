use Rattle.std.proofs.Common.{◌≡◌, ◌∙◌, IsSomeAnd, take, sym, subst, arith}
use Rattle.disk_model.specs.declared.name.Name.TheVariants.{Page}
use Rattle.disk_model.specs.State.{DiskState}
use Rattle.disk_model.specs.OnlyReads.{reads_only_call, reads_only_then, reads_only_more}
use Rattle.page_file.proofs.Opened.{header_of}
use Rattle.page_file.proofs.file.read_header.Goals as goal

pub returns-in_err-read-in-Some-clause-reads_only : goal.returns-in_err-read-in-Some-clause-reads_only
returns-in_err-read-in-Some-clause-reads_only g c = λ told.
    reads_only_more 32 32 _ _ (omega arith) (reads_only_then 0 32 _ _ _ (reads_only_call 0 _ _ _ (c.size.ensures.reads_only told)) (reads_only_call 32 _ _ _ (c.read.ensures.reads_only told)))

pub returns-in_err-read-in-Some-2-clause-reads_only : goal.returns-in_err-read-in-Some-2-clause-reads_only
returns-in_err-read-in-Some-2-clause-reads_only g c = λ told.
    reads_only_more 32 32 _ _ (omega arith) (reads_only_then 0 32 _ _ _ (reads_only_call 0 _ _ _ (c.size.ensures.reads_only told)) (reads_only_call 32 _ _ _ (c.read.ensures.reads_only told)))

pub returns-in_ok-read-in-Some-2-clause-reads_only : goal.returns-in_ok-read-in-Some-2-clause-reads_only
returns-in_ok-read-in-Some-2-clause-reads_only g c = λ told.
    reads_only_more 32 32 _ _ (omega arith) (reads_only_then 0 32 _ _ _ (reads_only_call 0 _ _ _ (c.size.ensures.reads_only told)) (reads_only_call 32 _ _ _ (c.read.ensures.reads_only told)))

pub returns-in_ok-read-in-Some-2-clause-found : goal.returns-in_ok-read-in-Some-2-clause-found
returns-in_ok-read-in-Some-2-clause-found g c = λ told.
    header_of (g.D.Disk.view c.args.disk.now).state.files c.args.number c.in-Some.size c.read.new.into c.in_ok-read-in-Some-2.field-0
    (sym c.in-Some.is ∙ c.in_ok-size.ensures.size told)
    (subst (λ (s : DiskState). IsSomeAnd (s.files (Page c.args.number)) (λ text. c.read.new.into ≡ take 32 text)) (reads_only_call 0 _ _ _ (c.size.ensures.reads_only told)).state (c.in_ok-read-in-Some.ensures.bytes told))
    c.in_ok-read-in-Some-2.ensures
