use Rattle.std.proofs.Common.{◌∙◌, inr, ap, arith, sym, subst, refl}
use Rattle.std.specs.List.{AllByRecursion}
use Rattle.page_spec.specs.PageFile.{index_length}
use Rattle.disk_model.specs.declared.name.Name.TheVariants.{Page}
use Rattle.disk_model.specs.Files.{same_name}
use Rattle.disk_model.specs.Frame.{touches_then}
use Rattle.disk_model.specs.Writing.{write_done, write_failed, write_then}
use Rattle.page_file.specs.Files.{UnfinishedFile, IsAsKnown}
use Rattle.merge_job.proofs.Stepped.{absent_or_loose, begin_on, begun_index, of_file}
use Rattle.merge_job.proofs.job.MergeJob.begin.Goals as goal

pub returns-in_err-writer-clause-writes : goal.returns-in_err-writer-clause-writes
returns-in_err-writer-clause-writes g c =
    write_failed g.D.Disk c.begin.result _ _ _ 0 _ _ _ c.from_residual-in_err-writer.ensures.1 c.in_err-writer.was (omega arith) c.begin.ensures.writes

pub returns-in_err-writer-clause-loose : goal.returns-in_err-writer-clause-loose
returns-in_err-writer-clause-loose g c = λ told err.
    absent_or_loose c.begin.result _ c.args.number (g.D.Disk.view c.args.disk.now) (g.D.Disk.view c.begin.new.disk) c.in_err-writer.was (c.requires.absent told) (c.begin.ensures.loose told) (c.begin.ensures.memory told)

pub returns-in_err-write_index-clause-writes : goal.returns-in_err-write_index-clause-writes
returns-in_err-write_index-clause-writes g c =
    let index = begun_index c.in_ok-writer.writer c.args.number c.args.memory c.args.from c.in_ok-index.index c.deref.result.now _ c.in_ok-writer.ensures.writer c.in_ok-index.ensures (c.deref.ensures.value ∙ c.in_ok-pages.ensures.pages) in
    let count = index_length c.in_ok-writer.writer.index in
    write_failed g.D.Disk c.write_index.result _ _ _ count _ _ _ c.from_residual-in_err-write_index.ensures.1 c.in_err-write_index.was (omega (arith, ap index_length index))
    (write_then g.D.Disk _ _ _ 0 count count _ _ _ refl (omega arith) c.in_ok-writer.ensures.writes
    (of_file g.D.Disk _ count _ _ _ _ (ap (λ (w : UnfinishedFile). w.number) c.in_ok-writer.ensures.writer) c.write_index.ensures.writes))

pub returns-in_err-write_index-clause-loose : goal.returns-in_err-write_index-clause-loose
returns-in_err-write_index-clause-loose g c = λ told err.
    inr (ap (λ n. (g.D.Disk.view c.write_index.new.disk).state.loose (Page n)) (sym (ap (λ (w : UnfinishedFile). w.number) c.in_ok-writer.ensures.writer)) ∙ c.write_index.ensures.loose told)

pub returns-clause-writes : goal.returns-clause-writes
returns-clause-writes g c =
    let index = begun_index c.in_ok-writer.writer c.args.number c.args.memory c.args.from c.in_ok-index.index c.deref.result.now _ c.in_ok-writer.ensures.writer c.in_ok-index.ensures (c.deref.ensures.value ∙ c.in_ok-pages.ensures.pages) in
    let count = index_length c.in_ok-writer.writer.index in
    write_done g.D.Disk c.write_index.result _ _ _ _ _ _ c.in_ok-write_index.was
    (write_then g.D.Disk _ _ _ 0 count _ _ _ _ refl (omega (arith, ap index_length index)) c.in_ok-writer.ensures.writes
    (of_file g.D.Disk _ count _ _ _ _ (ap (λ (w : UnfinishedFile). w.number) c.in_ok-writer.ensures.writer) c.write_index.ensures.writes))

pub returns-clause-on : goal.returns-clause-on
returns-clause-on g c = λ told known.
    begin_on c.in_ok-read.read c.args.from c.args.number c.write_index.new.self (g.D.Disk.view c.args.disk.now) (g.D.Disk.view c.write_index.new.disk)
    (ap (λ (w : UnfinishedFile). w.number) c.in_ok-write_index.ensures.writer ∙ ap (λ (w : UnfinishedFile). w.number) c.in_ok-writer.ensures.writer)
    (ap (λ (w : UnfinishedFile). w.added) c.in_ok-write_index.ensures.writer ∙ ap (λ (w : UnfinishedFile). w.added) c.in_ok-writer.ensures.writer)
    (c.in_ok-write_index.ensures.written told (c.in_ok-writer.ensures.begun told)) (touches_then (same_name (Page c.args.number)) _ _ _ (c.in_ok-writer.ensures.writes.only told).touches
    ((of_file g.D.Disk _ _ _ _ _ _ (ap (λ (w : UnfinishedFile). w.number) c.in_ok-writer.ensures.writer) c.write_index.ensures.writes).only told).touches) (c.requires.absent told)
    (subst (AllByRecursion (IsAsKnown (g.D.Disk.view c.args.disk.now).state.files)) (sym c.in_ok-read.ensures) known)
