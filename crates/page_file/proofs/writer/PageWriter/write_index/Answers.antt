use Rattle.std.proofs.Common.{true, ap, arith}
use Rattle.disk_model.specs.Writing.{write_done, write_failed}
use Rattle.page_spec.specs.PageFile.{index_length}
use Rattle.page_file.specs.Files.{UnfinishedFile}
use Rattle.page_file.proofs.Written.{index_appended, index_written}
use Rattle.page_file.proofs.writer.PageWriter.write_index.Goals as goal

pub returns-in_err-append_next-clause-writes : goal.returns-in_err-append_next-clause-writes
returns-in_err-append_next-clause-writes g c =
    write_failed g.D.Disk c.append_next.result _ _ _ (index_length c.args.self.now.index) _ _ _ c.from_residual.ensures.1 c.in_err-append_next.was (omega arith)
    (index_appended g.D.Disk c.append_next.result c.args.self.now _ _ c.requires.missing (g.met.D.Disk.reads_as_image c.args.disk.now) c.append_next.ensures.does c.append_next.ensures.cause)

pub returns-clause-writes : goal.returns-clause-writes
returns-clause-writes g c =
    write_done g.D.Disk c.append_next.result _ _ _ (index_length c.args.self.now.index) _ _ c.in_ok-append_next.was
    (index_appended g.D.Disk c.append_next.result c.args.self.now _ _ c.requires.missing (g.met.D.Disk.reads_as_image c.args.disk.now) c.append_next.ensures.does c.append_next.ensures.cause)

pub returns-clause-written : goal.returns-clause-written
returns-clause-written g c = λ told was.
    index_written c.args.self.now (record { number = c.self.inside.number; index = c.self.inside.index.value; alone = true; added = c.self.inside.added }) _ _ c.requires.missing
    (ap (λ (w : UnfinishedFile). record w { alone = true }) c.self.view_is) (c.in_ok-append_next.ensures.does told) was
