use Rattle.std.proofs.Common.{◌+◌, ap, arith, length}
use Rattle.disk_model.specs.Writing.{write_done, write_failed}
use Rattle.page_file.specs.Files.{UnfinishedFile, length_added}
use Rattle.page_file.proofs.Kept.{pages_fit}
use Rattle.page_file.proofs.Written.{pages_added, pages_appended}
use Rattle.page_file.proofs.writer.PageWriter.add_pages.Goals as goal

pub returns-in_err-append_next-clause-writes : goal.returns-in_err-append_next-clause-writes
returns-in_err-append_next-clause-writes g c =
    write_failed g.D.Disk c.append_next.result _ _ _ (length_added c.args.self.now c.args.count) _ _ _ c.from_residual.ensures.1 c.in_err-append_next.was (omega arith)
    (pages_appended g.D.Disk c.append_next.result c.args.self.now c.args.count c.args.pages.now _ _ c.requires.whole (g.met.D.Disk.reads_as_image c.args.disk.now) c.append_next.ensures.does c.append_next.ensures.cause)

pub returns-clause-writes : goal.returns-clause-writes
returns-clause-writes g c =
    write_done g.D.Disk c.append_next.result _ _ _ (length_added c.args.self.now c.args.count) _ _ c.in_ok-append_next.was
    (pages_appended g.D.Disk c.append_next.result c.args.self.now c.args.count c.args.pages.now _ _ c.requires.whole (g.met.D.Disk.reads_as_image c.args.disk.now) c.append_next.ensures.does c.append_next.ensures.cause)

pub returns-clause-added : goal.returns-clause-added
returns-clause-added g c = λ told pages was.
    pages_added c.args.self.now (record { number = c.self.inside.number; index = c.self.inside.index.value; alone = c.self.inside.alone; added = c.self.inside.added + c.args.count }) c.args.count pages c.args.pages.now _ _
    (ap (λ (w : UnfinishedFile). record w { added = w.added + c.args.count }) c.self.view_is) c.requires.some c.requires.whole (c.in_ok-append_next.ensures.does told) was

pub overflow_add-self : goal.overflow_add-self
overflow_add-self g c = omega (arith, pages_fit c.self.inside.index.value c.self.invariant, c.self.invariant.memory_fits, c.requires.room, ap (λ (w : UnfinishedFile). w.added) c.self.view_is, ap (λ (w : UnfinishedFile). length w.index.numbers) c.self.view_is)
