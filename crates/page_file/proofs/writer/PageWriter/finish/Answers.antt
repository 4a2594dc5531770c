use Rattle.std.proofs.Common.{ap, arith}
use Rattle.disk_model.specs.declared.name.Name.TheVariants.{Page}
use Rattle.disk_model.specs.Call.{seal}
use Rattle.disk_model.specs.Writing.{write_done, write_failed}
use Rattle.page_file.specs.Files.{UnfinishedFile}
use Rattle.page_file.proofs.Written.{page_call, sealed_pages}
use Rattle.page_file.proofs.writer.PageWriter.finish.Goals as goal

pub returns-in_err-seal-clause-writes : goal.returns-in_err-seal-clause-writes
returns-in_err-seal-clause-writes g c =
    write_failed g.D.Disk c.seal.result _ _ _ 0 0 _ _ c.from_residual.ensures.1 c.in_err-seal.was (omega arith)
    (page_call g.D.Disk (seal (Page c.self.inside.number)) _ c.self.inside.number c.args.self.number _ _ (ap (λ (w : UnfinishedFile). w.number) c.self.view_is) (λ q apart. apart)
    (g.met.D.Disk.reads_as_image c.args.disk.now) c.seal.ensures.does c.seal.ensures.cause)

pub returns-clause-writes : goal.returns-clause-writes
returns-clause-writes g c =
    write_done g.D.Disk c.seal.result _ _ _ 0 _ _ c.in_ok-seal.was
    (page_call g.D.Disk (seal (Page c.self.inside.number)) _ c.self.inside.number c.args.self.number _ _ (ap (λ (w : UnfinishedFile). w.number) c.self.view_is) (λ q apart. apart)
    (g.met.D.Disk.reads_as_image c.args.disk.now) c.seal.ensures.does c.seal.ensures.cause)

pub returns-clause-finished : goal.returns-clause-finished
returns-clause-finished g c = λ told pages was. sealed_pages (record { number = c.self.inside.number; index = c.self.inside.index.value; alone = c.self.inside.alone; added = c.self.inside.added }) c.args.self c.new.result pages _ _ c.self.view_is (c.in_ok-seal.ensures.does told) c.self.invariant c.requires.all c.new.ensures was
