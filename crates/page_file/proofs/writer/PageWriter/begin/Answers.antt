use Rattle.std.proofs.Common.{arith}
use Rattle.disk_model.specs.declared.name.Name.TheVariants.{Page}
use Rattle.disk_model.specs.Files.{same_name}
use Rattle.disk_model.specs.Call.{create}
use Rattle.disk_model.specs.Writing.{one_write, write_done, write_failed}
use Rattle.page_file.proofs.writer.PageWriter.begin.Goals as goal

pub returns-in_err-create-clause-writes : goal.returns-in_err-create-clause-writes
returns-in_err-create-clause-writes g c =
    write_failed g.D.Disk c.create.result _ _ _ 0 0 _ _ c.from_residual-in_err-create.ensures.1 c.in_err-create.was (omega arith)
    (one_write g.D.Disk (create (Page c.args.number)) _ (same_name (Page c.args.number)) _ _ (λ q apart. apart) (g.met.D.Disk.reads_as_image c.args.disk.now) c.create.ensures.does c.create.ensures.cause)

pub returns-clause-writes : goal.returns-clause-writes
returns-clause-writes g c =
    write_done g.D.Disk c.create.result _ _ _ 0 _ _ c.in_ok-create.was
    (one_write g.D.Disk (create (Page c.args.number)) _ (same_name (Page c.args.number)) _ _ (λ q apart. apart) (g.met.D.Disk.reads_as_image c.args.disk.now) c.create.ensures.does c.create.ensures.cause)
