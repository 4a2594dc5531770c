use Rattle.std.proofs.Common.{Ok, sym}
use Rattle.state_manager.proofs.DiskLines.{apart_line, if_failed}
use Rattle.state_manager.proofs.Spending.{apart_free}
use Rattle.state_manager.proofs.manager.Manager.perform.Goals as goal

pub returns-in_err-perform_in_memory-clause-line : goal.returns-in_err-perform_in_memory-clause-line
returns-in_err-perform_in_memory-clause-line g c =
    apart_line g.D.Disk.tells c.args.self.now c.perform_in_memory.new.self (g.D.Disk.view c.args.disk.now) c.args.command.now c.requires.over c.perform_in_memory.ensures.store c.perform_in_memory.ensures.same
    (λ m. apart_free m c.args.command.now (sym c.if-needs_disk.ensures)) (record { form = c.requires.fits; types = c.types.ensures }) c.from_residual.result
    (λ m k. if_failed _ c.from_residual.result c.from_residual.ensures.0)

pub returns-clause-line : goal.returns-clause-line
returns-clause-line g c =
    apart_line g.D.Disk.tells c.args.self.now c.perform_in_memory.new.self (g.D.Disk.view c.args.disk.now) c.args.command.now c.requires.over c.perform_in_memory.ensures.store c.perform_in_memory.ensures.same
    (λ m. apart_free m c.args.command.now (sym c.if-needs_disk.ensures)) (record { form = c.requires.fits; types = c.types.ensures }) (Ok c.in_ok-perform_in_memory.field-0)
    (λ m k. c.in_ok-perform_in_memory.ensures.step m k)
