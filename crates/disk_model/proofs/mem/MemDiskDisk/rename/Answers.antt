use Rattle.std.proofs.Common.{◌∙◌, ap}
use Rattle.disk_model.specs.declared.event.Act.TheVariants.{Rename}
use Rattle.disk_model.specs.Files.{Files, files_after_rename}
use Rattle.disk_model.specs.Record.{files_in}
use Rattle.disk_model.specs.OfBytes.{no_bytes}
use Rattle.disk_model.specs.Mem.{mem_view}
use Rattle.disk_model.proofs.Steps.{did, reads_after, total_after, wrote_after}
use Rattle.disk_model.proofs.mem.MemDiskDisk.rename.Goals as goal

pub invariant_of-self-2 : goal.invariant_of-self-2
invariant_of-self-2 c = record {
  reads = reads_after (files_in c.args.self.now.first.entries) c.args.self.now.events.items (Rename c.args.from c.args.to) _ _ _ c.reserve.ensures.items c.note.ensures (
      (λ i q. c.in_ok-move_file.ensures.ok q i)
      ∙ ap (λ (f : Files). files_after_rename f c.args.from c.args.to (f c.args.from)) c.args.self.now.reads
      );
  total = total_after (files_in c.args.self.now.first.entries) c.args.self.now.events.items (Rename c.args.from c.args.to) _ _ _ c.reserve.ensures.items c.note.ensures c.args.self.now.total;
  first_bytes = c.args.self.now.first_bytes;
  wrote_bytes = wrote_after (files_in c.args.self.now.first.entries) c.args.self.now.events.items (Rename c.args.from c.args.to) _ _ c.reserve.ensures.items c.note.ensures c.args.self.now.wrote_bytes no_bytes;
}

pub returns-clause-does : goal.returns-clause-does
unfolding mem_view
returns-clause-does c = did (files_in c.args.self.now.first.entries) c.args.self.now.events.items (Rename c.args.from c.args.to) _ _ _ c.reserve.ensures.items c.note.ensures
