use Rattle.std.proofs.Common.{[], Some, List, ℕ, ◌∙◌, ap}
use Rattle.disk_model.specs.declared.event.Act.TheVariants.{Create}
use Rattle.disk_model.specs.Files.{Files, files_with}
use Rattle.disk_model.specs.Record.{files_in}
use Rattle.disk_model.specs.OfBytes.{no_bytes}
use Rattle.disk_model.specs.Mem.{mem_view}
use Rattle.disk_model.proofs.Steps.{did, reads_after, total_after, wrote_after}
use Rattle.disk_model.proofs.mem.MemDiskDisk.create.Goals as goal

pub invariant_of-self-2 : goal.invariant_of-self-2
invariant_of-self-2 c = record {
  reads = reads_after (files_in c.args.self.now.first.entries) c.args.self.now.events.items (Create c.args.name) _ _ _ c.reserve.ensures.items c.note.ensures (
      (λ i q. c.in_ok-put_file.ensures.ok q i)
      ∙ ap (λ (l : List ℕ). files_with (files_in c.args.self.now.files.entries) c.args.name (Some l)) c.new.ensures.items
      ∙ ap (λ (f : Files). files_with f c.args.name (Some [])) c.args.self.now.reads
      );
  total = total_after (files_in c.args.self.now.first.entries) c.args.self.now.events.items (Create c.args.name) _ _ _ c.reserve.ensures.items c.note.ensures c.args.self.now.total;
  first_bytes = c.args.self.now.first_bytes;
  wrote_bytes = wrote_after (files_in c.args.self.now.first.entries) c.args.self.now.events.items (Create c.args.name) _ _ c.reserve.ensures.items c.note.ensures c.args.self.now.wrote_bytes no_bytes;
}

pub returns-clause-does : goal.returns-clause-does
unfolding mem_view
returns-clause-does c = did (files_in c.args.self.now.first.entries) c.args.self.now.events.items (Create c.args.name) _ _ _ c.reserve.ensures.items c.note.ensures
