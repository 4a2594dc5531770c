use Rattle.std.proofs.Common.{arith, refl}
use Rattle.disk_model.specs.declared.event.Act.TheVariants.{Look}
use Rattle.disk_model.specs.Record.{files_in}
use Rattle.disk_model.specs.OfBytes.{no_bytes}
use Rattle.disk_model.specs.Mem.{mem_view}
use Rattle.disk_model.proofs.Steps.{did, done_look, reads_after, total_after, wrote_after}
use Rattle.disk_model.proofs.mem.MemDisk.look.Goals as goal

pub invariant_of-self-2 : goal.invariant_of-self-2
invariant_of-self-2 c = record {
  reads = reads_after (files_in c.args.self.now.first.entries) c.args.self.now.events.items Look _ _ _ c.reserve.ensures.items c.note.ensures c.args.self.now.reads;
  total = total_after (files_in c.args.self.now.first.entries) c.args.self.now.events.items Look _ _ _ c.reserve.ensures.items c.note.ensures c.args.self.now.total;
  first_bytes = c.args.self.now.first_bytes;
  wrote_bytes = wrote_after (files_in c.args.self.now.first.entries) c.args.self.now.events.items Look _ _ c.reserve.ensures.items c.note.ensures c.args.self.now.wrote_bytes no_bytes;
}

pub returns-clause-reads_only : goal.returns-clause-reads_only
unfolding mem_view
returns-clause-reads_only c =
    done_look _ _ _ c.args.count (did (files_in c.args.self.now.first.entries) c.args.self.now.events.items Look _ _ c.args.self.now.bytes_read c.reserve.ensures.items c.note.ensures)
    refl refl refl (omega (arith, c.saturating_add-self.ensures)) (omega (arith, c.saturating_add-self.ensures))
