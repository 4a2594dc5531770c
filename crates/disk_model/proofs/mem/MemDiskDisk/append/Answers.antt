use Rattle.std.proofs.Common.{◌∙◌, sym, subst, arith}
use Rattle.format_spec.specs.Bytes.{IsBytes}
use Rattle.disk_model.specs.declared.event.Act.TheVariants.{Append}
use Rattle.disk_model.specs.Record.{files_in}
use Rattle.disk_model.specs.Mem.{mem_view}
use Rattle.disk_model.proofs.Steps.{did, reads_after, total_after, wrote_after, counted_more, appended_files, append_of}
use Rattle.disk_model.proofs.mem.MemDiskDisk.append.Goals as goal

pub invariant_of-self-2 : goal.invariant_of-self-2
invariant_of-self-2 c = record {
  reads = reads_after (files_in c.args.self.now.first.entries) c.args.self.now.events.items (Append c.args.name c.in_ok-kept.kept) _ _ _ c.reserve.ensures.items c.note.ensures (
      (λ i q. c.in_ok-extend_file.ensures.ok q i)
      ∙ appended_files _ _ c.args.name c.args.bytes.now c.in_ok-kept.kept.items c.args.self.now.reads c.in_ok-kept.ensures.items
      );
  total = total_after (files_in c.args.self.now.first.entries) c.args.self.now.events.items (Append c.args.name c.in_ok-kept.kept) _ _ _ c.reserve.ensures.items c.note.ensures
      (counted_more c.args.self.now.appended _ _ c.args.bytes.now c.in_ok-kept.kept.items c.args.self.now.total c.saturating_add-self.ensures c.in_ok-kept.ensures.items);
  first_bytes = c.args.self.now.first_bytes;
  wrote_bytes = wrote_after (files_in c.args.self.now.first.entries) c.args.self.now.events.items (Append c.args.name c.in_ok-kept.kept) _ _ c.reserve.ensures.items c.note.ensures c.args.self.now.wrote_bytes (subst IsBytes (sym c.in_ok-kept.ensures.items) (λ i. omega (arith, c.type_inv.bytes i)));
}

pub returns-clause-does : goal.returns-clause-does
unfolding mem_view
returns-clause-does c = append_of _ _ c.args.name c.args.bytes.now c.in_ok-kept.kept.items c.in_ok-kept.ensures.items
    (did (files_in c.args.self.now.first.entries) c.args.self.now.events.items (Append c.args.name c.in_ok-kept.kept) _ _ _ c.reserve.ensures.items c.note.ensures)
