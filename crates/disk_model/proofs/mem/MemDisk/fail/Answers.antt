use Rattle.std.proofs.Common.{sym, ◌∙◌, ap}
use Rattle.disk_model.specs.Call.{count_after}
use Rattle.disk_model.specs.Mem.{mem_view}
use Rattle.disk_model.proofs.Steps.{failed, files_after_failure, appended_after_failure, wrote_after_failure}
use Rattle.disk_model.specs.Record.{files_in}
use Rattle.disk_model.proofs.mem.MemDisk.fail.Goals as goal

pub invariant_of-self : goal.invariant_of-self
invariant_of-self c = record {
  reads = c.args.self.now.reads ∙ sym (files_after_failure (files_in c.args.self.now.first.entries) c.args.self.now.events.items c.args.act _ c.note.ensures);
  total = c.args.self.now.total ∙ ap (count_after 0) (sym (appended_after_failure (files_in c.args.self.now.first.entries) c.args.self.now.events.items c.args.act _ c.note.ensures));
  first_bytes = c.args.self.now.first_bytes;
  wrote_bytes = wrote_after_failure (files_in c.args.self.now.first.entries) c.args.self.now.events.items c.args.act _ c.note.ensures c.args.self.now.wrote_bytes c.requires.bytes;
}

pub returns-clause-failed : goal.returns-clause-failed
unfolding mem_view
returns-clause-failed c = failed (files_in c.args.self.now.first.entries) c.args.self.now.events.items c.args.act _ _ c.note.ensures

pub returns-clause-unread : goal.returns-clause-unread
unfolding mem_view
returns-clause-unread c = files_after_failure (files_in c.args.self.now.first.entries) c.args.self.now.events.items c.args.act _ c.note.ensures
