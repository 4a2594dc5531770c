use Rattle.std.proofs.Common.{arith}
use Rattle.disk_model.specs.Record.{files_in, disk_of_files}
use Rattle.disk_model.specs.Replay.{past_length}
use Rattle.disk_model.specs.Mem.{mem_view}
use Rattle.disk_model.proofs.mem.MemDisk.calls.Goals as goal

pub returns : goal.returns
unfolding mem_view
returns c = omega (arith, past_length (disk_of_files (files_in c.args.self.now.first.entries)) c.args.self.now.events.items)
