use Rattle.std.proofs.Common.{IsTrue, take}
use Rattle.disk_model.specs.Writing.{Wrote}
use Rattle.height_store.specs.Opened.{is_swept}
use Rattle.height_store.proofs.Swept.{AreGone}
use Rattle.height_store.proofs.sweeping.sweep.Given as goal

abbrev pub invariant-loop-number : goal.invariant-loop-number
invariant-loop-number g l = record {
  writes : Wrote g.D.Disk (is_swept l.kind (take l.number-index l.numbers) l.keep) 0 l.initial.disk l.disk;
  gone : IsTrue g.D.Disk.tells → AreGone l.kind (take l.number-index l.numbers) l.keep (g.D.Disk.view l.disk);
}
