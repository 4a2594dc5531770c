use Rattle.std.proofs.Common.{◌≡◌, ◌≤◌, IsTrue, take, length, map}
use Rattle.std.specs.List.{AllByRecursion, sum_by}
use Rattle.store_spec.specs.Mark.{mark_text}
use Rattle.sys_state.specs.System.{part_of}
use Rattle.disk_model.specs.OnlyReads.{OnlyReads}
use Rattle.height_store.specs.Bad.{SpellsMark, marks_bytes}
use Rattle.height_store.proofs.marks.read_marks.Given as goal

abbrev pub invariant-loop-height : goal.invariant-loop-height
invariant-loop-height g l = record {
  few : length l.marks.items ≤ 16;
  heights : map (λ m. m.mark.height) l.marks.items ≡ take l.height-index l.heights;
  faults : g.D.Disk.faults l.initial.disk ≤ g.D.Disk.faults l.disk;
  spelled : IsTrue g.D.Disk.tells → AllByRecursion (λ m. SpellsMark (g.D.Disk.view l.initial.disk).state.files m.mark.height m.mark (part_of m.system)) l.marks.items;
  reads : IsTrue g.D.Disk.tells → OnlyReads (marks_bytes (g.D.Disk.view l.initial.disk).state.files (take l.height-index l.heights)) (g.D.Disk.view l.initial.disk) (g.D.Disk.view l.disk);
  reads_only : IsTrue g.D.Disk.tells → OnlyReads (sum_by (λ m. length (mark_text m.mark)) l.marks.items) (g.D.Disk.view l.initial.disk) (g.D.Disk.view l.disk);
}
