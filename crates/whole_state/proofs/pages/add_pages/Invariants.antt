use Rattle.std.proofs.Common.{◌≡◌, IsTrue}
use Rattle.disk_model.specs.declared.name.Name.TheVariants.{Page}
use Rattle.disk_model.specs.Files.{same_name}
use Rattle.disk_model.specs.Writing.{Wrote}
use Rattle.whole_state.proofs.WholeFiles.{AddsPages, file_so_far}
use Rattle.whole_state.proofs.pages.add_pages.Given as goal

abbrev pub invariant-loop-place : goal.invariant-loop-place
invariant-loop-place g l = record {
  writer : l.writer ≡ record l.initial.writer { added = l.place };
  writes : Wrote g.D.Disk (same_name (Page l.initial.writer.number)) (file_so_far l.place l.initial.writer.index) l.initial.disk l.disk;
  so_far : IsTrue g.D.Disk.tells → AddsPages l.memory l.place l.initial.writer l.writer (g.D.Disk.view l.initial.disk) (g.D.Disk.view l.disk);
}
