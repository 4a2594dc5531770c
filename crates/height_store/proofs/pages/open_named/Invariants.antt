use Rattle.std.proofs.Common.{◌≤◌, IsTrue, take}
use Rattle.std.specs.List.{AllByRecursion}
use Rattle.disk_model.specs.OnlyReads.{OnlyReads}
use Rattle.page_file.specs.Files.{IsAsKnown}
use Rattle.height_store.specs.Bad.{IsGoodNaming}
use Rattle.height_store.specs.Naming.{index_bytes}
use Rattle.height_store.proofs.FilesFound.{Opened}
use Rattle.height_store.proofs.pages.open_named.Given as goal

abbrev pub invariant-loop-naming : goal.invariant-loop-naming
invariant-loop-naming g l = record {
  opened : Opened l.files.items (take l.naming-index l.named);
  faults : g.D.Disk.faults l.initial.disk ≤ g.D.Disk.faults l.disk;
  kept : IsTrue g.D.Disk.tells → AllByRecursion (IsAsKnown (g.D.Disk.view l.initial.disk).state.files) l.files.items;
  good : IsTrue g.D.Disk.tells → AllByRecursion (IsGoodNaming (g.D.Disk.view l.initial.disk).state.files) (take l.naming-index l.named);
  reads_only : IsTrue g.D.Disk.tells → OnlyReads (index_bytes l.files.items) (g.D.Disk.view l.initial.disk) (g.D.Disk.view l.disk);
}
