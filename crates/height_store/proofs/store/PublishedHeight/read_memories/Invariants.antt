use Rattle.std.proofs.Common.{◌≡◌, ◌≤◌, ◌*◌, length, map, sum_by, take, IsTrue}
use Rattle.format_spec.specs.declared.limits.TheConstants.{PAGE_SIZE}
use Rattle.disk_model.specs.OnlyReads.{OnlyReads}
use Rattle.height_store.specs.Kept.{ShowsHeight}
use Rattle.store_spec.specs.Image.{Published}
use Rattle.state_spec.specs.State.{memory_bytes}
use Rattle.height_store.proofs.store.PublishedHeight.read_memories.Given as goal

abbrev pub invariant-loop-file : goal.invariant-loop-file
invariant-loop-file g l = record {
  sizes : map (λ memory. length memory.items) l.memories.items ≡ take l.file (map (λ count. count * PAGE_SIZE) l.pages.items);
  faults : g.D.Disk.faults l.initial.disk ≤ g.D.Disk.faults l.disk;
  reads_only : IsTrue g.D.Disk.tells → OnlyReads (sum_by (λ count. count * PAGE_SIZE) (take l.file l.pages.items)) (g.D.Disk.view l.initial.disk) (g.D.Disk.view l.disk);
  bytes : IsTrue g.D.Disk.tells → (p : Published) → ShowsHeight (g.D.Disk.view l.initial.disk).state.files l.self p
      → map (λ memory. memory.items) l.memories.items ≡ take l.file (memory_bytes p.state);
}
