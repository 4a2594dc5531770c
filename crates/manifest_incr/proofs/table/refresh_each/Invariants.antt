use Rattle.std.proofs.Common.{◌≡◌, ◌+◌, ◌*◌, ◌≤◌, false, ℕ, [], List, length, take, get_or, None, IsTrue}
use Rattle.format_spec.specs.Bytes.{part_count}
use Rattle.page_spec.specs.Layers.{Layer, has_page}
use Rattle.disk_model.specs.OnlyReads.{OnlyReads}
use Rattle.layer_stack.specs.Stacks.{AreLayers}
use Rattle.page_map.specs.Reads.{bytes_of}
use Rattle.page_map.specs.Changes.{SameMaps}
use Rattle.manifest_incr.specs.Tables.{Sums, sums_after}
use Rattle.manifest_incr.proofs.table.refresh_each.Given as goal

abbrev pub invariant-loop-i : goal.invariant-loop-i
invariant-loop-i g l = record {
  faults : g.D.Disk.faults l.initial.disk ≤ g.D.Disk.faults l.disk;
  count : length l.sums.items ≡ length l.initial.sums.items;
  maps : SameMaps l.initial.pages l.pages;
  reads_only : IsTrue g.D.Disk.tells → OnlyReads (1048576 * l.i) (g.D.Disk.view l.initial.disk) (g.D.Disk.view l.disk);
  rest : (i : ℕ) → has_page i l.stale ≡ false → get_or l.sums.items i None ≡ get_or l.initial.sums.items i None;
  sums : IsTrue g.D.Disk.tells → (layers : List Layer) (first : Sums) → AreLayers (g.D.Disk.view l.initial.disk).state.files l.map.stack layers
      → l.initial.sums.items ≡ sums_after l.version [] first (bytes_of layers l.initial.pages l.map) (part_count 256 l.map.length)
      → l.sums.items ≡ sums_after l.version (take l.i l.stale) first (bytes_of layers l.initial.pages l.map) (part_count 256 l.map.length);
}
