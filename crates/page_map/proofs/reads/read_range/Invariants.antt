use Rattle.std.proofs.Common.{◌≡◌, ◌≤◌, ◌+◌, ◌*◌, ◌-◌, ℕ, List, length, take, drop, IsTrue}
use Rattle.std.specs.List.{filter, range_with_len}
use Rattle.format_spec.specs.declared.limits.TheConstants.{PAGE_SIZE}
use Rattle.page_spec.specs.Layers.{Layer}
use Rattle.disk_model.specs.OnlyReads.{OnlyReads}
use Rattle.layer_stack.specs.Stacks.{AreLayers}
use Rattle.page_map.specs.Maps.{own_at}
use Rattle.page_map.specs.Reads.{bytes_with}
use Rattle.page_map.specs.Pieces.{is_foreign}
use Rattle.page_map.proofs.Ranges.{before}
use Rattle.page_map.proofs.reads.read_range.Given as goal

abbrev pub invariant-loop-page : goal.invariant-loop-page
invariant-loop-page g l = record {
  from : l.initial.page ≤ l.page;
  until : l.page ≤ l.page-end;
  faults : g.D.Disk.faults l.initial.disk ≤ g.D.Disk.faults l.disk;
  reads_only : IsTrue g.D.Disk.tells → OnlyReads (PAGE_SIZE * length (filter (is_foreign l.own l.id) (range_with_len l.initial.page (l.page - l.initial.page)))) (g.D.Disk.view l.initial.disk) (g.D.Disk.view l.disk);
  bytes : IsTrue g.D.Disk.tells → (layers : List Layer) (count : ℕ) → AreLayers (g.D.Disk.view l.initial.disk).state.files l.stack layers → l.at + length l.initial.into ≤ count * PAGE_SIZE
      → take (before l.at (length l.initial.into) l.page) l.into ≡ take (before l.at (length l.initial.into) l.page) (drop l.at (bytes_with layers (own_at l.own l.id) count));
}
