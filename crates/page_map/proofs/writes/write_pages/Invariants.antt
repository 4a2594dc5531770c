use Rattle.std.proofs.Common.{◌≡◌, ◌≤◌, ◌+◌, ◌*◌, ◌-◌, ◌&&◌, ℕ, List, length, take, IsTrue, IsSome}
use Rattle.std.specs.List.{filter, range_with_len}
use Rattle.format_spec.specs.declared.limits.TheConstants.{PAGE_SIZE}
use Rattle.state_spec.specs.Memory.{with_bytes_at}
use Rattle.page_spec.specs.Layers.{Layer}
use Rattle.disk_model.specs.OnlyReads.{OnlyReads}
use Rattle.layer_stack.specs.Stacks.{AreLayers}
use Rattle.page_map.specs.Maps.{owns_at, own_at}
use Rattle.page_map.specs.Reads.{bytes_with}
use Rattle.page_map.specs.Changes.{ChangesOnly, Writes}
use Rattle.page_map.specs.Pieces.{is_foreign, is_filled_in_part}
use Rattle.page_map.proofs.Ranges.{before}
use Rattle.page_map.proofs.writes.write_pages.Given as goal

abbrev pub invariant-loop-page : goal.invariant-loop-page
invariant-loop-page g l = record {
  from : l.initial.page ≤ l.page;
  until : l.page ≤ l.page-end;
  faults : g.D.Disk.faults l.initial.disk ≤ g.D.Disk.faults l.disk;
  live : IsSome (owns_at l.own l.id);
  written : Writes (own_at l.initial.own l.id) (own_at l.own l.id) l.stamp l.initial.page l.page;
  others : ChangesOnly l.initial.own l.own l.id;
  reads_only : IsTrue g.D.Disk.tells → OnlyReads (PAGE_SIZE * length (filter (λ page. is_filled_in_part l.at (length l.bytes) page && is_foreign l.initial.own l.id page) (range_with_len l.initial.page (l.page - l.initial.page)))) (g.D.Disk.view l.initial.disk) (g.D.Disk.view l.disk);
  bytes : IsTrue g.D.Disk.tells → (layers : List Layer) (count : ℕ) → AreLayers (g.D.Disk.view l.initial.disk).state.files l.stack layers → l.at + length l.bytes ≤ count * PAGE_SIZE
      → bytes_with layers (own_at l.own l.id) count ≡ with_bytes_at (bytes_with layers (own_at l.initial.own l.id) count) l.at (take (before l.at (length l.bytes) l.page) l.bytes);
}
