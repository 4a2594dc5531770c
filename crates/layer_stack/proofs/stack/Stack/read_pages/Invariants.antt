use Rattle.std.proofs.Common.{◌≡◌, ◌≤◌, ◌*◌, ◌-◌, List, length, take, IsTrue}
use Rattle.format_spec.specs.declared.limits.TheConstants.{PAGE_SIZE}
use Rattle.page_spec.specs.Layers.{Layer}
use Rattle.disk_model.specs.OnlyReads.{OnlyReads}
use Rattle.layer_stack.specs.Stacks.{AreLayers, pages_from}
use Rattle.layer_stack.proofs.stack.Stack.read_pages.Given as goal

abbrev pub invariant-loop-done : goal.invariant-loop-done
invariant-loop-done g l = record {
  within : l.done ≤ length l.pages;
  faults : g.D.Disk.faults l.initial.disk ≤ g.D.Disk.faults l.disk;
  reads_only : IsTrue g.D.Disk.tells → OnlyReads (PAGE_SIZE * l.done) (g.D.Disk.view l.initial.disk) (g.D.Disk.view l.disk);
  bytes : IsTrue g.D.Disk.tells → (layers : List Layer) → AreLayers (g.D.Disk.view l.initial.disk).state.files l.self layers → take (l.done * PAGE_SIZE) l.into ≡ pages_from layers (take l.done l.pages);
}

abbrev pub decreases-loop-done : goal.decreases-loop-done
decreases-loop-done g l = length l.pages - l.done
