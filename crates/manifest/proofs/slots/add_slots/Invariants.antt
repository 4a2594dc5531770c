use Rattle.std.proofs.Common.{◌≡◌, ◌++◌, map}
use Rattle.std.specs.List.{range_with_len}
use Rattle.manifest.proofs.Slotting.{slot_at}
use Rattle.manifest.proofs.slots.add_slots.Given as goal

abbrev pub invariant-loop-i : goal.invariant-loop-i
invariant-loop-i l = l.found.items ≡ l.initial.found.items ++ map (slot_at l.file l.size) (range_with_len 0 l.i)
