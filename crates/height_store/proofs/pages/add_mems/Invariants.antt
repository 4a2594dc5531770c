use Rattle.std.proofs.Common.{◌≡◌, ◌++◌, take}
use Rattle.height_store.specs.Naming.{rows_of}
use Rattle.height_store.proofs.pages.add_mems.Given as goal

abbrev pub invariant-loop-i : goal.invariant-loop-i
invariant-loop-i l = l.all.items ≡ l.initial.all.items ++ rows_of (take l.i l.mems) (take l.i l.pages)
