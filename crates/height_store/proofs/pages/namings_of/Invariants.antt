use Rattle.std.proofs.Common.{◌≡◌, map, take}
use Rattle.height_store.specs.Bad.{namings}
use Rattle.height_store.specs.Opened.{parts_of}
use Rattle.height_store.proofs.pages.namings_of.Given as goal

abbrev pub invariant-loop-mark : goal.invariant-loop-mark
invariant-loop-mark l = l.all.items ≡ namings (map parts_of (take l.mark-index l.marks))
