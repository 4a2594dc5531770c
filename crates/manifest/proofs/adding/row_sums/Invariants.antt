use Rattle.std.proofs.Common.{◌≡◌, take}
use Rattle.manifest.specs.Adding.{sums_from}
use Rattle.manifest.proofs.adding.row_sums.Given as goal

abbrev pub invariant-loop-i : goal.invariant-loop-i
invariant-loop-i l = l.sums.items ≡ sums_from l.size (take l.i l.hashes)
