use Rattle.std.proofs.Common.{◌≡◌, map, take}
use Rattle.mark_file.proofs.making.last_hashes.Given as goal

abbrev pub invariant-loop-row : goal.invariant-loop-row
invariant-loop-row l = l.hashes.items ≡ map (λ row. row.sum.hash) (take l.row-index l.row-items)
