use Rattle.std.proofs.Common.{◌≡◌, map, get_or, None}
use Rattle.std.specs.List.{range_with_len}
use Rattle.manifest_incr.proofs.table.first_sums.Given as goal

abbrev pub invariant-loop-i : goal.invariant-loop-i
invariant-loop-i l = l.first.items ≡ map (λ i. get_or l.sums i None) (range_with_len 0 l.i)
