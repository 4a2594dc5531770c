use Rattle.std.proofs.Common.{◌≡◌, ◌==◌, not, filter, take}
use Rattle.std.specs.List.{list_any, range_with_len}
use Rattle.sync_core.specs.Linked.{numbers_of}
use Rattle.sync_core.proofs.fresh.Fresh.all_but.Given as goal

abbrev pub invariant-loop-number : goal.invariant-loop-number
invariant-loop-number l =
    (numbers_of l.fresh.links ≡ filter (λ i. not (list_any (λ j. j == i) (take l.number-index l.had))) (range_with_len 0 l.count))
    × (l.fresh.kind ≡ l.fn.kind)
