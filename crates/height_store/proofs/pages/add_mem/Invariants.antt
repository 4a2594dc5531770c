use Rattle.std.proofs.Common.{◌≡◌, ◌++◌, map, take}
use Rattle.height_store.proofs.pages.add_mem.Given as goal

abbrev pub invariant-loop-number : goal.invariant-loop-number
invariant-loop-number l = l.all.items ≡ l.initial.all.items ++ map (λ number. (number, l.pages)) (take l.number-index l.layers)
