use Rattle.std.proofs.Common.{◌≡◌, ◌||◌, ℕ, nat_eq, take}
use Rattle.std.specs.List.{list_any}
use Rattle.height_store.proofs.needing.add_layers.Given as goal

abbrev pub invariant-loop-mem : goal.invariant-loop-mem
invariant-loop-mem l =
    (n : ℕ) → list_any (nat_eq n) l.numbers.items ≡ (list_any (nat_eq n) l.initial.numbers.items || list_any (λ memory. list_any (nat_eq n) memory.layers) (take l.mem-index l.mems))
