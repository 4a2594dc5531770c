use Rattle.std.proofs.Common.{◌≡◌, ◌||◌, ℕ, nat_eq, take}
use Rattle.std.specs.List.{list_any, AllByRecursion}
use Rattle.height_store.specs.Store.{IsHeight, is_named}
use Rattle.height_store.proofs.needing.gather.Given as goal

abbrev pub invariant-loop-height : goal.invariant-loop-height
invariant-loop-height l = record {
  each : (n : ℕ) → list_any (nat_eq n) l.numbers.items ≡ (list_any (nat_eq n) l.pins || is_named (take l.height-index l.heights) n);
  good : AllByRecursion IsHeight (take l.height-index l.heights);
}
