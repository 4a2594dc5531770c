use Rattle.std.proofs.Common.{◌≡◌, take}
use Rattle.std.specs.List.{AllByRecursion, Contains}
use Rattle.height_store.specs.Store.{numbers_of}
use Rattle.height_store.proofs.pages.stack_of.Given as goal

abbrev pub invariant-loop-number : goal.invariant-loop-number
invariant-loop-number l = record {
  numbers : numbers_of l.stack ≡ take l.number-index l.layers;
  among : AllByRecursion (Contains l.files) l.stack;
}
