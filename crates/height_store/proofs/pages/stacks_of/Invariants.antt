use Rattle.std.proofs.Common.{◌≡◌, map, take}
use Rattle.std.specs.List.{AllByRecursion, Contains}
use Rattle.height_store.specs.Store.{numbers_of}
use Rattle.height_store.proofs.pages.stacks_of.Given as goal

abbrev pub invariant-loop-mem : goal.invariant-loop-mem
invariant-loop-mem l = record {
  numbers : map numbers_of l.stacks.items ≡ map (λ mem. mem.layers) (take l.mem-index l.mems);
  among : AllByRecursion (AllByRecursion (Contains l.files)) l.stacks.items;
}
