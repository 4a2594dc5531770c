use Rattle.std.specs.List.{AllByRecursion}
use Rattle.hash_tree.specs.Levels.{IsBelow, level}
use Rattle.hash_tree.proofs.entries.first_above.Given as goal

abbrev pub invariant-loop-i : goal.invariant-loop-i
invariant-loop-i l = AllByRecursion (IsBelow l.label) (level 0 l.from l.i l.sys.entries)
