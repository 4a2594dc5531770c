use Rattle.std.specs.List.{AllByRecursion}
use Rattle.hash_tree.specs.Levels.{HasFirst, level}
use Rattle.hash_tree.proofs.entries.end_of_label.Given as goal

abbrev pub invariant-loop-i : goal.invariant-loop-i
invariant-loop-i l = AllByRecursion (HasFirst l.label) (level l.depth l.from l.i l.sys.entries)
