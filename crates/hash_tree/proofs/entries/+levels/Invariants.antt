use Rattle.std.proofs.Common.{◌-◌, ◌*◌, ◌+◌}
use Rattle.hash_tree.proofs.entries.+levels.Given as goal
use Rattle.hash_tree.proofs.Growing.{Walked}

abbrev pub decreases-push_level : goal.decreases-push_level
decreases-push_level l = 2 * (8 - l.depth) + 1

abbrev pub decreases-label_branch : goal.decreases-label_branch
decreases-label_branch l = 2 * (8 - l.depth)

abbrev pub invariant-push_level-loop-at : goal.invariant-push_level-loop-at
invariant-push_level-loop-at l = Walked l.depth l.from l.at l.to l.sys.entries l.initial.branches.items l.branches.items

abbrev pub decreases-push_level-loop-at : goal.decreases-push_level-loop-at
decreases-push_level-loop-at l = l.to - l.at
