use Rattle.std.proofs.Common.{length, ap, arith}
use Rattle.tree_spec.specs.Labelled.{tree_of, state_tree}
use Rattle.hash_tree.proofs.Stacking.{takes_pushed}
use Rattle.hash_tree.proofs.state_tree.StateTree.build.Goals as goal

pub returns : goal.returns
unfolding tree_of state_tree
returns c =
    let taken = takes_pushed _ _ _ _ c.len-count.result _ c.in_ok-push_children.ensures (omega (arith, ap length c.new-branches.ensures.items)) c.in_ok-take_forks.ensures.taken in
    taken.1
