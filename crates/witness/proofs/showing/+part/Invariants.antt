use Rattle.tree_spec.specs.Tree.{depth}
use Rattle.hash_tree.specs.View.{tree_view}
use Rattle.witness.proofs.showing.+part.Given as goal

abbrev pub decreases-part : goal.decreases-part
decreases-part l = depth (tree_view l.tree.now)
