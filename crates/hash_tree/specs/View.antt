-- The tree that a `HashTree` is.
use Rattle.tree_spec.specs.Tree.{Tree, empty, fork, labeled, leaf, pruned}
use Rattle.hash_tree.specs.declared.tree.HashTree.{HashTree, Empty, Fork', Labeled', Leaf, Pruned}

abbrev pub tree_view : HashTree → Tree
tree_view Empty = empty
tree_view (Fork' p left q right) = fork (tree_view left) (tree_view right)
tree_view (Labeled' label p below) = labeled label (tree_view below)
tree_view (Leaf bytes) = leaf bytes
tree_view (Pruned hash) = pruned hash
