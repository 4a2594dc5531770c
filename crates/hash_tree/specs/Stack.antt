-- Branches that stand behind one another in a list.
use Rattle.std.specs.Prelude.{◌≡◌, ℕ, List, ◌++◌, map, length}
use Rattle.tree_spec.specs.Tree.{Tree, forks}
use Rattle.hash_tree.specs.declared.tree.HashTree.{HashTree}
use Rattle.hash_tree.specs.View.{tree_view}

-- these trees have come at the end
pub record Pushes (old new : List HashTree) (ts : List Tree) : Type 0 where
  pub added : List HashTree
  pub new_is : new ≡ old ++ added
  pub views : map tree_view added ≡ ts

-- the last so many trees are gone, and the tree has them under forks
abbrev pub Takes : List HashTree → List HashTree → ℕ → HashTree → Type 0
Takes old new count tree = (before last : List HashTree) → old ≡ before ++ last → length last ≡ count
    → (new ≡ before) × (tree_view tree ≡ forks (map tree_view last))

-- some of these trees have come at the end, and others are left
pub record Pushed (old new : List HashTree) (all left : List Tree) : Type 0 where
  pub added : List HashTree
  pub new_is : new ≡ old ++ added
  pub views : map tree_view added ++ left ≡ all
