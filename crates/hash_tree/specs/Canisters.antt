-- The trees of canisters.
use Rattle.std.specs.Prelude.{List, [], ◌∷◌, codes}
use Rattle.format_spec.specs.Bytes.{Bytes}
use Rattle.state_spec.specs.State.{CanisterPart}
use Rattle.tree_spec.specs.Tree.{Tree, labeled, forks}
use Rattle.tree_spec.specs.Labelled.{child_trees, canister_children, leaf_at, with_wasm}

-- what stands below the id of a canister
abbrev pub record_tree : CanisterPart → Tree
record_tree c = forks (child_trees (leaf_at (codes "certified_data") c.certified (with_wasm c.wasm)))

abbrev pub canister_tree : Bytes × CanisterPart → Tree
canister_tree c = labeled c.0 (record_tree c.1)

-- the tree of all canisters, where there is one
abbrev pub canister_trees : List (Bytes × CanisterPart) → List Tree
canister_trees [] = []
canister_trees (c ∷ cs) = labeled (codes "canister") (forks (child_trees (canister_children (c ∷ cs)))) ∷ []
