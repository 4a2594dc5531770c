-- What the witness of some paths is, and what it shows.
use Rattle.std.specs.Prelude.{◌≡◌, ◌≢◌, true, false, List, [], Contains}
use Rattle.format_spec.specs.Bytes.{Bytes}
use Rattle.state_spec.specs.State.{SystemPart}
use Rattle.tree_spec.specs.Tree.{Tree, reconstruct}
use Rattle.tree_spec.specs.Labelled.{root_children, state_tree}
use Rattle.tree_spec.specs.Lookup.{lookup, unknown}
use Rattle.tree_spec.specs.Witness.{witness, is_hidden}
use Rattle.tree_spec.specs.Cbor.{IsSpellable}

-- the witness of these paths in the tree of these parts of a state: it has the tree's hash and can be spelled, and each
-- path gives in it what it gives in the tree, but unknown where it ends at a node that no other of the paths enters
pub record IsWitness (s : SystemPart) (paths : List (List Bytes)) (w : Tree) : Type 0 where
  pub value : w ≡ witness s paths
  pub hash : reconstruct w ≡ reconstruct (state_tree s)
  pub good : IsSpellable w
  pub shown : (p : List Bytes) → Contains paths p → p ≢ [] → is_hidden paths p (root_children s) ≡ false
      → lookup p w ≡ lookup p (state_tree s)
  pub hidden : (p : List Bytes) → Contains paths p → p ≢ [] → is_hidden paths p (root_children s) ≡ true → lookup p w ≡ unknown
