-- The tree of a state and each witness of it can be spelled.
use Rattle.std.proofs.Common.{ℕ, ◌≤◌, List, arith}
use Rattle.format_spec.specs.Bytes.{Bytes}
use Rattle.state_spec.specs.State.{SystemPart, IsSystem}
use Rattle.tree_spec.specs.Labelled.{root_children, state_tree}
use Rattle.tree_spec.specs.Tree.{depth}
use Rattle.tree_spec.specs.Witness.{witness}
use Rattle.tree_spec.specs.Cbor.{IsSpellable}
use Rattle.soundness.proofs.StateTrees.{state_in_order, state_tree_good}
use Rattle.soundness.proofs.WitnessShapes.{witness_like, witness_hashes}
use Rattle.soundness.proofs.LikeTrees.{like_depth, like_sizes, like_well_formed}
use Rattle.soundness.proofs.SmallTrees.{state_depth, state_sizes}

pub tree_spellable : (v : ℕ) (s : SystemPart) → IsSystem v s → IsSpellable (state_tree s)
tree_spellable v s good = record {
  well_formed = (state_tree_good s good.ids_ascend).1;
  shallow = omega (arith, state_depth v s good);
  sizes = state_sizes v s good;
}

pub witness_spellable : (v : ℕ) (s : SystemPart) (paths : List (List Bytes)) → IsSystem v s → IsSpellable (witness s paths)
unfolding witness state_tree
witness_spellable v s paths good =
    let like = witness_like paths (root_children s) in
    let whole = tree_spellable v s good in
    record {
      well_formed = like_well_formed like whole.well_formed;
      shallow = omega (arith, like_depth like, whole.shallow);
      sizes = like_sizes like (witness_hashes paths (root_children s) (state_in_order s good.ids_ascend)) whole.sizes;
    }

pub witness_depth : (v : ℕ) (s : SystemPart) (paths : List (List Bytes)) → IsSystem v s → depth (witness s paths) ≤ 152
unfolding witness state_tree
witness_depth v s paths good = omega (arith, like_depth (witness_like paths (root_children s)), state_depth v s good)
