-- What a checked witness tells, with a clash between byte strings in the other case.
use Rattle.std.proofs.Common.{◌≡◌, ◌⊎◌, true, List, Ok, inl, inr}
use Rattle.format_spec.specs.Bytes.{Bytes, IsBytes, AreByteStrings}
use Rattle.format_spec.specs.Hashes.{Clash}
use Rattle.state_spec.specs.State.{State, IsState, system_of}
use Rattle.tree_spec.specs.Tree.{Tree, empty, fork, labeled, leaf, pruned, reconstruct, hashed_strings, is_well_formed}
use Rattle.tree_spec.specs.Whole.{IsWhole, HasHashes, IsByteTree}
use Rattle.tree_spec.specs.Lookup.{lookup, unknown}
use Rattle.tree_spec.specs.Labelled.{state_tree}
use Rattle.tree_spec.specs.Cbor.{HasSizes, read_tree}
use Rattle.tree_spec.proofs.CborWhole.{tree_found}
use Rattle.soundness.proofs.Strings.{Meet, or_clash}
use Rattle.soundness.proofs.Lookups.{lookups_whole}
use Rattle.soundness.proofs.StateTrees.{state_tree_good}
use Rattle.soundness.proofs.TreeBytes.{tree_strings, text_tree, state_tree_bytes}

pub hashes_of : (t : Tree) → HasSizes t → HasHashes t
hashes_of empty h = tt
hashes_of (fork l r) h = (hashes_of l h.0, hashes_of r h.1)
hashes_of (labeled k t) h = hashes_of t h.1
hashes_of (leaf b) h = tt
hashes_of (pruned b) h = h

behind_or : (A B : Type 0) (xs ys : List Bytes) → AreByteStrings xs → AreByteStrings ys → A ⊎ (B ⊎ Meet xs ys) → A ⊎ (B ⊎ Clash xs ys)
behind_or A B xs ys p q (inl a) = inl a
behind_or A B xs ys p q (inr r) = inr (or_clash B xs ys p q r)

pub lookups_tell : (t u : Tree) (path : List Bytes) → HasHashes t → IsByteTree t → IsWhole u → is_well_formed u ≡ true → IsByteTree u → reconstruct t ≡ reconstruct u
    → (lookup path t ≡ unknown) ⊎ ((lookup path t ≡ lookup path u) ⊎ Clash (hashed_strings t) (hashed_strings u))
lookups_tell t u path g b w o d e =
    behind_or (lookup path t ≡ unknown) (lookup path t ≡ lookup path u) (hashed_strings t) (hashed_strings u) (tree_strings t b) (tree_strings u d) (lookups_whole t u path g w o e)

pub witness_tells : (text : Bytes) (t : Tree) (s : State) (path : List Bytes) → IsBytes text → read_tree text ≡ Ok t → IsState s
    → reconstruct t ≡ reconstruct (state_tree (system_of s))
    → (lookup path t ≡ unknown) ⊎ ((lookup path t ≡ lookup path (state_tree (system_of s))) ⊎ Clash (hashed_strings t) (hashed_strings (state_tree (system_of s))))
witness_tells text t s path bytes read good e =
    let tree = state_tree_good (system_of s) good.system.ids_ascend in
    let found = tree_found text t bytes read in
    lookups_tell t (state_tree (system_of s)) path (hashes_of t found.0.sizes) (text_tree text t bytes found.1) tree.0 tree.1 (state_tree_bytes s good.bytes) e
