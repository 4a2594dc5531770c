-- The branches of canisters, and branches that are pushed one by one.
use Rattle.std.proofs.Common.{◌≡◌, ℕ, zero, suc, ◌+◌, ◌≤◌, List, [], ◌∷◌, ◌++◌, length, drop, codes, Option, Some, None, slice_get, refl, sym, ap, ◌∙◌, arith}
use Rattle.std.proofs.lemmas.List.{length-map}
use Rattle.sha2.specs.Sha256.{sha256}
use Rattle.format_spec.specs.Bytes.{Bytes}
use Rattle.state_spec.specs.State.{CanisterPart}
use Rattle.tree_spec.specs.Tree.{Tree, fork, labeled, leaf, forks}
use Rattle.tree_spec.specs.Labelled.{child_trees, canister_children, leaf_at, with_wasm}
use Rattle.sys_state.specs.declared.record.CanisterRecord.{CanisterRecord}
use Rattle.sys_state.specs.System.{parts, part_of_record}
use Rattle.hash_tree.specs.declared.tree.HashTree.{HashTree}
use Rattle.hash_tree.specs.Canisters.{record_tree, canister_tree, canister_trees}
use Rattle.hash_tree.specs.View.{tree_view}
use Rattle.hash_tree.specs.Stack.{Pushes, Takes}
use Rattle.format_spec.proofs.Lists.{drop_found}

abbrev certified_tree : CanisterPart → Tree
certified_tree c = labeled (codes "certified_data") (leaf c.certified)

abbrev tree_with : Option Bytes → Bytes → Tree
tree_with wasm certified = forks (child_trees (leaf_at (codes "certified_data") certified (with_wasm wasm)))

pub record_none : (c : CanisterPart) (t : Tree) → c.wasm ≡ None → t ≡ certified_tree c → t ≡ record_tree c
unfolding forks
record_none c t is e = e ∙ ap (λ wasm. tree_with wasm c.certified) (sym is)

pub record_some : (c : CanisterPart) (m : Bytes) (t a b : Tree) → c.wasm ≡ Some m → a ≡ certified_tree c
    → b ≡ labeled (codes "module_hash") (leaf (sha256 m)) → t ≡ fork a b → t ≡ record_tree c
unfolding forks
record_some c m t a b is e f g = g ∙ (λ i. fork (e i) (f i)) ∙ ap (λ wasm. tree_with wasm c.certified) (sym is)

-- ---- one by one

pub next_canister : (cs : List (Bytes × CanisterRecord)) (i : ℕ) (c : Bytes × CanisterRecord) → slice_get cs i ≡ Some c
    → child_trees (canister_children (parts (drop i cs))) ≡ canister_tree (c.0, part_of_record c.1) ∷ child_trees (canister_children (parts (drop (i + 1) cs)))
next_canister cs i c is = ap (λ es. child_trees (canister_children (parts es))) (drop_found cs i c is)

pub no_canister_left : (cs : List (Bytes × CanisterRecord)) (i : ℕ) → length cs ≤ i → child_trees (canister_children (parts (drop i cs))) ≡ []
no_canister_left [] zero le = refl
no_canister_left [] (suc i) le = refl
no_canister_left (c ∷ cs) zero le = absurd (omega arith)
no_canister_left (c ∷ cs) (suc i) le = no_canister_left cs i (omega arith)

-- ---- all of them

pub as_many : (cs : List (Bytes × CanisterRecord)) → length (child_trees (canister_children (parts cs))) ≡ length cs
as_many [] = refl
as_many (c ∷ cs) = ap suc (as_many cs)

pub all_canisters : (cs : List (Bytes × CanisterRecord)) (old middle left new : List HashTree) (count : ℕ) (all t : HashTree)
    → (length cs ≡ 0 → ⊥) → Pushes old middle (child_trees (canister_children (parts cs))) → count ≡ length cs → Takes middle left count all
    → tree_view t ≡ labeled (codes "canister") (tree_view all) → new ≡ left ++ t ∷ [] → Pushes old new (canister_trees (parts cs))
all_canisters [] old middle left new count all t some p is takes e now = absurd (some refl)
all_canisters (c ∷ cs) old middle left new count all t some p is takes e now =
    let n = ap length p.views in
    let taken = takes old p.added p.new_is (omega (arith, n, is, length-map p.added tree_view, as_many (c ∷ cs))) in
    record {
      added = t ∷ [];
      new_is = now ∙ ap (λ xs. xs ++ t ∷ []) taken.0;
      views = ap (λ (u : Tree). u ∷ []) (e ∙ ap (labeled (codes "canister")) (taken.1 ∙ ap forks p.views));
    }
