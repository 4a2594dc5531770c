-- What the paths that a witness of a state was asked for give in it.
use Rattle.std.proofs.Common.{◌≡◌, ◌≢◌, ◌⊎◌, ℕ, zero, suc, ◌<◌, Bool, true, false, List, [], ◌∷◌, length, get_or, fold, codes, Option, Some, None, Contains, refl, inl, inr, arith, Ordering, Less, Equal, Greater}
use Rattle.std.proofs.Common.{not}
use Rattle.std.specs.List.{list_any}
use Rattle.std.proofs.lemmas.Bool.{and_parts}
use Rattle.format_spec.specs.Bytes.{Bytes, bytes_cmp, ascending, leb}
use Rattle.state_spec.specs.State.{SystemPart, CanisterPart, IsSystem}
use Rattle.tree_spec.specs.Tree.{labels, is_good_inside, is_well_formed}
use Rattle.tree_spec.specs.Lookup.{lookup, unknown}
use Rattle.tree_spec.specs.Labelled.{Children, none, leaf_at, node_at, put_leaf, put_node, put_path, with_wasm, canister_children, entry_children, with_canisters, root_children, state_tree}
use Rattle.tree_spec.specs.Witness.{ends_at_node, goes_on_behind, is_hidden, witness_of, witness}
use Rattle.soundness.proofs.Lookups.{Ordered, lookup_too}
use Rattle.soundness.proofs.StateTrees.{state_in_order, state_tree_good}
use Rattle.soundness.proofs.WitnessShapes.{witness_like}
use Rattle.soundness.proofs.ShownGaps.{HasChild, Asked}
use Rattle.soundness.proofs.ShownPaths.{Filled, Sound, hidden_unknown, shown_tells}

-- ---- each node of a state's labels has a child

leaf_some : (l v : Bytes) (c : Children) → HasChild (put_leaf l v c)
leaf_some l v none = tt
leaf_some l v (leaf_at k w rest) = by (bytes_cmp l k)
  where
    by : (o : Ordering) → HasChild (elim o as (λ x. Children) [ Less ↦ leaf_at l v (leaf_at k w rest) | Equal ↦ leaf_at l v rest | Greater ↦ leaf_at k w (put_leaf l v rest) ])
    by Less = tt
    by Equal = tt
    by Greater = tt
leaf_some l v (node_at k below rest) = by (bytes_cmp l k)
  where
    by : (o : Ordering) → HasChild (elim o as (λ x. Children) [ Less ↦ leaf_at l v (node_at k below rest) | Equal ↦ leaf_at l v rest | Greater ↦ node_at k below (put_leaf l v rest) ])
    by Less = tt
    by Equal = tt
    by Greater = tt

node_some : (f : Children → Children) (l : Bytes) (c : Children) → HasChild (put_node l f c)
node_some f l none = tt
node_some f l (leaf_at k w rest) = by (bytes_cmp l k)
  where
    by : (o : Ordering) → HasChild (elim o as (λ x. Children) [ Less ↦ node_at l (f none) (leaf_at k w rest) | Equal ↦ node_at l (f none) rest | Greater ↦ leaf_at k w (put_node l f rest) ])
    by Less = tt
    by Equal = tt
    by Greater = tt
node_some f l (node_at k below rest) = by (bytes_cmp l k)
  where
    by : (o : Ordering) → HasChild (elim o as (λ x. Children) [ Less ↦ node_at l (f none) (node_at k below rest) | Equal ↦ node_at l (f below) rest | Greater ↦ node_at k below (put_node l f rest) ])
    by Less = tt
    by Equal = tt
    by Greater = tt

leaf_filled : (l v : Bytes) (c : Children) → Filled c → Filled (put_leaf l v c)
leaf_filled l v none h = tt
leaf_filled l v (leaf_at k w rest) h = by (bytes_cmp l k) (leaf_filled l v rest h)
  where
    by : (o : Ordering) → Filled (put_leaf l v rest) → Filled (elim o as (λ x. Children) [ Less ↦ leaf_at l v (leaf_at k w rest) | Equal ↦ leaf_at l v rest | Greater ↦ leaf_at k w (put_leaf l v rest) ])
    by Less r = h
    by Equal r = h
    by Greater r = r
leaf_filled l v (node_at k below rest) h = by (bytes_cmp l k) (leaf_filled l v rest h.2)
  where
    by : (o : Ordering) → Filled (put_leaf l v rest) → Filled (elim o as (λ x. Children) [ Less ↦ leaf_at l v (node_at k below rest) | Equal ↦ leaf_at l v rest | Greater ↦ node_at k below (put_leaf l v rest) ])
    by Less r = h
    by Equal r = h.2
    by Greater r = (h.0, h.1, r)

module _ (f : Children → Children) (some : (d : Children) → HasChild (f d)) (keeps : (d : Children) → Filled d → Filled (f d)) where
  node_filled : (l : Bytes) (c : Children) → Filled c → Filled (put_node l f c)
  node_filled l none h = (some none, keeps none tt, tt)
  node_filled l (leaf_at k w rest) h = by (bytes_cmp l k) (node_filled l rest h)
    where
      by : (o : Ordering) → Filled (put_node l f rest) → Filled (elim o as (λ x. Children) [ Less ↦ node_at l (f none) (leaf_at k w rest) | Equal ↦ node_at l (f none) rest | Greater ↦ leaf_at k w (put_node l f rest) ])
      by Less r = (some none, keeps none tt, h)
      by Equal r = (some none, keeps none tt, h)
      by Greater r = r
  node_filled l (node_at k below rest) h = by (bytes_cmp l k) (node_filled l rest h.2)
    where
      by : (o : Ordering) → Filled (put_node l f rest) → Filled (elim o as (λ x. Children) [ Less ↦ node_at l (f none) (node_at k below rest) | Equal ↦ node_at l (f below) rest | Greater ↦ node_at k below (put_node l f rest) ])
      by Less r = (some none, keeps none tt, h)
      by Equal r = (some below, keeps below h.1, h.2)
      by Greater r = (h.0, h.1, r)

path_some : (l : Bytes) (p : List Bytes) (v : Bytes) (c : Children) → HasChild (put_path (l ∷ p) v c)
path_some l [] v c = leaf_some l v c
path_some l (m ∷ p) v c = node_some (put_path (m ∷ p) v) l c

path_filled : (p : List Bytes) (v : Bytes) (c : Children) → Filled c → Filled (put_path p v c)
path_filled [] v c h = h
path_filled (l ∷ []) v c h = leaf_filled l v c h
path_filled (l ∷ m ∷ p) v c h = node_filled (put_path (m ∷ p) v) (λ d. path_some m p v d) (λ d g. path_filled (m ∷ p) v d g) l c h

entries_filled : (es : List (List Bytes × Bytes)) (c : Children) → Filled c → Filled (fold (λ children e. put_path e.0 e.1 children) c es)
entries_filled [] c h = h
entries_filled (e ∷ es) c h = entries_filled es (put_path e.0 e.1 c) (path_filled e.0 e.1 c h)

wasm_filled : (w : Option Bytes) → Filled (with_wasm w)
wasm_filled None = tt
wasm_filled (Some w) = tt

canisters_filled : (cs : List (Bytes × CanisterPart)) → Filled (canister_children cs)
canisters_filled [] = tt
canisters_filled (c ∷ cs) = (tt, wasm_filled c.1.wasm, canisters_filled cs)

with_canisters_filled : (cs : List (Bytes × CanisterPart)) (c : Children) → Filled c → Filled (with_canisters cs c)
with_canisters_filled [] c h = h
with_canisters_filled (d ∷ ds) c h = node_filled (λ before. canister_children (d ∷ ds)) (λ x. tt) (λ x g. canisters_filled (d ∷ ds)) (codes "canister") c h

state_sound : (v : ℕ) (s : SystemPart) → IsSystem v s → Sound (root_children s)
unfolding root_children
state_sound v s good =
    let c : Children = with_canisters s.canisters (entry_children s.entries) in
    record {
      some = leaf_some (codes "time") (leb s.time) c;
      order = state_in_order s good.ids_ascend;
      filled = leaf_filled (codes "time") (leb s.time) c (with_canisters_filled s.canisters (entry_children s.entries) (entries_filled s.entries none tt));
    }

-- ---- the paths

asked : (p : List Bytes) (ps : List (List Bytes)) → Contains ps p → Asked p ps
asked p ps c = at ps c.0 c.1 c.2
  where
    at : (ps : List (List Bytes)) (k : ℕ) → k < length ps → get_or ps k p ≡ p → Asked p ps
    at [] k lt e = absurd (omega (arith, lt))
    at (q ∷ qs) zero lt e = inl e
    at (q ∷ qs) (suc k) lt e = inr (at qs k (omega (arith, lt)) e)

pub path_hidden : (v : ℕ) (s : SystemPart) (ps : List (List Bytes)) (p : List Bytes) → IsSystem v s → Contains ps p → p ≢ [] → is_hidden ps p (root_children s) ≡ true → lookup p (witness s ps) ≡ unknown
unfolding witness witness_of
path_hidden v s ps [] good c ne h = absurd (ne refl)
path_hidden v s ps (l ∷ path) good c ne h =
    let parts = and_parts (ends_at_node (l ∷ path) (root_children s)) (not (list_any (goes_on_behind (l ∷ path)) ps)) h in
    hidden_unknown path l ps (root_children s) (state_sound v s good) (asked (l ∷ path) ps c) parts.0 (by (list_any (goes_on_behind (l ∷ path)) ps) parts.1)
  where
    by : (b : Bool) → not b ≡ true → b ≡ false
    by true e = absurd cc
    by false e = refl

pub path_shown : (v : ℕ) (s : SystemPart) (ps : List (List Bytes)) (p : List Bytes) → IsSystem v s → Contains ps p → p ≢ [] → is_hidden ps p (root_children s) ≡ false → lookup p (witness s ps) ≡ lookup p (state_tree s)
unfolding witness witness_of state_tree is_well_formed
path_shown v s ps [] good c ne h = absurd (ne refl)
path_shown v s ps (l ∷ path) good c ne h = by (lookup_too (l ∷ path) (witness s ps) (state_tree s) (witness_like ps (root_children s)) ordered)
  where
    ordered : Ordered (state_tree s)
    ordered = and_parts (ascending bytes_cmp (labels (state_tree s))) (is_good_inside (state_tree s)) (state_tree_good s good.ids_ascend).1

    by : (lookup (l ∷ path) (witness s ps) ≡ unknown) ⊎ (lookup (l ∷ path) (witness s ps) ≡ lookup (l ∷ path) (state_tree s)) → lookup (l ∷ path) (witness s ps) ≡ lookup (l ∷ path) (state_tree s)
    by (inl u) = absurd (shown_tells path l ps (root_children s) (state_sound v s good) (asked (l ∷ path) ps c) h u)
    by (inr e) = e
