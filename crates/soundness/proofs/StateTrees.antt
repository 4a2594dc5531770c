-- The tree of a state is whole and well-formed.
use Rattle.std.proofs.Common.{◌≡◌, ℕ, zero, suc, ◌≤◌, true, not, ◌&&◌, List, [], ◌∷◌, ◌++◌, length, take, drop, fold, codes, Option, Some, None, refl, sym, ap, ◌∙◌, subst, arith, is_lt, Ordering, Less, Equal, Greater, take-append-drop}
use Rattle.std.specs.List.{list_all}
use Rattle.std.specs.FinMap.{is_sorted}
use Rattle.std.specs.FinMap.Entries.{below_all}
use Rattle.std.specs.Ordering.{ordering_reverse}
use Rattle.std.specs.Cmp.Lexicographic.{nat_list_cmp_total}
use Rattle.std.proofs.lemmas.Bool.{and_parts, and_from}
use Rattle.std.proofs.lemmas.List.{length-take, length-drop}
use Rattle.format_spec.specs.Bytes.{Bytes, bytes_cmp, ascending, leb}
use Rattle.format_spec.proofs.Follow.{above_too}
use Rattle.state_spec.specs.State.{SystemPart, CanisterPart}
use Rattle.tree_spec.specs.Tree.{Tree, empty, fork, labeled, leaf, pruned, flatten, labels, is_leaf, is_good_inside, is_well_formed, half, forks_within, forks}
use Rattle.tree_spec.specs.Labelled.{Children, none, leaf_at, node_at, put_leaf, put_node, put_path, with_wasm, canister_children, entry_children, with_canisters, root_children, child_trees, tree_of, state_tree}
use Rattle.tree_spec.specs.Witness.{child_labels}
use Rattle.tree_spec.specs.Whole.{IsWhole}
use Rattle.soundness.proofs.Levels.{labels_in}
use Rattle.tree_spec.proofs.Forks.{half_some}
use Rattle.std.proofs.lemmas.Map.Lookups.{exact_bytes}

-- ---- labelled trees under forks

abbrev pub Child : Tree → Type 0
Child empty = ⊥
Child (fork l r) = ⊥
Child (labeled l a) = IsWhole a × (is_good_inside (labeled l a) ≡ true)
Child (leaf b) = ⊥
Child (pruned h) = ⊥

abbrev pub AllChild : List Tree → Type 0
AllChild [] = Unit {0}
AllChild (t ∷ ts) = Child t × AllChild ts

pub child_take : (n : ℕ) (ts : List Tree) → AllChild ts → AllChild (take n ts)
child_take zero ts h = tt
child_take (suc n) [] h = tt
child_take (suc n) (t ∷ ts) h = (h.0, child_take n ts h.1)

pub child_drop : (n : ℕ) (ts : List Tree) → AllChild ts → AllChild (drop n ts)
child_drop zero ts h = h
child_drop (suc n) [] h = tt
child_drop (suc n) (t ∷ ts) h = child_drop n ts h.1

pub record Good (t : Tree) (ts : List Tree) : Type 0 where
  pub level : flatten t ≡ ts
  pub whole : IsWhole t
  pub inside : is_good_inside t ≡ true
  pub no_leaf : not (is_leaf t) ≡ true

one_good : (t : Tree) → Child t → Good t (t ∷ [])
one_good empty h = absurd h
one_good (fork l r) h = absurd h
one_good (labeled l a) h = record { level = refl; whole = h.0; inside = h.1; no_leaf = refl }
one_good (leaf b) h = absurd h
one_good (pruned x) h = absurd h

two_good : (l r : Tree) (ts us vs : List Tree) → Good l ts → Good r us → ts ++ us ≡ vs → Good (fork l r) vs
two_good l r ts us vs p q e = record {
  level = ap (λ (x : List Tree). x ++ flatten r) p.level ∙ ap (λ (x : List Tree). ts ++ x) q.level ∙ e;
  whole = (p.whole, q.whole);
  inside = and_from (not (is_leaf l) && not (is_leaf r) && is_good_inside l) (is_good_inside r)
      (and_from (not (is_leaf l) && not (is_leaf r)) (is_good_inside l) (and_from (not (is_leaf l)) (not (is_leaf r)) p.no_leaf q.no_leaf) p.inside) q.inside;
  no_leaf = refl;
}

forks_good : (n : ℕ) (xs : List Tree) → length xs ≤ n → AllChild xs → Good (forks_within n xs) xs
forks_good n [] p h = record { level = refl; whole = tt; inside = refl; no_leaf = refl }
forks_good n (t ∷ []) p h = one_good t h.0
forks_good zero (t ∷ u ∷ ts) p h = absurd (omega arith)
forks_good (suc n) (t ∷ u ∷ ts) p h =
    let xs : List Tree = t ∷ u ∷ ts in
    let s = half_some t u ts in
    let left = length-take (half xs) xs in
    let right = length-drop (half xs) xs in
    two_good (forks_within n (take (half xs) xs)) (forks_within n (drop (half xs) xs)) (take (half xs) xs) (drop (half xs) xs) xs
    (forks_good n (take (half xs) xs) (omega (arith, left, s.1, p)) (child_take (half xs) xs h))
    (forks_good n (drop (half xs) xs) (omega (arith, right, s.0, p)) (child_drop (half xs) xs h))
    (take-append-drop (half xs) xs)

pub forks_are : (xs : List Tree) → AllChild xs → Good (forks xs) xs
unfolding forks
forks_are xs h = forks_good (length xs) xs (omega arith) h

-- ---- children in order

abbrev pub AboveAll : Bytes → Children → Type 0
AboveAll l c = list_all (λ j. is_lt (bytes_cmp l j)) (child_labels c) ≡ true

abbrev pub InOrder : Children → Type 0
InOrder none = Unit {0}
InOrder (leaf_at l v rest) = AboveAll l rest × InOrder rest
InOrder (node_at l below rest) = AboveAll l rest × InOrder below × InOrder rest

pub labels_ascend : (c : Children) → InOrder c → ascending bytes_cmp (child_labels c) ≡ true
labels_ascend none h = refl
labels_ascend (leaf_at l v rest) h = and_from (list_all (λ j. is_lt (bytes_cmp l j)) (child_labels rest)) (ascending bytes_cmp (child_labels rest)) h.0 (labels_ascend rest h.1)
labels_ascend (node_at l below rest) h = and_from (list_all (λ j. is_lt (bytes_cmp l j)) (child_labels rest)) (ascending bytes_cmp (child_labels rest)) h.0 (labels_ascend rest h.2)

pub labels_are : (c : Children) → labels_in (child_trees c) ≡ child_labels c
labels_are none = refl
labels_are (leaf_at l v rest) = ap (λ (x : List Bytes). l ∷ x) (labels_are rest)
labels_are (node_at l below rest) = ap (λ (x : List Bytes). l ∷ x) (labels_are rest)

level_ascends : (t : Tree) (c : Children) → Good t (child_trees c) → InOrder c → ascending bytes_cmp (labels t) ≡ true
level_ascends t c g h = ap (λ (x : List Tree). ascending bytes_cmp (labels_in x)) g.level ∙ ap (ascending bytes_cmp) (labels_are c) ∙ labels_ascend c h

pub all_children : (c : Children) → InOrder c → AllChild (child_trees c)
all_children none h = tt
all_children (leaf_at l v rest) h = ((tt, refl), all_children rest h.1)
all_children (node_at l below rest) h =
    let g = forks_are (child_trees below) (all_children below h.1) in
    let t : Tree = forks (child_trees below) in
    ((g.whole, and_from (ascending bytes_cmp (labels t)) (is_good_inside t) (level_ascends t below g h.1) g.inside), all_children rest h.2)

pub tree_good : (c : Children) → InOrder c → IsWhole (tree_of c) × (is_well_formed (tree_of c) ≡ true)
unfolding tree_of is_well_formed
tree_good c h =
    let t : Tree = forks (child_trees c) in
    let g = forks_are (child_trees c) (all_children c h) in
    (g.whole, and_from (ascending bytes_cmp (labels t)) (is_good_inside t) (level_ascends t c g h) g.inside)

-- ---- what is put in keeps the order

less_turned : (a b : Bytes) → bytes_cmp a b ≡ Greater → is_lt (bytes_cmp b a) ≡ true
less_turned a b e = ap is_lt (nat_list_cmp_total.antisymm b a ∙ ap ordering_reverse e)

above_more : (l k : Bytes) (c : Children) → bytes_cmp l k ≡ Less → AboveAll k c → is_lt (bytes_cmp l k) && list_all (λ j. is_lt (bytes_cmp l j)) (child_labels c) ≡ true
above_more l k c e a =
    let lt : is_lt (bytes_cmp l k) ≡ true = ap is_lt e in
    and_from (is_lt (bytes_cmp l k)) (list_all (λ j. is_lt (bytes_cmp l j)) (child_labels c)) lt (above_too l k (child_labels c) lt a)

leaf_above : (k l : Bytes) (v : Bytes) (c : Children) → is_lt (bytes_cmp k l) ≡ true → AboveAll k c → AboveAll k (put_leaf l v c)
leaf_above k l v none lt a = and_from (is_lt (bytes_cmp k l)) true lt refl
leaf_above k l v (leaf_at j w rest) lt a =
    let p = and_parts (is_lt (bytes_cmp k j)) (list_all (λ i. is_lt (bytes_cmp k i)) (child_labels rest)) a in
    by (bytes_cmp l j) p.0 p.1 (leaf_above k l v rest lt p.1)
  where
    by : (o : Ordering) → is_lt (bytes_cmp k j) ≡ true → AboveAll k rest → AboveAll k (put_leaf l v rest) → AboveAll k (elim o as (λ x. Children) [ Less ↦ leaf_at l v (leaf_at j w rest) | Equal ↦ leaf_at l v rest | Greater ↦ leaf_at j w (put_leaf l v rest) ])
    by Less p q r = and_from (is_lt (bytes_cmp k l)) _ lt (and_from (is_lt (bytes_cmp k j)) _ p q)
    by Equal p q r = and_from (is_lt (bytes_cmp k l)) _ lt q
    by Greater p q r = and_from (is_lt (bytes_cmp k j)) _ p r
leaf_above k l v (node_at j below rest) lt a =
    let p = and_parts (is_lt (bytes_cmp k j)) (list_all (λ i. is_lt (bytes_cmp k i)) (child_labels rest)) a in
    by (bytes_cmp l j) p.0 p.1 (leaf_above k l v rest lt p.1)
  where
    by : (o : Ordering) → is_lt (bytes_cmp k j) ≡ true → AboveAll k rest → AboveAll k (put_leaf l v rest) → AboveAll k (elim o as (λ x. Children) [ Less ↦ leaf_at l v (node_at j below rest) | Equal ↦ leaf_at l v rest | Greater ↦ node_at j below (put_leaf l v rest) ])
    by Less p q r = and_from (is_lt (bytes_cmp k l)) _ lt (and_from (is_lt (bytes_cmp k j)) _ p q)
    by Equal p q r = and_from (is_lt (bytes_cmp k l)) _ lt q
    by Greater p q r = and_from (is_lt (bytes_cmp k j)) _ p r

pub leaf_in_order : (l v : Bytes) (c : Children) → InOrder c → InOrder (put_leaf l v c)
leaf_in_order l v none h = (refl, tt)
leaf_in_order l v (leaf_at k w rest) h = by (bytes_cmp l k) refl (leaf_in_order l v rest h.1)
  where
    by : (o : Ordering) → bytes_cmp l k ≡ o → InOrder (put_leaf l v rest) → InOrder (elim o as (λ x. Children) [ Less ↦ leaf_at l v (leaf_at k w rest) | Equal ↦ leaf_at l v rest | Greater ↦ leaf_at k w (put_leaf l v rest) ])
    by Less e r = (above_more l k rest e h.0, h)
    by Equal e r = (subst (λ (x : Bytes). AboveAll x rest) (sym (exact_bytes l k e)) h.0, h.1)
    by Greater e r = (leaf_above k l v rest (less_turned l k e) h.0, r)
leaf_in_order l v (node_at k below rest) h = by (bytes_cmp l k) refl (leaf_in_order l v rest h.2)
  where
    by : (o : Ordering) → bytes_cmp l k ≡ o → InOrder (put_leaf l v rest) → InOrder (elim o as (λ x. Children) [ Less ↦ leaf_at l v (node_at k below rest) | Equal ↦ leaf_at l v rest | Greater ↦ node_at k below (put_leaf l v rest) ])
    by Less e r = (above_more l k rest e h.0, h)
    by Equal e r = (subst (λ (x : Bytes). AboveAll x rest) (sym (exact_bytes l k e)) h.0, h.2)
    by Greater e r = (leaf_above k l v rest (less_turned l k e) h.0, h.1, r)

module _ (f : Children → Children) where
  node_above : (k l : Bytes) (c : Children) → is_lt (bytes_cmp k l) ≡ true → AboveAll k c → AboveAll k (put_node l f c)
  node_above k l none lt a = and_from (is_lt (bytes_cmp k l)) true lt refl
  node_above k l (leaf_at j w rest) lt a =
      let p = and_parts (is_lt (bytes_cmp k j)) (list_all (λ i. is_lt (bytes_cmp k i)) (child_labels rest)) a in
      by (bytes_cmp l j) p.0 p.1 (node_above k l rest lt p.1)
    where
      by : (o : Ordering) → is_lt (bytes_cmp k j) ≡ true → AboveAll k rest → AboveAll k (put_node l f rest) → AboveAll k (elim o as (λ x. Children) [ Less ↦ node_at l (f none) (leaf_at j w rest) | Equal ↦ node_at l (f none) rest | Greater ↦ leaf_at j w (put_node l f rest) ])
      by Less p q r = and_from (is_lt (bytes_cmp k l)) _ lt (and_from (is_lt (bytes_cmp k j)) _ p q)
      by Equal p q r = and_from (is_lt (bytes_cmp k l)) _ lt q
      by Greater p q r = and_from (is_lt (bytes_cmp k j)) _ p r
  node_above k l (node_at j below rest) lt a =
      let p = and_parts (is_lt (bytes_cmp k j)) (list_all (λ i. is_lt (bytes_cmp k i)) (child_labels rest)) a in
      by (bytes_cmp l j) p.0 p.1 (node_above k l rest lt p.1)
    where
      by : (o : Ordering) → is_lt (bytes_cmp k j) ≡ true → AboveAll k rest → AboveAll k (put_node l f rest) → AboveAll k (elim o as (λ x. Children) [ Less ↦ node_at l (f none) (node_at j below rest) | Equal ↦ node_at l (f below) rest | Greater ↦ node_at j below (put_node l f rest) ])
      by Less p q r = and_from (is_lt (bytes_cmp k l)) _ lt (and_from (is_lt (bytes_cmp k j)) _ p q)
      by Equal p q r = and_from (is_lt (bytes_cmp k l)) _ lt q
      by Greater p q r = and_from (is_lt (bytes_cmp k j)) _ p r

  pub node_in_order : (keeps : (c : Children) → InOrder c → InOrder (f c)) (l : Bytes) (c : Children) → InOrder c → InOrder (put_node l f c)
  node_in_order keeps l none h = (refl, keeps none tt, tt)
  node_in_order keeps l (leaf_at k w rest) h = by (bytes_cmp l k) refl (node_in_order keeps l rest h.1)
    where
      by : (o : Ordering) → bytes_cmp l k ≡ o → InOrder (put_node l f rest) → InOrder (elim o as (λ x. Children) [ Less ↦ node_at l (f none) (leaf_at k w rest) | Equal ↦ node_at l (f none) rest | Greater ↦ leaf_at k w (put_node l f rest) ])
      by Less e r = (above_more l k rest e h.0, keeps none tt, h)
      by Equal e r = (subst (λ (x : Bytes). AboveAll x rest) (sym (exact_bytes l k e)) h.0, keeps none tt, h.1)
      by Greater e r = (node_above k l rest (less_turned l k e) h.0, r)
  node_in_order keeps l (node_at k below rest) h = by (bytes_cmp l k) refl (node_in_order keeps l rest h.2)
    where
      by : (o : Ordering) → bytes_cmp l k ≡ o → InOrder (put_node l f rest) → InOrder (elim o as (λ x. Children) [ Less ↦ node_at l (f none) (node_at k below rest) | Equal ↦ node_at l (f below) rest | Greater ↦ node_at k below (put_node l f rest) ])
      by Less e r = (above_more l k rest e h.0, keeps none tt, h)
      by Equal e r = (subst (λ (x : Bytes). AboveAll x rest) (sym (exact_bytes l k e)) h.0, keeps below h.1, h.2)
      by Greater e r = (node_above k l rest (less_turned l k e) h.0, h.1, r)

path_in_order : (p : List Bytes) (v : Bytes) (c : Children) → InOrder c → InOrder (put_path p v c)
path_in_order [] v c h = h
path_in_order (l ∷ []) v c h = leaf_in_order l v c h
path_in_order (l ∷ m ∷ p) v c h = node_in_order (put_path (m ∷ p) v) (λ d g. path_in_order (m ∷ p) v d g) l c h

-- ---- of a state

entries_in_order : (es : List (List Bytes × Bytes)) (c : Children) → InOrder c → InOrder (fold (λ children e. put_path e.0 e.1 children) c es)
entries_in_order [] c h = h
entries_in_order (e ∷ es) c h = entries_in_order es (put_path e.0 e.1 c) (path_in_order e.0 e.1 c h)

wasm_order : (m : Option Bytes) → AboveAll (codes "certified_data") (with_wasm m) × InOrder (with_wasm m)
wasm_order None = (refl, tt)
wasm_order (Some m) = (refl, (refl, tt))

canister_above : (k : Bytes) (cs : List (Bytes × CanisterPart)) → below_all bytes_cmp k (cs) ≡ true → AboveAll k (canister_children cs)
canister_above k [] h = refl
canister_above k (c ∷ cs) h =
    let p = and_parts (is_lt (bytes_cmp k c.0)) (below_all bytes_cmp k (cs)) h in
    and_from (is_lt (bytes_cmp k c.0)) (list_all (λ j. is_lt (bytes_cmp k j)) (child_labels (canister_children cs))) p.0 (canister_above k cs p.1)

canisters_in_order : (cs : List (Bytes × CanisterPart)) → is_sorted bytes_cmp (cs) ≡ true → InOrder (canister_children cs)
canisters_in_order [] h = tt
canisters_in_order (c ∷ cs) h =
    let p = and_parts (below_all bytes_cmp c.0 (cs)) (is_sorted bytes_cmp (cs)) h in
    (canister_above c.0 cs p.0, wasm_order c.1.wasm, canisters_in_order cs p.1)

with_canisters_order : (cs : List (Bytes × CanisterPart)) (c : Children) → is_sorted bytes_cmp (cs) ≡ true → InOrder c → InOrder (with_canisters cs c)
with_canisters_order [] c s h = h
with_canisters_order (d ∷ ds) c s h = node_in_order (λ before. canister_children (d ∷ ds)) (λ x g. canisters_in_order (d ∷ ds) s) (codes "canister") c h

pub state_in_order : (s : SystemPart) → is_sorted bytes_cmp s.canisters ≡ true → InOrder (root_children s)
unfolding root_children
state_in_order s h = leaf_in_order (codes "time") (leb s.time) (with_canisters s.canisters (entry_children s.entries)) (with_canisters_order s.canisters (entry_children s.entries) h (entries_in_order s.entries none tt))

pub state_tree_good : (s : SystemPart) → is_sorted bytes_cmp s.canisters ≡ true → IsWhole (state_tree s) × (is_well_formed (state_tree s) ≡ true)
unfolding state_tree
state_tree_good s h = tree_good (root_children s) (state_in_order s h)
