-- Putting paths into children one after another: children behind others, and entries with one first label.
use Rattle.std.proofs.Common.{◌≡◌, List, [], ◌∷◌, ◌++◌, map, drop, refl, sym, ap, subst, ◌∙◌}
use Rattle.std.specs.List.{fold, AllByRecursion}
use Rattle.std.specs.Cmp.{IsTotalOrder, tied_itself}
use Rattle.std.specs.Cmp.Lexicographic.{nat_list_cmp_total}
use Rattle.std.specs.Ordering.{ordering_reverse}
use Rattle.std.specs.declared.cmp.Ordering.{Ordering}
use Rattle.std.specs.declared.cmp.Ordering.TheVariants.{Less, Equal, Greater}
use Rattle.std.proofs.lemmas.List.Sums.{fold-append}
use Rattle.format_spec.specs.Bytes.{Bytes, bytes_cmp}
use Rattle.tree_spec.specs.Tree.{Tree, labeled, leaf, forks}
use Rattle.tree_spec.specs.Labelled.{Children, none, leaf_at, node_at, put_leaf, put_node, put_path, entry_children, child_trees}
use Rattle.hash_tree.specs.Levels.{Entries, behind, HasFirst}

abbrev pub Entry : Type 0
Entry = List Bytes × Bytes

pub total : IsTotalOrder bytes_cmp
total = nat_list_cmp_total

pub greater_from : (l m : Bytes) → bytes_cmp l m ≡ Less → bytes_cmp m l ≡ Greater
greater_from l m lt = total.antisymm m l ∙ ap ordering_reverse lt

-- ---- children behind others

abbrev pub joined : Children → Children → Children
joined none d = d
joined (leaf_at k w rest) d = leaf_at k w (joined rest d)
joined (node_at k below rest) d = node_at k below (joined rest d)

pub child_trees-joined : (c d : Children) → child_trees (joined c d) ≡ child_trees c ++ child_trees d
child_trees-joined none d = refl
child_trees-joined (leaf_at k w rest) d = ap (λ (ts : List Tree). labeled k (leaf w) ∷ ts) (child_trees-joined rest d)
child_trees-joined (node_at k below rest) d = ap (λ (ts : List Tree). labeled k (forks (child_trees below)) ∷ ts) (child_trees-joined rest d)

-- what holds of each label
abbrev pub OfLabels : (Bytes → Type 0) → Children → Type 0
OfLabels P none = Unit {0}
OfLabels P (leaf_at k w rest) = P k × OfLabels P rest
OfLabels P (node_at k below rest) = P k × OfLabels P rest

-- all labels are below this one
abbrev pub AreBelow : Bytes → Children → Type 0
AreBelow l c = OfLabels (λ k. bytes_cmp l k ≡ Greater) c

-- all labels are above this one
abbrev pub AreAbove : Bytes → Children → Type 0
AreAbove l c = OfLabels (λ k. bytes_cmp l k ≡ Less) c

-- ---- one put behind all of some children

abbrev by_leaf : Ordering → Children → Children → Children → Children
by_leaf o a b c = elim o [ Less ↦ a | Equal ↦ b | Greater ↦ c ]

pub put_leaf_behind : (l v : Bytes) (c d : Children) → AreBelow l c → put_leaf l v (joined c d) ≡ joined c (put_leaf l v d)
put_leaf_behind l v none d h = refl
put_leaf_behind l v (leaf_at k w rest) d h =
    ap (λ o. by_leaf o (leaf_at l v (leaf_at k w (joined rest d))) (leaf_at l v (joined rest d)) (leaf_at k w (put_leaf l v (joined rest d)))) h.0
    ∙ ap (leaf_at k w) (put_leaf_behind l v rest d h.1)
put_leaf_behind l v (node_at k below rest) d h =
    ap (λ o. by_leaf o (leaf_at l v (node_at k below (joined rest d))) (leaf_at l v (joined rest d)) (node_at k below (put_leaf l v (joined rest d)))) h.0
    ∙ ap (node_at k below) (put_leaf_behind l v rest d h.1)

pub put_node_behind : (l : Bytes) (f : Children → Children) (c d : Children) → AreBelow l c → put_node l f (joined c d) ≡ joined c (put_node l f d)
put_node_behind l f none d h = refl
put_node_behind l f (leaf_at k w rest) d h =
    ap (λ o. by_leaf o (node_at l (f none) (leaf_at k w (joined rest d))) (node_at l (f none) (joined rest d)) (leaf_at k w (put_node l f (joined rest d)))) h.0
    ∙ ap (leaf_at k w) (put_node_behind l f rest d h.1)
put_node_behind l f (node_at k below rest) d h =
    ap (λ o. by_leaf o (node_at l (f none) (node_at k below (joined rest d))) (node_at l (f below) (joined rest d)) (node_at k below (put_node l f (joined rest d)))) h.0
    ∙ ap (node_at k below) (put_node_behind l f rest d h.1)

-- ---- one put before all of some children

pub put_leaf_before : (l v : Bytes) (c : Children) → AreAbove l c → put_leaf l v c ≡ leaf_at l v c
put_leaf_before l v none h = refl
put_leaf_before l v (leaf_at k w rest) h = ap (λ o. by_leaf o (leaf_at l v (leaf_at k w rest)) (leaf_at l v rest) (leaf_at k w (put_leaf l v rest))) h.0
put_leaf_before l v (node_at k below rest) h = ap (λ o. by_leaf o (leaf_at l v (node_at k below rest)) (leaf_at l v rest) (node_at k below (put_leaf l v rest))) h.0

pub put_node_before : (l : Bytes) (f : Children → Children) (c : Children) → AreAbove l c → put_node l f c ≡ node_at l (f none) c
put_node_before l f none h = refl
put_node_before l f (leaf_at k w rest) h = ap (λ o. by_leaf o (node_at l (f none) (leaf_at k w rest)) (node_at l (f none) rest) (leaf_at k w (put_node l f rest))) h.0
put_node_before l f (node_at k below rest) h = ap (λ o. by_leaf o (node_at l (f none) (node_at k below rest)) (node_at l (f below) rest) (node_at k below (put_node l f rest))) h.0

-- into a node that is the first
put_node_here : (l : Bytes) (f : Children → Children) (b c : Children) → put_node l f (node_at l b c) ≡ node_at l (f b) c
put_node_here l f b c = ap (λ o. by_leaf o (node_at l (f none) (node_at l b c)) (node_at l (f b) c) (node_at l b (put_node l f c))) (tied_itself total l)

-- ---- labels after a put

OfLabels-put_leaf : (P : Bytes → Type 0) (l v : Bytes) (c : Children) → P l → OfLabels P c → OfLabels P (put_leaf l v c)
OfLabels-put_leaf P l v none p q = (p, tt)
OfLabels-put_leaf P l v (leaf_at k w rest) p q =
    elim (bytes_cmp l k) as (λ o. OfLabels P (by_leaf o (leaf_at l v (leaf_at k w rest)) (leaf_at l v rest) (leaf_at k w (put_leaf l v rest)))) [
      | Less ↦ (p, q)
      | Equal ↦ (p, q.1)
      | Greater ↦ (q.0, OfLabels-put_leaf P l v rest p q.1)
    ]
OfLabels-put_leaf P l v (node_at k below rest) p q =
    elim (bytes_cmp l k) as (λ o. OfLabels P (by_leaf o (leaf_at l v (node_at k below rest)) (leaf_at l v rest) (node_at k below (put_leaf l v rest)))) [
      | Less ↦ (p, q)
      | Equal ↦ (p, q.1)
      | Greater ↦ (q.0, OfLabels-put_leaf P l v rest p q.1)
    ]

OfLabels-put_node : (P : Bytes → Type 0) (l : Bytes) (f : Children → Children) (c : Children) → P l → OfLabels P c → OfLabels P (put_node l f c)
OfLabels-put_node P l f none p q = (p, tt)
OfLabels-put_node P l f (leaf_at k w rest) p q =
    elim (bytes_cmp l k) as (λ o. OfLabels P (by_leaf o (node_at l (f none) (leaf_at k w rest)) (node_at l (f none) rest) (leaf_at k w (put_node l f rest)))) [
      | Less ↦ (p, q)
      | Equal ↦ (p, q.1)
      | Greater ↦ (q.0, OfLabels-put_node P l f rest p q.1)
    ]
OfLabels-put_node P l f (node_at k below rest) p q =
    elim (bytes_cmp l k) as (λ o. OfLabels P (by_leaf o (node_at l (f none) (node_at k below rest)) (node_at l (f below) rest) (node_at k below (put_node l f rest)))) [
      | Less ↦ (p, q)
      | Equal ↦ (p, q.1)
      | Greater ↦ (q.0, OfLabels-put_node P l f rest p q.1)
    ]

-- ---- paths

put_path_behind : (l : Bytes) (p : List Bytes) (v : Bytes) (c d : Children) → AreBelow l c → put_path (l ∷ p) v (joined c d) ≡ joined c (put_path (l ∷ p) v d)
put_path_behind l [] v c d h = put_leaf_behind l v c d h
put_path_behind l (m ∷ p) v c d h = put_node_behind l (put_path (m ∷ p) v) c d h

OfLabels-put_path : (P : Bytes → Type 0) (l : Bytes) (p : List Bytes) (v : Bytes) (c : Children) → P l → OfLabels P c → OfLabels P (put_path (l ∷ p) v c)
OfLabels-put_path P l [] v c q r = OfLabels-put_leaf P l v c q r
OfLabels-put_path P l (m ∷ p) v c q r = OfLabels-put_node P l (put_path (m ∷ p) v) c q r

-- ---- entries

abbrev pub put_entry : Children → Entry → Children
put_entry c e = put_path e.0 e.1 c

-- its first label is one of which this holds
pub record FirstIs (P : Bytes → Type 0) (e : Entry) : Type 0 where
  pub label : Bytes
  pub has : HasFirst label e
  pub good : P label

pub OfLabels-fold : (P : Bytes → Type 0) (c : Children) (es : Entries) → OfLabels P c → AllByRecursion (FirstIs P) es → OfLabels P (fold put_entry c es)
OfLabels-fold P c [] q h = q
OfLabels-fold P c (e ∷ es) q h =
    OfLabels-fold P (put_entry c e) es
    (subst (λ (p : List Bytes). OfLabels P (put_path p e.1 c)) (sym h.0.has.is) (OfLabels-put_path P h.0.label h.0.has.rest e.1 c h.0.good q)) h.1

-- all labels of the children are below its first one
abbrev pub GoesBehind : Children → Entry → Type 0
GoesBehind c e = FirstIs (λ l. AreBelow l c) e

pub fold_behind : (c d : Children) (es : Entries) → AllByRecursion (GoesBehind c) es → fold put_entry (joined c d) es ≡ joined c (fold put_entry d es)
fold_behind c d [] h = refl
fold_behind c d (e ∷ es) h =
    ap (λ (x : Children). fold put_entry x es)
    (ap (λ (p : List Bytes). put_path p e.1 (joined c d)) h.0.has.is
    ∙ put_path_behind h.0.label h.0.has.rest e.1 c d h.0.good
    ∙ ap (λ (p : List Bytes). joined c (put_path p e.1 d)) (sym h.0.has.is))
    ∙ fold_behind c (put_entry d e) es h.1

joined-none : (c : Children) → joined c none ≡ c
joined-none none = refl
joined-none (leaf_at k w rest) = ap (leaf_at k w) (joined-none rest)
joined-none (node_at k below rest) = ap (node_at k below) (joined-none rest)

-- entries, and others that go behind all of them
pub entry_children-append : (es fs : Entries) → AllByRecursion (GoesBehind (entry_children es)) fs → entry_children (es ++ fs) ≡ joined (entry_children es) (entry_children fs)
entry_children-append es fs h =
    fold-append put_entry none es fs
    ∙ ap (λ (x : Children). fold put_entry x fs) (sym (joined-none (entry_children es)))
    ∙ fold_behind (entry_children es) none fs h

-- ---- entries with one first label

pub record GoesOn (l : Bytes) (e : Entry) : Type 0 where
  pub next : Bytes
  pub rest : List Bytes
  pub is : e.0 ≡ l ∷ next ∷ rest

fold_node : (l : Bytes) (b : Children) (es : Entries) → AllByRecursion (GoesOn l) es → fold put_entry (node_at l b none) es ≡ node_at l (fold put_entry b (map (behind 1) es)) none
fold_node l b [] h = refl
fold_node l b (e ∷ es) h =
    ap (λ (x : Children). fold put_entry x es)
    (ap (λ (p : List Bytes). put_path p e.1 (node_at l b none)) h.0.is
    ∙ put_node_here l (put_path (h.0.next ∷ h.0.rest) e.1) b none
    ∙ ap (λ (p : List Bytes). node_at l (put_path (drop 1 p) e.1 b) none) (sym h.0.is))
    ∙ fold_node l (put_path (drop 1 e.0) e.1 b) es h.1

pub group_node : (l : Bytes) (e : Entry) (es : Entries) → AllByRecursion (GoesOn l) (e ∷ es)
    → entry_children (e ∷ es) ≡ node_at l (entry_children (map (behind 1) (e ∷ es))) none
group_node l e es h =
    ap (λ (x : Children). fold put_entry x es)
    (ap (λ (p : List Bytes). put_path p e.1 none) h.0.is
    ∙ ap (λ (p : List Bytes). node_at l (put_path (drop 1 p) e.1 none) none) (sym h.0.is))
    ∙ fold_node l (put_path (drop 1 e.0) e.1 none) es h.1

pub group_leaf : (l : Bytes) (e : Entry) → e.0 ≡ l ∷ [] → entry_children (e ∷ []) ≡ leaf_at l e.1 none
group_leaf l e is = ap (λ (p : List Bytes). put_path p e.1 none) is
