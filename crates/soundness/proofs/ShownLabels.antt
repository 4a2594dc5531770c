-- Labels at one level of a witness: one that a path begins with is found there, or is absent between its neighbours.
use Rattle.std.proofs.Common.{◌≡◌, ◌||◌, Bool, true, false, cond, List, [], ◌∷◌, Option, Some, None, refl, sym, ap, ◌∙◌, subst}
use Rattle.std.proofs.lemmas.Bool.{or_left, or_right}
use Rattle.format_spec.specs.Bytes.{Bytes, same_bytes}
use Rattle.tree_spec.specs.Tree.{Tree, empty, fork, labeled, leaf, pruned, reconstruct}
use Rattle.tree_spec.specs.Lookup.{below_label}
use Rattle.tree_spec.specs.Labelled.{Children, none, leaf_at, node_at, tree_of}
use Rattle.tree_spec.specs.Witness.{Kept, kept_closed, kept_children, under_forks, begins_some, rests, going_on, is_neighbour, child_labels}
use Rattle.soundness.proofs.Shown.{Shows, shows_none, shows_kept, cut_last, cut_more, NamedOrNone, AllNamed}
use Rattle.format_spec.proofs.Readings.{same_bytes_is, bytes_same}

-- ---- what is kept of a child

abbrev pub leaf_kept : List Bytes → List (List Bytes) → Bytes → Bytes → Option Tree
leaf_kept ls ps l v = elim (begins_some l ps) as (λ x. Option Tree) [ true ↦ Some (labeled l (leaf v)) | false ↦ kept_closed l (leaf v) (is_neighbour ls ps l) ]

abbrev pub open_node : Children → List (List Bytes) → Tree
open_node below ps = under_forks (kept_children (child_labels below) ps below)

abbrev pub node_kept : List Bytes → List (List Bytes) → Bytes → Children → Option Tree
node_kept ls ps l below = elim (going_on (rests l ps)) as (λ x. Option Tree) [
  | [] ↦ kept_closed l (tree_of below) (begins_some l ps || is_neighbour ls ps l)
  | p ∷ qs ↦ Some (labeled l (open_node below (p ∷ qs)))
]

closed_named : (l : Bytes) (t : Tree) (b : Bool) → NamedOrNone l (kept_closed l t b)
closed_named l t true = refl
closed_named l t false = tt

leaf_named : (ls : List Bytes) (ps : List (List Bytes)) (l v : Bytes) → NamedOrNone l (leaf_kept ls ps l v)
leaf_named ls ps l v = by (begins_some l ps)
  where
    by : (b : Bool) → NamedOrNone l (elim b as (λ x. Option Tree) [ true ↦ Some (labeled l (leaf v)) | false ↦ kept_closed l (leaf v) (is_neighbour ls ps l) ])
    by true = refl
    by false = closed_named l (leaf v) (is_neighbour ls ps l)

node_named : (ls : List Bytes) (ps : List (List Bytes)) (l : Bytes) (below : Children) → NamedOrNone l (node_kept ls ps l below)
node_named ls ps l below = by (going_on (rests l ps))
  where
    by : (rs : List (List Bytes)) → NamedOrNone l (elim rs as (λ x. Option Tree) [
      | [] ↦ kept_closed l (tree_of below) (begins_some l ps || is_neighbour ls ps l)
      | p ∷ qs ↦ Some (labeled l (open_node below (p ∷ qs)))
    ])
    by [] = closed_named l (tree_of below) (begins_some l ps || is_neighbour ls ps l)
    by (p ∷ qs) = refl

pub children_named : (ls : List Bytes) (ps : List (List Bytes)) (c : Children) → AllNamed (kept_children ls ps c)
children_named ls ps none = tt
children_named ls ps (leaf_at l v rest) = ((l, leaf_named ls ps l v), children_named ls ps rest)
children_named ls ps (node_at l below rest) = ((l, node_named ls ps l below), children_named ls ps rest)

-- a neighbour is kept
abbrev pub IsKept : Bytes → Option Tree → Type 0
IsKept l o = (a : Tree) × (o ≡ Some (labeled l a))

pub leaf_near : (ls : List Bytes) (ps : List (List Bytes)) (l v : Bytes) → is_neighbour ls ps l ≡ true → IsKept l (leaf_kept ls ps l v)
leaf_near ls ps l v h = by (begins_some l ps)
  where
    by : (b : Bool) → IsKept l (elim b as (λ x. Option Tree) [ true ↦ Some (labeled l (leaf v)) | false ↦ kept_closed l (leaf v) (is_neighbour ls ps l) ])
    by true = (leaf v, refl)
    by false = (pruned (reconstruct (leaf v)), ap (kept_closed l (leaf v)) h)

pub node_near : (ls : List Bytes) (ps : List (List Bytes)) (l : Bytes) (below : Children) → is_neighbour ls ps l ≡ true → IsKept l (node_kept ls ps l below)
node_near ls ps l below h = by (going_on (rests l ps))
  where
    by : (rs : List (List Bytes)) → IsKept l (elim rs as (λ x. Option Tree) [
      | [] ↦ kept_closed l (tree_of below) (begins_some l ps || is_neighbour ls ps l)
      | p ∷ qs ↦ Some (labeled l (open_node below (p ∷ qs)))
    ])
    by [] = (pruned (reconstruct (tree_of below)), ap (kept_closed l (tree_of below)) (or_right (begins_some l ps) (is_neighbour ls ps l) h))
    by (p ∷ qs) = (open_node below (p ∷ qs), refl)

-- ---- a label that is there

-- what stands at a label
pub data At : Type 0 where
  no_child : At
  a_leaf : Bytes → At
  a_node : Children → At

abbrev pub child_at : Bytes → Children → At
child_at l none = no_child
child_at l (leaf_at k v rest) = cond (same_bytes k l) (a_leaf v) (child_at l rest)
child_at l (node_at k below rest) = cond (same_bytes k l) (a_node below) (child_at l rest)

-- the tree below the label in the witness of paths, one of which begins with it
abbrev pub shown_at : List (List Bytes) → Bytes → At → Option Tree
shown_at ps l no_child = None
shown_at ps l (a_leaf v) = Some (leaf v)
shown_at ps l (a_node below) = elim (going_on (rests l ps)) as (λ x. Option Tree) [
  | [] ↦ Some (pruned (reconstruct (tree_of below)))
  | p ∷ qs ↦ Some (open_node below (p ∷ qs))
]

abbrev with_kept : Option Tree → List Tree → List Tree
with_kept None ts = ts
with_kept (Some t) ts = t ∷ ts

abbrev kept_trees : List Kept → List Tree
kept_trees [] = []
kept_trees (c ∷ cs) = with_kept c.kept (kept_trees cs)

below_shown : (l : Bytes) {cs : List Kept} {ts : List Tree} → Shows cs ts → below_label l ts ≡ below_label l (kept_trees cs)
below_shown l shows_none = refl
below_shown l (shows_kept c k a cs ts e p) =
    ap (λ (o : Option Tree). cond (same_bytes k l) (Some a) o) (below_shown l p) ∙ ap (λ (o : Option Tree). below_label l (with_kept o (kept_trees cs))) (sym e)
below_shown l (cut_last c h cs ts e p) = below_shown l p ∙ ap (λ (o : Option Tree). below_label l (with_kept o (kept_trees cs))) (sym e)
below_shown l (cut_more c h cs ts e p) = below_shown l p ∙ ap (λ (o : Option Tree). below_label l (with_kept o (kept_trees cs))) (sym e)

-- a child with another label
other_child : (k l : Bytes) (o : Option Tree) (ts : List Tree) → NamedOrNone k o → same_bytes k l ≡ false → below_label l (with_kept o ts) ≡ below_label l ts
other_child k l None ts n e = refl
other_child k l (Some empty) ts n e = absurd n
other_child k l (Some (fork a b)) ts n e = absurd n
other_child k l (Some (labeled j a)) ts n e = ap (λ (b : Bool). cond b (Some a) (below_label l ts)) (ap (λ (x : Bytes). same_bytes x l) n ∙ e)
other_child k l (Some (leaf b)) ts n e = absurd n
other_child k l (Some (pruned h)) ts n e = absurd n

-- a child with this label
this_child : (l : Bytes) (o : Option Tree) (a : Tree) (ts : List Tree) → o ≡ Some (labeled l a) → below_label l (with_kept o ts) ≡ Some a
this_child l o a ts e = ap (λ (x : Option Tree). below_label l (with_kept x ts)) e ∙ ap (λ (b : Bool). cond b (Some a) (below_label l ts)) (bytes_same l)

leaf_shown : (ls : List Bytes) (ps : List (List Bytes)) (l v : Bytes) → begins_some l ps ≡ true → leaf_kept ls ps l v ≡ Some (labeled l (leaf v))
leaf_shown ls ps l v h = ap (λ (b : Bool). elim b as (λ x. Option Tree) [ true ↦ Some (labeled l (leaf v)) | false ↦ kept_closed l (leaf v) (is_neighbour ls ps l) ]) h

node_shown : (ls : List Bytes) (ps : List (List Bytes)) (l : Bytes) (below : Children) (ts : List Tree) → begins_some l ps ≡ true → below_label l (with_kept (node_kept ls ps l below) ts) ≡ shown_at ps l (a_node below)
node_shown ls ps l below ts h = by (going_on (rests l ps))
  where
    by : (rs : List (List Bytes)) → below_label l (with_kept (elim rs as (λ x. Option Tree) [
      | [] ↦ kept_closed l (tree_of below) (begins_some l ps || is_neighbour ls ps l)
      | p ∷ qs ↦ Some (labeled l (open_node below (p ∷ qs)))
    ]) ts) ≡ elim rs as (λ x. Option Tree) [
      | [] ↦ Some (pruned (reconstruct (tree_of below)))
      | p ∷ qs ↦ Some (open_node below (p ∷ qs))
    ]
    by [] = this_child l (kept_closed l (tree_of below) (begins_some l ps || is_neighbour ls ps l)) (pruned (reconstruct (tree_of below))) ts (ap (kept_closed l (tree_of below)) (or_left (begins_some l ps) (is_neighbour ls ps l) h))
    by (p ∷ qs) = this_child l (Some (labeled l (open_node below (p ∷ qs)))) (open_node below (p ∷ qs)) ts refl

kept_below : (ls : List Bytes) (ps : List (List Bytes)) (l : Bytes) (c : Children) → begins_some l ps ≡ true → below_label l (kept_trees (kept_children ls ps c)) ≡ shown_at ps l (child_at l c)
kept_below ls ps l none h = refl
kept_below ls ps l (leaf_at k v rest) h = by (same_bytes k l) refl (kept_below ls ps l rest h)
  where
    by : (b : Bool) → same_bytes k l ≡ b → below_label l (kept_trees (kept_children ls ps rest)) ≡ shown_at ps l (child_at l rest)
        → below_label l (with_kept (leaf_kept ls ps k v) (kept_trees (kept_children ls ps rest))) ≡ shown_at ps l (cond b (a_leaf v) (child_at l rest))
    by true e more =
        let ts : List Tree = kept_trees (kept_children ls ps rest) in
        subst (λ (x : Bytes). below_label l (with_kept (leaf_kept ls ps x v) ts) ≡ Some (leaf v)) (sym (same_bytes_is k l e)) (this_child l (leaf_kept ls ps l v) (leaf v) ts (leaf_shown ls ps l v h))
    by false e more = other_child k l (leaf_kept ls ps k v) (kept_trees (kept_children ls ps rest)) (leaf_named ls ps k v) e ∙ more
kept_below ls ps l (node_at k below rest) h = by (same_bytes k l) refl (kept_below ls ps l rest h)
  where
    by : (b : Bool) → same_bytes k l ≡ b → below_label l (kept_trees (kept_children ls ps rest)) ≡ shown_at ps l (child_at l rest)
        → below_label l (with_kept (node_kept ls ps k below) (kept_trees (kept_children ls ps rest))) ≡ shown_at ps l (cond b (a_node below) (child_at l rest))
    by true e more =
        let ts : List Tree = kept_trees (kept_children ls ps rest) in
        subst (λ (x : Bytes). below_label l (with_kept (node_kept ls ps x below) ts) ≡ shown_at ps l (a_node below)) (sym (same_bytes_is k l e)) (node_shown ls ps l below ts h)
    by false e more = other_child k l (node_kept ls ps k below) (kept_trees (kept_children ls ps rest)) (node_named ls ps k below) e ∙ more

pub label_shown : (ls : List Bytes) (ps : List (List Bytes)) (l : Bytes) (c : Children) (ts : List Tree) → Shows (kept_children ls ps c) ts → begins_some l ps ≡ true → below_label l ts ≡ shown_at ps l (child_at l c)
label_shown ls ps l c ts sh h = below_shown l sh ∙ kept_below ls ps l c h
