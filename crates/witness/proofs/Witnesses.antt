-- The part of a state's tree that the walk makes is the witness of the paths.
use Rattle.std.proofs.Common.{◌≡◌, ℕ, ◌+◌, ◌<◌, ◌≤◌, take, get_or, Bool, true, false, cond, ◌||◌, List, [], ◌∷◌, ◌++◌, length, map, filter, Option, Some, None, refl, sym, ap, ◌∙◌, subst, append_assoc, arith}
use Rattle.std.specs.List.{cons_option, last_or}
use Rattle.std.proofs.lemmas.Bool.{not-true}
use Rattle.format_spec.specs.Bytes.{Bytes, bytes_cmp, same_bytes, is_after, ascending}
use Rattle.format_spec.proofs.Follow.{Follow, follow_parts, ascend_all}
use Rattle.state_spec.specs.State.{SystemPart, IsSystem, is_path}
use Rattle.tree_spec.specs.Tree.{Tree, empty, fork, labeled, leaf, pruned, reconstruct, is_leaf, forks}
use Rattle.tree_spec.specs.Labelled.{Children, none, leaf_at, node_at, child_trees, tree_of, root_children, state_tree}
use Rattle.tree_spec.specs.Witness.{Kept, rests, is_some_path, going_on, child_labels, begins_some, is_neighbour, kept_closed, kept_children, under_forks, witness_of, witness}
use Rattle.tree_spec.specs.Lookup.{lookup}
use Rattle.tree_spec.specs.Cbor.{IsSpellable}
use Rattle.soundness.proofs.Witnesses.{witness_hash}
use Rattle.soundness.proofs.Spelled.{witness_spellable}
use Rattle.soundness.proofs.ShownStates.{path_shown, path_hidden}
use Rattle.soundness.proofs.StateTrees.{InOrder, all_children, forks_are, state_in_order, labels_ascend}
use Rattle.std.proofs.lemmas.List.{map-append, take_more, take_all}
use Rattle.witness.specs.Shows.{IsWitness}
use Rattle.witness.specs.Parts.{is_under, begins_between, reached_bytes, over_leaf, part}
use Rattle.witness.proofs.Neighbours.{beside, kept_where, head_of}
use Rattle.witness.proofs.Parts.{part_none, part_bare, is_some_list}
use Rattle.witness.proofs.Walked.{kept_of, first_name, Level, whole_of, some_filter, walk}

-- ---- paths that begin with a label

abbrev pub AllSome : List (List Bytes) → Type 0
AllSome [] = Unit {0}
AllSome (p ∷ ps) = (is_some_path p ≡ true) × AllSome ps

all_between : (ps : List (List Bytes)) → AllSome ps → filter (begins_between None None) ps ≡ ps
all_between [] h = refl
all_between ([] ∷ ps) h = absurd (let e : false ≡ true = h.0 in cc)
all_between ((m ∷ p) ∷ ps) h = ap (λ (qs : List (List Bytes)). (m ∷ p) ∷ qs) (all_between ps h.1)

going_some : (ps : List (List Bytes)) → AllSome (going_on ps)
going_some [] = tt
going_some ([] ∷ ps) = going_some ps
going_some ((m ∷ p) ∷ ps) = (refl, going_some ps)

-- where something goes on, it begins with the label
goes_begins : (l : Bytes) (ps : List (List Bytes)) → is_some_list (going_on (rests l ps)) ≡ true → begins_some l ps ≡ true
goes_begins l [] h = absurd cc
goes_begins l ([] ∷ ps) h = goes_begins l ps h
goes_begins l ((k ∷ p) ∷ ps) h = by (same_bytes k l) h (goes_begins l ps)
  where
    by : (b : Bool) → is_some_list (going_on (cons_option (elim b as (λ x. Option (List Bytes)) [ true ↦ Some p | false ↦ None ]) (rests l ps))) ≡ true
        → (is_some_list (going_on (rests l ps)) ≡ true → begins_some l ps ≡ true) → b || begins_some l ps ≡ true
    by true h ih = refl
    by false h ih = ih h

-- ---- what is kept of a child

unreached : (l : Bytes) (t : Tree) (ps : List (List Bytes)) → is_leaf t ≡ false → reached_bytes l t ps ≡ None
unreached l empty ps h = refl
unreached l (fork x y) ps h = refl
unreached l (labeled k t) ps h = refl
unreached l (leaf v) ps h = absurd cc
unreached l (pruned x) ps h = refl

leaf_is : (labels : List Bytes) (l v : Bytes) (ps g : List (List Bytes)) → begins_some l ps || is_neighbour labels ps l ≡ is_some_list g
    → elim (begins_some l ps) as (λ x. Option Tree) [ true ↦ Some (labeled l (leaf v)) | false ↦ kept_closed l (leaf v) (is_neighbour labels ps l) ] ≡ kept_of ps l (leaf v) g
leaf_is labels l v ps g h = go (begins_some l ps) (is_neighbour labels ps l) g refl h
  where
    go : (x n : Bool) (qs : List (List Bytes)) → begins_some l ps ≡ x → x || n ≡ is_some_list qs
        → elim x as (λ y. Option Tree) [ true ↦ Some (labeled l (leaf v)) | false ↦ kept_closed l (leaf v) n ] ≡ kept_of ps l (leaf v) qs
    go true n [] is e = absurd cc
    go true n (q ∷ qs) is e = sym (ap (λ y. Some (labeled l (over_leaf (cond y (Some v) None) (part (leaf v) (going_on (rests l ps)))))) is)
    go false true [] is e = absurd cc
    go false true (q ∷ qs) is e =
        sym (ap (λ y. Some (labeled l (over_leaf (cond y (Some v) None) (part (leaf v) (going_on (rests l ps)))))) is
        ∙ ap (λ t. Some (labeled l t)) (part_bare (leaf v) (going_on (rests l ps)) refl))
    go false false [] is e = refl
    go false false (q ∷ qs) is e = absurd cc

or_first : (a b : Bool) → a ≡ true → a || b ≡ true
or_first a b h = ap (λ x. x || b) h

node_is : (labels : List Bytes) (l : Bytes) (below : Children) (ps g : List (List Bytes)) → begins_some l ps || is_neighbour labels ps l ≡ is_some_list g
    → is_leaf (tree_of below) ≡ false
    → ((qs : List (List Bytes)) → AllSome qs → part (tree_of below) qs ≡ under_forks (kept_children (child_labels below) qs below))
    → elim (going_on (rests l ps)) as (λ x. Option Tree) [
      | [] ↦ kept_closed l (tree_of below) (begins_some l ps || is_neighbour labels ps l)
      | p ∷ qs ↦ Some (labeled l (under_forks (kept_children (child_labels below) (p ∷ qs) below)))
    ] ≡ kept_of ps l (tree_of below) g
node_is labels l below ps g h no_leaf walked = go (going_on (rests l ps)) (begins_some l ps || is_neighbour labels ps l) g refl refl h
  where
    closed : part (tree_of below) [] ≡ pruned (reconstruct (tree_of below))
    closed = part_none (tree_of below)

    opened : (gs : List (List Bytes)) → going_on (rests l ps) ≡ gs → over_leaf (reached_bytes l (tree_of below) ps) (part (tree_of below) (going_on (rests l ps))) ≡ part (tree_of below) gs
    opened gs is = ap (λ o. over_leaf o (part (tree_of below) (going_on (rests l ps)))) (unreached l (tree_of below) ps no_leaf) ∙ ap (part (tree_of below)) is

    go : (gs : List (List Bytes)) (x : Bool) (qs : List (List Bytes)) → going_on (rests l ps) ≡ gs → begins_some l ps || is_neighbour labels ps l ≡ x → x ≡ is_some_list qs
        → elim gs as (λ y. Option Tree) [
          | [] ↦ kept_closed l (tree_of below) x
          | p ∷ rs ↦ Some (labeled l (under_forks (kept_children (child_labels below) (p ∷ rs) below)))
        ] ≡ kept_of ps l (tree_of below) qs
    go [] true [] is x e = absurd cc
    go [] true (q ∷ qs) is x e = sym (ap (λ t. Some (labeled l t)) (opened [] is ∙ closed))
    go [] false [] is x e = refl
    go [] false (q ∷ qs) is x e = absurd cc
    go (p ∷ rs) x [] is y e =
        absurd (let some = or_first (begins_some l ps) (is_neighbour labels ps l) (goes_begins l ps (ap is_some_list is)) in let f : true ≡ false = sym some ∙ y ∙ e in cc)
    go (p ∷ rs) x (q ∷ qs) is y e =
        sym (ap (λ t. Some (labeled l t)) (opened (p ∷ rs) is ∙ walked (p ∷ rs) (subst AllSome is (going_some (rests l ps)))))

-- ---- where a child stands

last_push : (done : List Bytes) (l : Bytes) (o : Option Bytes) → Some l ≡ last_or o (done ++ l ∷ [])
last_push [] l o = refl
last_push (d ∷ done) l o = last_push done l (Some d)

record Stands (b a : Option Bytes) (labels : List Bytes) (l : Bytes) (ps : List (List Bytes)) : Type 0 where
  after : is_after bytes_cmp b l ≡ true
  under : is_under a l ≡ true
  keeps : begins_some l ps || is_neighbour labels ps l ≡ is_some_list (filter (begins_between b a) ps)

stands : (ps : List (List Bytes)) (done more : List Bytes) (l : Bytes) → ascending bytes_cmp (done ++ l ∷ more) ≡ true → Stands (last_or None done) (head_of more) (done ++ l ∷ more) l ps
stands ps done more l order =
    let p = follow_parts None done (l ∷ more) (ascend_all (done ++ l ∷ more) order) in
    record {
      after = p.1.0;
      under = next more p.1.1;
      keeps = kept_where (done ++ l ∷ more) l (last_or None done) (head_of more) (λ m. beside l m done more order) ps ∙ sym (some_filter (begins_between (last_or None done) (head_of more)) ps);
    }
  where
    next : (ks : List Bytes) → Follow (Some l) ks → is_under (head_of ks) l ≡ true
    next [] h = refl
    next (k ∷ ks) h = h.0

stands_at : (ps : List (List Bytes)) (labels done more : List Bytes) (l : Bytes) (b a : Option Bytes) → labels ≡ done ++ l ∷ more → ascending bytes_cmp labels ≡ true → b ≡ last_or None done → a ≡ head_of more
    → Stands b a labels l ps
stands_at ps labels done more l b a is order low high =
    subst (λ (x : Option Bytes). Stands x a labels l ps) (sym low)
    (subst (λ (x : Option Bytes). Stands (last_or None done) x labels l ps) (sym high)
    (subst (λ (ls : List Bytes). Stands (last_or None done) (head_of more) ls l ps) (sym is)
    (stands ps done more l (ap (ascending bytes_cmp) (sym is) ∙ order))))

first_kept : (labels : List Bytes) (ps : List (List Bytes)) (c : Children) → first_name (kept_children labels ps c) None ≡ head_of (child_labels c)
first_kept labels ps none = refl
first_kept labels ps (leaf_at l v rest) = refl
first_kept labels ps (node_at l below rest) = refl

-- ---- all children

wholes : (labels : List Bytes) (ps : List (List Bytes)) (c : Children) → map (λ k. k.whole) (kept_children labels ps c) ≡ child_trees c
unfolding tree_of
wholes labels ps none = refl
wholes labels ps (leaf_at l v rest) = ap (λ ts. labeled l (leaf v) ∷ ts) (wholes labels ps rest)
wholes labels ps (node_at l below rest) = ap (λ ts. labeled l (forks (child_trees below)) ∷ ts) (wholes labels ps rest)

from_level : (c : Children) (ps : List (List Bytes)) → AllSome ps → Level None None ps (kept_children (child_labels c) ps c) → part (tree_of c) ps ≡ under_forks (kept_children (child_labels c) ps c)
unfolding tree_of forks
from_level none ps some h = part_bare empty ps refl
from_level (leaf_at l v rest) ps some h =
    let xs : List Kept = kept_children (child_labels (leaf_at l v rest)) ps (leaf_at l v rest) in
    let w = walk (length xs) None None ps xs (omega arith) (omega arith) h in
    ap (λ ts. part (forks ts) ps) (sym (wholes (child_labels (leaf_at l v rest)) ps (leaf_at l v rest))) ∙ ap (part (whole_of xs)) (sym (all_between ps some)) ∙ w.shown
from_level (node_at l below rest) ps some h =
    let xs : List Kept = kept_children (child_labels (node_at l below rest)) ps (node_at l below rest) in
    let w = walk (length xs) None None ps xs (omega arith) (omega arith) h in
    ap (λ ts. part (forks ts) ps) (sym (wholes (child_labels (node_at l below rest)) ps (node_at l below rest))) ∙ ap (part (whole_of xs)) (sym (all_between ps some)) ∙ w.shown

no_leaf : (c : Children) → InOrder c → is_leaf (tree_of c) ≡ false
unfolding tree_of
no_leaf c h = not-true (is_leaf (forks (child_trees c))) (forks_are (child_trees c) (all_children c h)).no_leaf

level_of : (c : Children) → InOrder c → (ps : List (List Bytes)) (labels done : List Bytes) → labels ≡ done ++ child_labels c → ascending bytes_cmp labels ≡ true → (b : Option Bytes) → b ≡ last_or None done
    → Level b None ps (kept_children labels ps c)
level_of none h ps labels done is order b low = tt
level_of (leaf_at l v rest) h ps labels done is order b low =
    let a : Option Bytes = first_name (kept_children labels ps rest) None in
    let s = stands_at ps labels done (child_labels rest) l b a is order low (first_kept labels ps rest) in (
      record { label = l; below = leaf v; whole = refl; after = s.after; under = s.under; kept = leaf_is labels l v ps (filter (begins_between b a) ps) s.keeps },
      level_of rest h.1 ps labels (done ++ l ∷ []) (is ∙ sym (append_assoc done (l ∷ []) (child_labels rest))) order (Some l) (last_push done l None),
    )
level_of (node_at l below rest) h ps labels done is order b low =
    let a : Option Bytes = first_name (kept_children labels ps rest) None in
    let s = stands_at ps labels done (child_labels rest) l b a is order low (first_kept labels ps rest) in
    let inner : (qs : List (List Bytes)) → AllSome qs → part (tree_of below) qs ≡ under_forks (kept_children (child_labels below) qs below) =
    λ qs some. from_level below qs some (level_of below h.1 qs (child_labels below) [] refl (labels_ascend below h.1) None refl) in (
      record { label = l; below = tree_of below; whole = refl; after = s.after; under = s.under; kept = node_is labels l below ps (filter (begins_between b a) ps) s.keeps (no_leaf below h.1) inner },
      level_of rest h.2 ps labels (done ++ l ∷ []) (is ∙ sym (append_assoc done (l ∷ []) (child_labels rest))) order (Some l) (last_push done l None),
    )

pub walked : (c : Children) → InOrder c → (ps : List (List Bytes)) → AllSome ps → part (tree_of c) ps ≡ witness_of ps c
unfolding witness_of
walked c h ps some = from_level c ps some (level_of c h ps (child_labels c) [] refl (labels_ascend c h) None refl)

pub state_walked : (v : ℕ) (s : SystemPart) → IsSystem v s → (ps : List (List Bytes)) → AllSome ps → part (state_tree s) ps ≡ witness s ps
unfolding state_tree witness
state_walked v s good ps some = walked (root_children s) (state_in_order s good.ids_ascend) ps some

-- ---- with what the laws say of witnesses

pub is_witness : (v : ℕ) (s : SystemPart) → IsSystem v s → (ps : List (List Bytes)) → AllSome ps → (w : Tree) → w ≡ part (state_tree s) ps → IsWitness s ps w
is_witness v s good ps some w is =
    let same : w ≡ witness s ps = is ∙ state_walked v s good ps some in
    record {
      value = same;
      hash = ap reconstruct same ∙ witness_hash s ps;
      good = subst IsSpellable (sym same) (witness_spellable v s ps good);
      shown = λ p there long showing. ap (lookup p) same ∙ path_shown v s ps p good there long showing;
      hidden = λ p there long hiding. ap (lookup p) same ∙ path_hidden v s ps p good there long hiding;
    }

-- ---- the paths, one by one

some_path : (p : List Bytes) → is_path p ≡ true → is_some_path p ≡ true
some_path [] h = absurd cc
some_path (l ∷ p) h = refl

all_push : (p : List Bytes) (qs : List (List Bytes)) → is_path p ≡ true → AllSome qs → AllSome (qs ++ p ∷ [])
all_push p [] h s = (some_path p h, tt)
all_push p (q ∷ qs) h s = (s.0, all_push p qs h s.1)

-- the labels of the paths so far
pub record Gathered (rests taken : List (List Bytes)) : Type 0 where
  pub same : rests ≡ taken
  pub some : AllSome taken

pub gathered_more : {X : Type 0} (now : X → List Bytes) (old new : List X) (x : X) (ps : List (List Bytes)) (i : ℕ) (p : List Bytes) → Gathered (map now old) (take i ps) → new ≡ old ++ x ∷ []
    → now x ≡ p → i < length ps → p ≡ get_or ps i p → is_path p ≡ true → Gathered (map now new) (take (i + 1) ps)
gathered_more now old new x ps i p h more is lt there good =
    let next : take (i + 1) ps ≡ take i ps ++ p ∷ [] = take_more ps i p lt ∙ ap (λ q. take i ps ++ q ∷ []) (sym there) in
    record {
      same = ap (map now) more ∙ map-append now old (x ∷ []) ∙ ap (λ qs. qs ++ now x ∷ []) h.same ∙ ap (λ q. take i ps ++ q ∷ []) is ∙ sym next;
      some = subst AllSome (sym next) (all_push p (take i ps) good h.some);
    }

pub gathered_all : (rests ps : List (List Bytes)) (i : ℕ) → length ps ≤ i → Gathered rests (take i ps) → (rests ≡ ps) × AllSome ps
gathered_all rests ps i le h = let all : take i ps ≡ ps = take_all i ps le in (h.same ∙ all, subst AllSome all h.some)
