-- What a path gives in a witness that it was asked for: unknown where it is hidden, and only there.
use Rattle.std.proofs.Common.{◌≡◌, ◌≢◌, ◌⊎◌, ◌<◌, ◌||◌, ◌&&◌, not, Bool, true, false, cond, List, [], ◌∷◌, length, map, Option, Some, None, refl, sym, ap, ◌∙◌, subst, inl, inr, arith}
use Rattle.std.specs.List.{list_any, cons_option}
use Rattle.std.specs.Cmp.Lexicographic.{nat_list_cmp_total}
use Rattle.std.proofs.Common.{is_eq}
use Rattle.std.proofs.lemmas.Bool.{or_left, or_right, cases_Bool}
use Rattle.std.proofs.lemmas.Cmp.{tied_itself}
use Rattle.format_spec.specs.Bytes.{Bytes, same_bytes}
use Rattle.tree_spec.specs.Tree.{Tree, leaf, pruned, flatten, reconstruct, forks}
use Rattle.tree_spec.specs.Lookup.{lookup, below_label, has_gap_at, is_outside, missing, at_end, absent, unknown, error}
use Rattle.tree_spec.specs.Labelled.{Children, none, leaf_at, node_at, tree_of}
use Rattle.tree_spec.specs.Witness.{Kept, kept_children, none_kept, begins_some, is_it, first_label, rest_behind, rests, is_some_path, going_on, child_labels, node_below, ends_at_node, goes_on_behind, is_hidden}
use Rattle.soundness.proofs.Levels.{entries}
use Rattle.soundness.proofs.Lookups.{absent_from}
use Rattle.soundness.proofs.StateTrees.{InOrder}
use Rattle.soundness.proofs.Shown.{Shows, shows_forks, none_is_pruned, open_end}
use Rattle.soundness.proofs.ShownLabels.{open_node, children_named, At, no_child, a_leaf, a_node, child_at, shown_at, label_shown}
use Rattle.soundness.proofs.ShownGaps.{HasChild, Asked, asked_near, gap_shown}
use Rattle.tree_spec.proofs.Labels.{lookup_some, lookup_none}

-- ---- nodes with children

abbrev pub Filled : Children → Type 0
Filled none = Unit {0}
Filled (leaf_at l v rest) = Filled rest
Filled (node_at l below rest) = HasChild below × Filled below × Filled rest

pub record Sound (c : Children) : Type 0 where
  pub some : HasChild c
  pub order : InOrder c
  pub filled : Filled c

a_node_is : (a b : Children) → a_node a ≡ a_node b → a ≡ b
a_node_is a b e = cc

node_sound : (l : Bytes) (c below : Children) → InOrder c → Filled c → child_at l c ≡ a_node below → Sound below
node_sound l none below o f e = absurd cc
node_sound l (leaf_at k v rest) below o f e = by (same_bytes k l) e (λ h. node_sound l rest below o.1 f h)
  where
    by : (b : Bool) → cond b (a_leaf v) (child_at l rest) ≡ a_node below → (child_at l rest ≡ a_node below → Sound below) → Sound below
    by true h more = absurd cc
    by false h more = more h
node_sound l (node_at k d rest) below o f e = by (same_bytes k l) e (λ h. node_sound l rest below o.2 f.2 h)
  where
    by : (b : Bool) → cond b (a_node d) (child_at l rest) ≡ a_node below → (child_at l rest ≡ a_node below → Sound below) → Sound below
    by true h more = subst Sound (a_node_is d below h) (record { some = f.0; order = o.1; filled = f.1 })
    by false h more = more h

abbrev node_of : At → Option Children
node_of no_child = None
node_of (a_leaf v) = None
node_of (a_node below) = Some below

node_is : (l : Bytes) (c : Children) → node_below l c ≡ node_of (child_at l c)
node_is l none = refl
node_is l (leaf_at k v rest) = by (same_bytes k l) (node_is l rest)
  where
    by : (b : Bool) → node_below l rest ≡ node_of (child_at l rest) → elim b as (λ x. Option Children) [ true ↦ None | false ↦ node_below l rest ] ≡ node_of (cond b (a_leaf v) (child_at l rest))
    by true h = refl
    by false h = h
node_is l (node_at k below rest) = by (same_bytes k l) (node_is l rest)
  where
    by : (b : Bool) → node_below l rest ≡ node_of (child_at l rest) → elim b as (λ x. Option Children) [ true ↦ Some below | false ↦ node_below l rest ] ≡ node_of (cond b (a_node below) (child_at l rest))
    by true h = refl
    by false h = h

ends_as : (l : Bytes) (path : List Bytes) (c : Children) (a : At) → child_at l c ≡ a → ends_at_node (l ∷ path) c ≡ elim (node_of a) as (λ x. Bool) [ Some below ↦ ends_at_node path below | None ↦ false ]
ends_as l path c a e = ap (λ (o : Option Children). elim o as (λ x. Bool) [ Some below ↦ ends_at_node path below | None ↦ false ]) (node_is l c ∙ ap node_of e)

-- ---- paths

begins : (l : Bytes) (path : List Bytes) (ps : List (List Bytes)) → Asked (l ∷ path) ps → begins_some l ps ≡ true
begins l path [] a = absurd a
begins l path (q ∷ qs) (inl e) = or_left (is_it l (first_label q)) (begins_some l qs) (ap (λ (x : List Bytes). is_it l (first_label x)) e ∙ ap is_eq (tied_itself nat_list_cmp_total l))
begins l path (q ∷ qs) (inr a) = or_right (is_it l (first_label q)) (begins_some l qs) (begins l path qs a)

asked_rest : (l : Bytes) (path : List Bytes) (ps : List (List Bytes)) → Asked (l ∷ path) ps → Asked path (rests l ps)
asked_rest l path [] a = absurd a
asked_rest l path (q ∷ qs) (inl e) = subst (λ (x : List Bytes). Asked path (cons_option (rest_behind l x) (rests l qs))) (sym e) (mine (same_bytes l l) (ap is_eq (tied_itself nat_list_cmp_total l)))
  where
    mine : (b : Bool) → b ≡ true → Asked path (cons_option (elim b as (λ x. Option (List Bytes)) [ true ↦ Some path | false ↦ None ]) (rests l qs))
    mine true e = inl refl
    mine false e = absurd cc
asked_rest l path (q ∷ qs) (inr a) = by (rest_behind l q) (asked_rest l path qs a)
  where
    by : (o : Option (List Bytes)) → Asked path (rests l qs) → Asked path (cons_option o (rests l qs))
    by None h = h
    by (Some r) h = inr h

asked_on : (m : Bytes) (p : List Bytes) (xs : List (List Bytes)) → Asked (m ∷ p) xs → Asked (m ∷ p) (going_on xs)
asked_on m p [] a = absurd a
asked_on m p ([] ∷ xs) (inl e) = absurd cc
asked_on m p ([] ∷ xs) (inr a) = asked_on m p xs a
asked_on m p ((k ∷ r) ∷ xs) (inl e) = inl e
asked_on m p ((k ∷ r) ∷ xs) (inr a) = inr (asked_on m p xs a)

-- which paths go on behind one
behind_label : (l : Bytes) (p : List Bytes) (ps : List (List Bytes)) → list_any (goes_on_behind (l ∷ p)) ps ≡ list_any (goes_on_behind p) (rests l ps)
behind_label l p [] = refl
behind_label l p ([] ∷ qs) = behind_label l p qs
behind_label l p ((k ∷ r) ∷ qs) = by (same_bytes k l) (behind_label l p qs)
  where
    by : (b : Bool) → list_any (goes_on_behind (l ∷ p)) qs ≡ list_any (goes_on_behind p) (rests l qs)
        → (b && goes_on_behind p r) || list_any (goes_on_behind (l ∷ p)) qs ≡ list_any (goes_on_behind p) (cons_option (elim b as (λ x. Option (List Bytes)) [ true ↦ Some r | false ↦ None ]) (rests l qs))
    by true h = ap (λ (x : Bool). goes_on_behind p r || x) h
    by false h = h

behind_more : (m : Bytes) (p : List Bytes) (xs : List (List Bytes)) → list_any (goes_on_behind (m ∷ p)) xs ≡ list_any (goes_on_behind (m ∷ p)) (going_on xs)
behind_more m p [] = refl
behind_more m p ([] ∷ xs) = behind_more m p xs
behind_more m p ((k ∷ r) ∷ xs) = ap (λ (x : Bool). (same_bytes k m && goes_on_behind p r) || x) (behind_more m p xs)

behind_deeper : (l m : Bytes) (p : List Bytes) (ps : List (List Bytes)) → list_any (goes_on_behind (l ∷ m ∷ p)) ps ≡ list_any (goes_on_behind (m ∷ p)) (going_on (rests l ps))
behind_deeper l m p ps = behind_label l (m ∷ p) ps ∙ behind_more m p (rests l ps)

-- at the end of a path: some go on just where a rest is left
none_on : (xs : List (List Bytes)) → going_on xs ≡ [] → list_any is_some_path xs ≡ false
none_on [] h = refl
none_on ([] ∷ xs) h = none_on xs h
none_on ((k ∷ r) ∷ xs) h = absurd cc

some_on : (xs : List (List Bytes)) → list_any is_some_path xs ≡ false → going_on xs ≡ []
some_on [] h = refl
some_on ([] ∷ xs) h = some_on xs h
some_on ((k ∷ r) ∷ xs) h = absurd cc

head_on : (xs : List (List Bytes)) (q : List Bytes) (qs : List (List Bytes)) → going_on xs ≡ q ∷ qs → is_some_path q ≡ true
head_on [] q qs e = absurd cc
head_on ([] ∷ xs) q qs e = head_on xs q qs e
head_on ((k ∷ r) ∷ xs) q qs e = ap is_some_path (first (k ∷ r) q (going_on xs) qs (sym e))
  where
    first : (a b : List Bytes) (cs bs : List (List Bytes)) → b ∷ bs ≡ a ∷ cs → b ≡ a
    first a b cs bs e = cc

-- ---- one level

level : (ps : List (List Bytes)) (c : Children) → HasChild c → Shows (kept_children (child_labels c) ps c) (flatten (open_node c ps))
level ps c some = let cs : List Kept = kept_children (child_labels c) ps c in shows_forks (length cs) cs (some_kept (child_labels c) ps c some) (omega arith) (children_named (child_labels c) ps c)
  where
    some_kept : (ls : List Bytes) (ps : List (List Bytes)) (c : Children) → HasChild c → 0 < length (kept_children ls ps c)
    some_kept ls ps none h = absurd h
    some_kept ls ps (leaf_at l v rest) h = omega arith
    some_kept ls ps (node_at l below rest) h = omega arith

label_open : (ps : List (List Bytes)) (l : Bytes) (path : List Bytes) (c : Children) → Sound c → Asked (l ∷ path) ps → below_label l (flatten (open_node c ps)) ≡ shown_at ps l (child_at l c)
label_open ps l path c s a = label_shown (child_labels c) ps l c (flatten (open_node c ps)) (level ps c s.some) (begins l path ps a)

label_missing : (ps : List (List Bytes)) (l : Bytes) (path : List Bytes) (c : Children) → Sound c → Asked (l ∷ path) ps → child_at l c ≡ no_child
    → (has_gap_at l (entries (flatten (open_node c ps))) ≡ true) ⊎ (is_outside l (entries (flatten (open_node c ps))) ≡ true)
label_missing ps l path c s a e = gap_shown ps l c (flatten (open_node c ps)) s.some s.order (asked_near ps l path c a e) e (level ps c s.some)

-- ---- the end of a path at a node that another path enters

some_shown : (ps : List (List Bytes)) (m : Bytes) (below : Children) → shown_at ps m (a_node below) ≢ None
some_shown ps m below = by (going_on (rests m ps))
  where
    by : (rs : List (List Bytes)) → elim rs as (λ x. Option Tree) [ [] ↦ Some (pruned (reconstruct (tree_of below))) | p ∷ qs ↦ Some (open_node below (p ∷ qs)) ] ≢ None
    by [] e = cc
    by (p ∷ qs) e = cc

module _ (m : Bytes) (r : List Bytes) (qs : List (List Bytes)) (c : Children) (s : Sound c) where
  -- all as one hash tells nothing of a path that was asked for
  not_all : (h : Bytes) → open_node c ((m ∷ r) ∷ qs) ≡ pruned h → (a : At) → child_at m c ≡ a → ⊥
  not_all h one no_child e = by (label_missing ((m ∷ r) ∷ qs) m r c s (inl refl) e)
    where
      by : (has_gap_at m (entries (flatten (open_node c ((m ∷ r) ∷ qs)))) ≡ true) ⊎ (is_outside m (entries (flatten (open_node c ((m ∷ r) ∷ qs)))) ≡ true) → ⊥
      by (inl g) = let f : has_gap_at m (entries (flatten (open_node c ((m ∷ r) ∷ qs)))) ≡ false = ap (λ (t : Tree). has_gap_at m (entries (flatten t))) one in cc
      by (inr o) = let f : is_outside m (entries (flatten (open_node c ((m ∷ r) ∷ qs)))) ≡ false = ap (λ (t : Tree). is_outside m (entries (flatten t))) one in cc
  not_all h one (a_leaf v) e =
      let none : below_label m (flatten (open_node c ((m ∷ r) ∷ qs))) ≡ None = ap (λ (t : Tree). below_label m (flatten t)) one in
      let some : below_label m (flatten (open_node c ((m ∷ r) ∷ qs))) ≡ Some (leaf v) = label_open ((m ∷ r) ∷ qs) m r c s (inl refl) ∙ ap (shown_at ((m ∷ r) ∷ qs) m) e in
      cc
  not_all h one (a_node below) e =
      let none : below_label m (flatten (open_node c ((m ∷ r) ∷ qs))) ≡ None = ap (λ (t : Tree). below_label m (flatten t)) one in
      some_shown ((m ∷ r) ∷ qs) m below (sym (ap (shown_at ((m ∷ r) ∷ qs) m) e) ∙ sym (label_open ((m ∷ r) ∷ qs) m r c s (inl refl)) ∙ none)

  entered : at_end (open_node c ((m ∷ r) ∷ qs)) ≡ error
  entered = by (cases_Bool (none_kept (kept_children (child_labels c) ((m ∷ r) ∷ qs) c)))
    where
      by : (none_kept (kept_children (child_labels c) ((m ∷ r) ∷ qs) c) ≡ true) ⊎ (none_kept (kept_children (child_labels c) ((m ∷ r) ∷ qs) c) ≡ false) → at_end (open_node c ((m ∷ r) ∷ qs)) ≡ error
      by (inr some) = open_end (length (kept_children (child_labels c) ((m ∷ r) ∷ qs) c)) (kept_children (child_labels c) ((m ∷ r) ∷ qs) c) (omega arith) (children_named (child_labels c) ((m ∷ r) ∷ qs) c) some
      by (inl all) =
          let cs : List Kept = kept_children (child_labels c) ((m ∷ r) ∷ qs) c in
          absurd (not_all (reconstruct (forks (map (λ x. x.whole) cs))) (none_is_pruned (length cs) cs all) (child_at m c) refl)

some_entered : (q : List Bytes) (qs : List (List Bytes)) (c : Children) → Sound c → is_some_path q ≡ true → at_end (open_node c (q ∷ qs)) ≡ error
some_entered [] qs c s h = absurd cc
some_entered (m ∷ r) qs c s h = entered m r qs c s

-- ---- a hidden path

below_open : (ps : List (List Bytes)) (l : Bytes) (path : List Bytes) (c below : Children) → Sound c → Asked (l ∷ path) ps → child_at l c ≡ a_node below → (x : Tree) → shown_at ps l (a_node below) ≡ Some x → lookup (l ∷ path) (open_node c ps) ≡ lookup path x
below_open ps l path c below s a e x h = lookup_some l path (open_node c ps) x (label_open ps l path c s a ∙ ap (shown_at ps l) e ∙ h)

shown_as : (ps : List (List Bytes)) (l : Bytes) (below : Children) (rs : List (List Bytes)) → going_on (rests l ps) ≡ rs
    → shown_at ps l (a_node below) ≡ elim rs as (λ x. Option Tree) [ [] ↦ Some (pruned (reconstruct (tree_of below))) | p ∷ qs ↦ Some (open_node below (p ∷ qs)) ]
shown_as ps l below rs e = ap (λ (xs : List (List Bytes)). elim xs as (λ x. Option Tree) [ [] ↦ Some (pruned (reconstruct (tree_of below))) | p ∷ qs ↦ Some (open_node below (p ∷ qs)) ]) e

pub hidden_unknown : (path : List Bytes) (l : Bytes) (ps : List (List Bytes)) (c : Children) → Sound c → Asked (l ∷ path) ps → ends_at_node (l ∷ path) c ≡ true → list_any (goes_on_behind (l ∷ path)) ps ≡ false
    → lookup (l ∷ path) (open_node c ps) ≡ unknown
unfolding lookup
hidden_unknown [] l ps c s a ends alone = by (child_at l c) refl
  where
    by : (at : At) → child_at l c ≡ at → lookup (l ∷ []) (open_node c ps) ≡ unknown
    by no_child e = absurd (let f = sym (ends_as l [] c no_child e) ∙ ends in cc)
    by (a_leaf v) e = absurd (let f = sym (ends_as l [] c (a_leaf v) e) ∙ ends in cc)
    by (a_node below) e =
        let none_on : going_on (rests l ps) ≡ [] = some_on (rests l ps) (sym (behind_label l [] ps) ∙ alone) in
        below_open ps l [] c below s a e (pruned (reconstruct (tree_of below))) (shown_as ps l below [] none_on)
hidden_unknown (m ∷ path) l ps c s a ends alone = by (child_at l c) refl (λ below qs t b f g. hidden_unknown path m qs below t b f g)
  where
    by : (at : At) → child_at l c ≡ at
        → ((below : Children) (qs : List (List Bytes)) → Sound below → Asked (m ∷ path) qs → ends_at_node (m ∷ path) below ≡ true → list_any (goes_on_behind (m ∷ path)) qs ≡ false → lookup (m ∷ path) (open_node below qs) ≡ unknown)
        → lookup (l ∷ m ∷ path) (open_node c ps) ≡ unknown
    by no_child e more = absurd (let f = sym (ends_as l (m ∷ path) c no_child e) ∙ ends in cc)
    by (a_leaf v) e more = absurd (let f = sym (ends_as l (m ∷ path) c (a_leaf v) e) ∙ ends in cc)
    by (a_node below) e more = on (going_on (rests l ps)) refl (asked_on m path (rests l ps) (asked_rest l (m ∷ path) ps a))
      where
        on : (rs : List (List Bytes)) → going_on (rests l ps) ≡ rs → Asked (m ∷ path) rs → lookup (l ∷ m ∷ path) (open_node c ps) ≡ unknown
        on [] g b = absurd b
        on (q ∷ qs) g b =
            below_open ps l (m ∷ path) c below s a e (open_node below (q ∷ qs)) (shown_as ps l below (q ∷ qs) g)
            ∙ more below (q ∷ qs) (node_sound l c below s.order s.filled e) b (sym (ends_as l (m ∷ path) c (a_node below) e) ∙ ends)
            (sym (ap (list_any (goes_on_behind (m ∷ path))) g) ∙ sym (behind_deeper l m path ps) ∙ alone)

-- ---- any other

leaf_tells : (path : List Bytes) (v : Bytes) → lookup path (leaf v) ≢ unknown
unfolding lookup
leaf_tells [] v e = cc
leaf_tells (m ∷ path) v e = cc

missing_tells : (l : Bytes) (path : List Bytes) (ps : List (List Bytes)) (c : Children) → Sound c → Asked (l ∷ path) ps → child_at l c ≡ no_child → lookup (l ∷ path) (open_node c ps) ≢ unknown
missing_tells l path ps c s a e u =
    let t : Tree = open_node c ps in
    let none : below_label l (flatten t) ≡ None = label_open ps l path c s a ∙ ap (shown_at ps l) e in
    let gone : missing l (flatten t) ≡ absent = absent_from l (flatten t) (by (label_missing ps l path c s a e)) in
    let all = sym (lookup_none l path t none ∙ gone) ∙ u in
    cc
  where
    by : (has_gap_at l (entries (flatten (open_node c ps))) ≡ true) ⊎ (is_outside l (entries (flatten (open_node c ps))) ≡ true) → has_gap_at l (entries (flatten (open_node c ps))) || is_outside l (entries (flatten (open_node c ps))) ≡ true
    by (inl g) = or_left (has_gap_at l (entries (flatten (open_node c ps)))) (is_outside l (entries (flatten (open_node c ps)))) g
    by (inr o) = or_right (has_gap_at l (entries (flatten (open_node c ps)))) (is_outside l (entries (flatten (open_node c ps)))) o

leaf_told : (l : Bytes) (path : List Bytes) (ps : List (List Bytes)) (c : Children) (v : Bytes) → Sound c → Asked (l ∷ path) ps → child_at l c ≡ a_leaf v → lookup (l ∷ path) (open_node c ps) ≢ unknown
leaf_told l path ps c v s a e u = leaf_tells path v (sym (lookup_some l path (open_node c ps) (leaf v) (label_open ps l path c s a ∙ ap (shown_at ps l) e)) ∙ u)

pub shown_tells : (path : List Bytes) (l : Bytes) (ps : List (List Bytes)) (c : Children) → Sound c → Asked (l ∷ path) ps → is_hidden ps (l ∷ path) c ≡ false → lookup (l ∷ path) (open_node c ps) ≢ unknown
unfolding lookup
shown_tells [] l ps c s a visible u = by (child_at l c) refl
  where
    by : (at : At) → child_at l c ≡ at → ⊥
    by no_child e = missing_tells l [] ps c s a e u
    by (a_leaf v) e = leaf_told l [] ps c v s a e u
    by (a_node below) e = on (going_on (rests l ps)) refl
      where
        on : (rs : List (List Bytes)) → going_on (rests l ps) ≡ rs → ⊥
        on [] g =
            let alone : list_any (goes_on_behind (l ∷ [])) ps ≡ false = behind_label l [] ps ∙ none_on (rests l ps) g in
            let all : is_hidden ps (l ∷ []) c ≡ true = ap (λ (b : Bool). b && not (list_any (goes_on_behind (l ∷ [])) ps)) (ends_as l [] c (a_node below) e) ∙ ap not alone in
            cc
        on (q ∷ qs) g =
            let told : at_end (open_node below (q ∷ qs)) ≡ error = some_entered q qs below (node_sound l c below s.order s.filled e) (head_on (rests l ps) q qs g) in
            let all = sym (below_open ps l [] c below s a e (open_node below (q ∷ qs)) (shown_as ps l below (q ∷ qs) g) ∙ told) ∙ u in
            cc
shown_tells (m ∷ path) l ps c s a visible u = by (child_at l c) refl (λ below qs t b o f. shown_tells path m qs below t b o f)
  where
    by : (at : At) → child_at l c ≡ at
        → ((below : Children) (qs : List (List Bytes)) → Sound below → Asked (m ∷ path) qs → is_hidden qs (m ∷ path) below ≡ false → lookup (m ∷ path) (open_node below qs) ≢ unknown) → ⊥
    by no_child e more = missing_tells l (m ∷ path) ps c s a e u
    by (a_leaf v) e more = leaf_told l (m ∷ path) ps c v s a e u
    by (a_node below) e more = on (going_on (rests l ps)) refl (asked_on m path (rests l ps) (asked_rest l (m ∷ path) ps a))
      where
        on : (rs : List (List Bytes)) → going_on (rests l ps) ≡ rs → Asked (m ∷ path) rs → ⊥
        on [] g b = absurd b
        on (q ∷ qs) g b =
            let same : is_hidden ps (l ∷ m ∷ path) c ≡ is_hidden (q ∷ qs) (m ∷ path) below =
            ap (λ (x : Bool). x && not (list_any (goes_on_behind (l ∷ m ∷ path)) ps)) (ends_as l (m ∷ path) c (a_node below) e)
            ∙ ap (λ (x : Bool). ends_at_node (m ∷ path) below && not x) (behind_deeper l m path ps ∙ ap (list_any (goes_on_behind (m ∷ path))) g) in
            more below (q ∷ qs) (node_sound l c below s.order s.filled e) b (sym same ∙ visible)
            (sym (below_open ps l (m ∷ path) c below s a e (open_node below (q ∷ qs)) (shown_as ps l below (q ∷ qs) g)) ∙ u)
