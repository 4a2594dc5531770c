-- A label that is missing at one level of a witness: its neighbours are kept, so it is absent.
use Rattle.std.proofs.Common.{◌≡◌, ◌⊎◌, ◌||◌, ◌&&◌, not, Bool, true, false, cond, List, [], ◌∷◌, filter, find, Option, Some, None, refl, sym, ap, ◌∙◌, subst, inl, inr, Ordering, Less, Equal, Greater, is_lt, is_eq}
use Rattle.std.specs.List.{list_all, list_any, filter_map, last_or}
use Rattle.std.specs.Ordering.{ordering_reverse}
use Rattle.std.specs.Cmp.Lexicographic.{nat_list_cmp_total}
use Rattle.std.proofs.lemmas.Bool.{and_parts, and_from, or_left, or_right}
use Rattle.std.proofs.lemmas.Cmp.{tied_itself}
use Rattle.format_spec.specs.Bytes.{Bytes, bytes_cmp, bytes_below, same_bytes}
use Rattle.format_spec.proofs.Follow.{above_too}
use Rattle.tree_spec.specs.Tree.{Tree, labeled, leaf, pruned, label_of}
use Rattle.tree_spec.specs.Lookup.{has_gap_at, is_outside, is_above, is_below, last_entry}
use Rattle.tree_spec.specs.Labelled.{Children, none, leaf_at, node_at, tree_of}
use Rattle.tree_spec.specs.Witness.{Kept, kept_children, is_it, first_label, is_next_to, is_neighbour, child_labels}
use Rattle.soundness.proofs.Levels.{ends_below, gap_cons, ends_cons, entries}
use Rattle.soundness.proofs.StateTrees.{InOrder}
use Rattle.soundness.proofs.Shown.{Shows, shows_none, shows_kept, cut_last, cut_more}
use Rattle.soundness.proofs.ShownLabels.{IsKept, leaf_kept, node_kept, leaf_near, node_near, no_child, a_leaf, a_node, child_at}

-- ---- byte order

data Place : Bytes → Bytes → Type 0 where
  is_low : (k l : Bytes) → bytes_below k l ≡ true → bytes_below l k ≡ false → Place k l
  is_high : (k l : Bytes) → bytes_below k l ≡ false → bytes_below l k ≡ true → Place k l

place_of : (k l : Bytes) → same_bytes k l ≡ false → Place k l
place_of k l e = by (bytes_cmp k l) refl
  where
    by : (o : Ordering) → bytes_cmp k l ≡ o → Place k l
    by Less o = is_low k l (ap is_lt o) (ap is_lt (nat_list_cmp_total.antisymm l k ∙ ap ordering_reverse o))
    by Equal o = absurd (let same : same_bytes k l ≡ true = ap is_eq o in cc)
    by Greater o = is_high k l (ap is_lt o) (ap is_lt (nat_list_cmp_total.antisymm l k ∙ ap ordering_reverse o))

same_turned : (k l : Bytes) → same_bytes k l ≡ false → same_bytes l k ≡ false
same_turned k l e = ap is_eq (nat_list_cmp_total.antisymm l k) ∙ by (bytes_cmp k l) e
  where
    by : (o : Ordering) → is_eq o ≡ false → is_eq (ordering_reverse o) ≡ false
    by Less h = refl
    by Equal h = absurd cc
    by Greater h = refl

-- ---- the nearest labels

abbrev pub nearest_below : Bytes → List Bytes → Option Bytes
nearest_below l ls = last_or None (filter (λ k. bytes_below k l) ls)

abbrev pub nearest_above : Bytes → List Bytes → Option Bytes
nearest_above l ls = find (λ k. bytes_below l k) ls

none_below : (l : Bytes) (j : Bytes) (ks : List Bytes) → bytes_below l j ≡ true → list_all (λ i. is_lt (bytes_cmp j i)) ks ≡ true → filter (λ k. bytes_below k l) ks ≡ []
none_below l j [] lt h = refl
none_below l j (k ∷ ks) lt h =
    let p = and_parts (is_lt (bytes_cmp j k)) (list_all (λ i. is_lt (bytes_cmp j i)) ks) h in
    let above = above_too l j (k ∷ ks) lt h in
    let low : bytes_below k l ≡ false = not_below k (and_parts (is_lt (bytes_cmp l k)) (list_all (λ i. is_lt (bytes_cmp l i)) ks) above).0 in
    ap (λ (b : Bool). cond b (k ∷ filter (λ i. bytes_below i l) ks) (filter (λ i. bytes_below i l) ks)) low ∙ none_below l j ks lt p.1
  where
    not_below : (k : Bytes) → bytes_below l k ≡ true → bytes_below k l ≡ false
    not_below k lt = ap is_lt (nat_list_cmp_total.antisymm k l) ∙ by (bytes_cmp l k) lt
      where
        by : (o : Ordering) → is_lt o ≡ true → is_lt (ordering_reverse o) ≡ false
        by Less h = refl
        by Equal h = absurd cc
        by Greater h = absurd cc

itself : (l : Bytes) → is_it l (Some l) ≡ true
itself l = ap is_eq (tied_itself nat_list_cmp_total l)

-- ---- a neighbour of a label that some path begins with is kept

abbrev pub Near : List Bytes → List (List Bytes) → Bytes → Type 0
Near ls ps l = (k : Bytes) → (is_it k (nearest_below l ls) ≡ true) ⊎ (is_it k (nearest_above l ls) ≡ true) → is_neighbour ls ps k ≡ true

-- what a level with no such label ends with, or has
abbrev pub Told : Bytes → List Tree → Type 0
Told l ts = (has_gap_at l (entries ts) ≡ true) ⊎ (ends_below l (entries ts) ≡ true)

record Behind (l : Bytes) (y : Kept) (cs : List Kept) (ts : List Tree) : Type 0 where
  rest : List Tree
  shown : Shows (y ∷ cs) rest
  tells : Told l rest → Told l ts

told_cons : (l : Bytes) (t : Tree) (ts : List Tree) → Told l ts → Told l (t ∷ ts)
told_cons l t ts (inl g) = inl (gap_cons l (label_of t) (entries ts) g)
told_cons l t ts (inr e) = inr (ends_cons l (label_of t) (entries ts) e)

behind : (l : Bytes) (x y : Kept) (cs : List Kept) {ts : List Tree} → Shows (x ∷ y ∷ cs) ts → Behind l y cs ts
behind l x y cs (shows_kept c k a ds ts e p) = record { rest = ts; shown = p; tells = λ h. told_cons l (labeled k a) ts h }
behind l x y cs (cut_last c h ds ts e p) = record { rest = ts; shown = p; tells = λ t. told_cons l (pruned h) ts t }
behind l x y cs (cut_more c h ds ts e p) = record { rest = _; shown = p; tells = λ t. t }

-- one that is kept stands at the front
record Front (k : Bytes) (cs : List Kept) (ts : List Tree) : Type 0 where
  below : Tree
  rest : List Tree
  is : ts ≡ labeled k below ∷ rest
  shown : Shows cs rest

some_is : (t u : Tree) → Some t ≡ Some u → t ≡ u
some_is t u e = cc

front : (k : Bytes) (x : Kept) (cs : List Kept) {ts : List Tree} → IsKept k x.kept → Shows (x ∷ cs) ts → Front k cs ts
front k x cs kept (shows_kept c j a ds ts e p) =
    record { below = kept.0; rest = ts; is = ap (λ (t : Tree). t ∷ ts) (some_is (labeled j a) (labeled k kept.0) (sym e ∙ kept.1)); shown = p }
front k x cs kept (cut_last c h ds ts e p) = absurd (let f = sym e ∙ kept.1 in cc)
front k x cs kept (cut_more c h ds ts e p) = absurd (let f = sym e ∙ kept.1 in cc)

-- ---- after a child below l

no_more : {ts : List Tree} → Shows [] ts → ts ≡ []
no_more shows_none = refl

leaf_absent : (l k v : Bytes) (rest : Children) → child_at l (leaf_at k v rest) ≡ no_child → (same_bytes k l ≡ false) × (child_at l rest ≡ no_child)
leaf_absent l k v rest h = by (same_bytes k l) refl h
  where
    by : (b : Bool) → same_bytes k l ≡ b → cond b (a_leaf v) (child_at l rest) ≡ no_child → (same_bytes k l ≡ false) × (child_at l rest ≡ no_child)
    by true e f = absurd cc
    by false e f = (e, f)

node_absent : (l k : Bytes) (below rest : Children) → child_at l (node_at k below rest) ≡ no_child → (same_bytes k l ≡ false) × (child_at l rest ≡ no_child)
node_absent l k below rest h = by (same_bytes k l) refl h
  where
    by : (b : Bool) → same_bytes k l ≡ b → cond b (a_node below) (child_at l rest) ≡ no_child → (same_bytes k l ≡ false) × (child_at l rest ≡ no_child)
    by true e f = absurd cc
    by false e f = (e, f)

-- how the nearest labels go on over a child j
low_below : (l j : Bytes) (o : Option Bytes) (ks : List Bytes) → bytes_below j l ≡ true → last_or o (filter (λ k. bytes_below k l) (j ∷ ks)) ≡ last_or (Some j) (filter (λ k. bytes_below k l) ks)
low_below l j o ks lt = ap (λ (b : Bool). last_or o (cond b (j ∷ filter (λ k. bytes_below k l) ks) (filter (λ k. bytes_below k l) ks))) lt

low_above : (l j : Bytes) (ks : List Bytes) → bytes_below l j ≡ false → nearest_above l (j ∷ ks) ≡ nearest_above l ks
low_above l j ks nlt = ap (λ (b : Bool). cond b (Some j) (nearest_above l ks)) nlt

high_below : (l j : Bytes) (o : Option Bytes) (ks : List Bytes) → bytes_below j l ≡ false → bytes_below l j ≡ true → list_all (λ i. is_lt (bytes_cmp j i)) ks ≡ true → last_or o (filter (λ k. bytes_below k l) (j ∷ ks)) ≡ o
high_below l j o ks nlt lt h =
    ap (λ (b : Bool). last_or o (cond b (j ∷ filter (λ k. bytes_below k l) ks) (filter (λ k. bytes_below k l) ks))) nlt ∙ ap (last_or o) (none_below l j ks lt h)

high_above : (l j : Bytes) (ks : List Bytes) → bytes_below l j ≡ true → nearest_above l (j ∷ ks) ≡ Some j
high_above l j ks lt = ap (λ (b : Bool). cond b (Some j) (nearest_above l ks)) lt

module _ (ls : List Bytes) (ps : List (List Bytes)) (l : Bytes) (near : Near ls ps l) where
  -- a child, its neighbourhood, and how it is kept
  record Low (k : Bytes) (x : Kept) (ks : List Bytes) : Type 0 where
    low : bytes_below k l ≡ true
    kept : is_neighbour ls ps k ≡ true → IsKept k x.kept
    below : nearest_below l ls ≡ last_or (Some k) (filter (λ i. bytes_below i l) ks)
    above : nearest_above l ls ≡ nearest_above l ks

  -- the child before l is the last one
  at_end : (k : Bytes) (x : Kept) {ts : List Tree} → Low k x [] → Shows (x ∷ []) ts → Told l ts
  at_end k x h sh =
      let f = front k x [] (h.kept (near k (inl (ap (is_it k) h.below ∙ itself k)))) sh in
      subst (Told l) (sym (f.is ∙ ap (λ (r : List Tree). labeled k f.below ∷ r) (no_more f.shown))) (inr h.low)

  -- or the next one is above l
  at_gap : (k j : Bytes) (x y : Kept) (ks : List Bytes) (cs : List Kept) {ts : List Tree} → Low k x (j ∷ ks) → (is_neighbour ls ps j ≡ true → IsKept j y.kept)
      → bytes_below j l ≡ false → bytes_below l j ≡ true → list_all (λ i. is_lt (bytes_cmp j i)) ks ≡ true → Shows (x ∷ y ∷ cs) ts → Told l ts
  at_gap k j x y ks cs h other nlt lt order sh =
      let f = front k x (y ∷ cs) (h.kept (near k (inl (ap (is_it k) (h.below ∙ high_below l j (Some k) ks nlt lt order) ∙ itself k)))) sh in
      let g = front j y cs (other (near j (inr (ap (is_it j) (h.above ∙ high_above l j ks lt) ∙ itself j)))) f.shown in
      subst (Told l) (sym (f.is ∙ ap (λ (r : List Tree). labeled k f.below ∷ r) g.is))
      (inl (or_left (bytes_below k l && bytes_below l j) (has_gap_at l (Some j ∷ entries g.rest)) (and_from (bytes_below k l) (bytes_below l j) h.low lt)))

  next_low : (k j : Bytes) (x y : Kept) (ks : List Bytes) → Low k x (j ∷ ks) → (is_neighbour ls ps j ≡ true → IsKept j y.kept) → bytes_below j l ≡ true → bytes_below l j ≡ false → Low j y ks
  next_low k j x y ks h other lt nlt = record {
    low = lt;
    kept = other;
    below = h.below ∙ low_below l j (Some k) ks lt;
    above = h.above ∙ low_above l j ks nlt;
  }

  step : (k j : Bytes) (x y : Kept) (ks : List Bytes) (cs : List Kept) (ts : List Tree) → same_bytes j l ≡ false → list_all (λ i. is_lt (bytes_cmp j i)) ks ≡ true → Low k x (j ∷ ks) → (is_neighbour ls ps j ≡ true → IsKept j y.kept)
      → (Low j y ks → (us : List Tree) → Shows (y ∷ cs) us → Told l us) → Shows (x ∷ y ∷ cs) ts → Told l ts
  step k j x y ks cs ts apart order h other more sh = by (place_of j l apart)
    where
      by : Place j l → Told l ts
      by (is_low j l lt nlt) = let b = behind l x y cs sh in b.tells (more (next_low k j x y ks h other lt nlt) b.rest b.shown)
      by (is_high j l nlt lt) = at_gap k j x y ks cs h other nlt lt order sh

  after_low : (k : Bytes) (x : Kept) (c : Children) (ts : List Tree) → InOrder c → child_at l c ≡ no_child → Low k x (child_labels c) → Shows (x ∷ kept_children ls ps c) ts → Told l ts
  after_low k x none ts o e h sh = at_end k x h sh
  after_low k x (leaf_at j v rest) ts o e h sh =
      let y : Kept = record { whole = labeled j (leaf v); kept = leaf_kept ls ps j v } in
      let a = leaf_absent l j v rest e in
      step k j x y (child_labels rest) (kept_children ls ps rest) ts a.0 o.0 h (leaf_near ls ps j v) (λ low us shown. after_low j y rest us o.1 a.1 low shown) sh
  after_low k x (node_at j below rest) ts o e h sh =
      let y : Kept = record { whole = labeled j (tree_of below); kept = node_kept ls ps j below } in
      let a = node_absent l j below rest e in
      step k j x y (child_labels rest) (kept_children ls ps rest) ts a.0 o.0 h (node_near ls ps j below) (λ low us shown. after_low j y rest us o.2 a.1 low shown) sh

  -- the first child is above l, or some are below it
  first_step : (j : Bytes) (y : Kept) (ks : List Bytes) (cs : List Kept) (ts : List Tree) → nearest_below l ls ≡ nearest_below l (j ∷ ks) → nearest_above l ls ≡ nearest_above l (j ∷ ks) → same_bytes j l ≡ false → (is_neighbour ls ps j ≡ true → IsKept j y.kept)
      → (Low j y ks → Told l ts) → Shows (y ∷ cs) ts → (has_gap_at l (entries ts) ≡ true) ⊎ (is_outside l (entries ts) ≡ true)
  first_step j y ks cs ts b a apart other more sh = by (place_of j l apart)
    where
      out : (ts : List Tree) → Told l ts → (has_gap_at l (entries ts) ≡ true) ⊎ (is_outside l (entries ts) ≡ true)
      out ts (inl g) = inl g
      out [] (inr e) = absurd cc
      out (t ∷ ts) (inr e) = inr (or_right (is_above (label_of t) l) (is_below (last_entry (label_of t) (entries ts)) l) e)

      by : Place j l → (has_gap_at l (entries ts) ≡ true) ⊎ (is_outside l (entries ts) ≡ true)
      by (is_low j l lt nlt) = out ts (more (record { low = lt; kept = other; below = b ∙ low_below l j None ks lt; above = a ∙ low_above l j ks nlt }))
      by (is_high j l nlt lt) =
          let f = front j y cs (other (near j (inr (ap (is_it j) (a ∙ high_above l j ks lt) ∙ itself j)))) sh in
          subst (λ (us : List Tree). (has_gap_at l (entries us) ≡ true) ⊎ (is_outside l (entries us) ≡ true)) (sym f.is)
          (inr (or_left (bytes_below l j) (is_below (last_entry (Some j) (entries f.rest)) l) lt))

abbrev pub HasChild : Children → Type 0
HasChild none = ⊥
HasChild (leaf_at l v rest) = Unit {0}
HasChild (node_at l below rest) = Unit {0}

pub gap_shown : (ps : List (List Bytes)) (l : Bytes) (c : Children) (ts : List Tree) → HasChild c → InOrder c → Near (child_labels c) ps l → child_at l c ≡ no_child → Shows (kept_children (child_labels c) ps c) ts
    → (has_gap_at l (entries ts) ≡ true) ⊎ (is_outside l (entries ts) ≡ true)
gap_shown ps l none ts some o near e sh = absurd some
gap_shown ps l (leaf_at j v rest) ts some o near e sh =
    let ls : List Bytes = j ∷ child_labels rest in
    let y : Kept = record { whole = labeled j (leaf v); kept = leaf_kept ls ps j v } in
    let a = leaf_absent l j v rest e in
    first_step ls ps l near j y (child_labels rest) (kept_children ls ps rest) ts refl refl a.0 (leaf_near ls ps j v) (λ low. after_low ls ps l near j y rest ts o.1 a.1 low sh) sh
gap_shown ps l (node_at j below rest) ts some o near e sh =
    let ls : List Bytes = j ∷ child_labels rest in
    let y : Kept = record { whole = labeled j (tree_of below); kept = node_kept ls ps j below } in
    let a = node_absent l j below rest e in
    first_step ls ps l near j y (child_labels rest) (kept_children ls ps rest) ts refl refl a.0 (node_near ls ps j below) (λ low. after_low ls ps l near j y rest ts o.2 a.1 low sh) sh

-- ---- a path that is asked for

abbrev pub Asked : List Bytes → List (List Bytes) → Type 0
Asked p [] = ⊥
Asked p (q ∷ qs) = (q ≡ p) ⊎ Asked p qs

first_asked : (t : Bytes → Bool) (l : Bytes) (path : List Bytes) (ps : List (List Bytes)) → Asked (l ∷ path) ps → t l ≡ true → list_any t (filter_map first_label ps) ≡ true
first_asked t l path [] a h = absurd a
first_asked t l path ([] ∷ qs) (inl e) h = absurd cc
first_asked t l path ([] ∷ qs) (inr a) h = first_asked t l path qs a h
first_asked t l path ((k ∷ r) ∷ qs) (inl e) h = let same : k ≡ l = cc in or_left (t k) (list_any t (filter_map first_label qs)) (ap t same ∙ h)
first_asked t l path ((k ∷ r) ∷ qs) (inr a) h = or_right (t k) (list_any t (filter_map first_label qs)) (first_asked t l path qs a h)

not_there : (l : Bytes) (c : Children) → child_at l c ≡ no_child → list_any (same_bytes l) (child_labels c) ≡ false
not_there l none e = refl
not_there l (leaf_at k v rest) e = let a = leaf_absent l k v rest e in ap (λ (b : Bool). b || list_any (same_bytes l) (child_labels rest)) (same_turned k l a.0) ∙ not_there l rest a.1
not_there l (node_at k below rest) e = let a = node_absent l k below rest e in ap (λ (b : Bool). b || list_any (same_bytes l) (child_labels rest)) (same_turned k l a.0) ∙ not_there l rest a.1

pub asked_near : (ps : List (List Bytes)) (l : Bytes) (path : List Bytes) (c : Children) → Asked (l ∷ path) ps → child_at l c ≡ no_child → Near (child_labels c) ps l
asked_near ps l path c a e k near =
    let ls : List Bytes = child_labels c in
    first_asked (is_next_to ls k) l path ps a
    (and_from (not (list_any (same_bytes l) ls)) (is_it k (nearest_below l ls) || is_it k (nearest_above l ls)) (ap not (not_there l c e)) (by near))
  where
    by : (is_it k (nearest_below l (child_labels c)) ≡ true) ⊎ (is_it k (nearest_above l (child_labels c)) ≡ true) → is_it k (nearest_below l (child_labels c)) || is_it k (nearest_above l (child_labels c)) ≡ true
    by (inl b) = or_left (is_it k (nearest_below l (child_labels c))) (is_it k (nearest_above l (child_labels c))) b
    by (inr b) = or_right (is_it k (nearest_below l (child_labels c))) (is_it k (nearest_above l (child_labels c))) b
