-- Levels of a tree with parts cut off, against the same level of a whole tree: what a level tells of a label.
use Rattle.std.proofs.Common.{◌≡◌, ◌⊎◌, Bool, true, false, ◌&&◌, cond, List, [], ◌∷◌, ◌++◌, map, Option, Some, None, refl, sym, ap, ◌∙◌, subst, inl, inr, is_lt, is_eq, Ordering, Less, Equal, Greater}
use Rattle.std.specs.List.{filter_map, list_all}
use Rattle.std.specs.Cmp.{alike_right, Equal-is}
use Rattle.std.specs.Ordering.{ordering_reverse}
use Rattle.std.specs.Cmp.Lexicographic.{nat_list_cmp_total}
use Rattle.std.proofs.lemmas.Bool.{and_parts, and_from, or_cases, or_left, or_right}
use Rattle.format_spec.specs.Bytes.{Bytes, bytes_cmp, bytes_below, same_bytes, ascending}
use Rattle.format_spec.proofs.Follow.{above_too, bytes_below-trans}
use Rattle.tree_spec.specs.Tree.{Tree, empty, fork, labeled, leaf, pruned, flatten, label_of}
use Rattle.tree_spec.specs.Lookup.{below_label, is_below, is_above, has_gap_at, last_entry, is_outside}
use Rattle.soundness.proofs.Like.{Like, like_cut, like_empty, like_fork, like_labeled, like_leaf}

-- ---- byte order

not_same : (o : Ordering) → is_lt o ≡ true → is_eq o ≡ false
not_same Less h = refl
not_same Equal h = absurd cc
not_same Greater h = absurd cc

turned : (o : Ordering) → is_lt (ordering_reverse o) ≡ true → is_eq o ≡ false
turned Less h = refl
turned Equal h = absurd cc
turned Greater h = refl

below_apart : (k l : Bytes) → bytes_below k l ≡ true → same_bytes k l ≡ false
below_apart k l h = not_same (bytes_cmp k l) h

above_apart : (k l : Bytes) → bytes_below l k ≡ true → same_bytes k l ≡ false
above_apart k l h = turned (bytes_cmp k l) (sym (ap is_lt (nat_list_cmp_total.antisymm l k)) ∙ h)

-- below what is the same
below_same : (k j l : Bytes) → bytes_below k j ≡ true → same_bytes j l ≡ true → bytes_below k l ≡ true
below_same k j l p q = ap is_lt (sym (alike_right nat_list_cmp_total j l k ((Equal-is (bytes_cmp j l)).0 q))) ∙ p

-- ---- what stands at a level

abbrev pub labels_in : List Tree → List Bytes
labels_in ts = filter_map label_of ts

abbrev pub entries : List Tree → List (Option Bytes)
entries ts = map label_of ts

abbrev pub Above : Bytes → List Tree → Type 0
Above k ts = list_all (λ j. is_lt (bytes_cmp k j)) (labels_in ts) ≡ true

abbrev pub Ascends : List Tree → Type 0
Ascends ts = ascending bytes_cmp (labels_in ts) ≡ true

-- the first level with parts cut off, the second whole
pub data Refines : List Tree → List Tree → Type 0 where
  none : Refines [] []
  cut_end : (h : Bytes) (ts us : List Tree) → Refines ts us → Refines (pruned h ∷ ts) us
  cut_more : (h : Bytes) (u : Tree) (ts us : List Tree) → Refines (pruned h ∷ ts) us → Refines (pruned h ∷ ts) (u ∷ us)
  same_label : (l : Bytes) (a b : Tree) (ts us : List Tree) → Like a b → Refines ts us → Refines (labeled l a ∷ ts) (labeled l b ∷ us)
  same_leaf : (b : Bytes) (ts us : List Tree) → Refines ts us → Refines (leaf b ∷ ts) (leaf b ∷ us)

all_cut : (h : Bytes) (us : List Tree) → Refines (pruned h ∷ []) us
all_cut h [] = cut_end h [] [] none
all_cut h (u ∷ us) = cut_more h u [] us (all_cut h us)

refines_append : {ts us vs ws : List Tree} → Refines ts us → Refines vs ws → Refines (ts ++ vs) (us ++ ws)
refines_append none q = q
refines_append {vs = vs} {ws = ws} (cut_end h ts us p) q = cut_end h (ts ++ vs) (us ++ ws) (refines_append p q)
refines_append {vs = vs} {ws = ws} (cut_more h u ts us p) q = cut_more h u (ts ++ vs) (us ++ ws) (refines_append p q)
refines_append {vs = vs} {ws = ws} (same_label l a b ts us k p) q = same_label l a b (ts ++ vs) (us ++ ws) k (refines_append p q)
refines_append {vs = vs} {ws = ws} (same_leaf b ts us p) q = same_leaf b (ts ++ vs) (us ++ ws) (refines_append p q)

pub like_levels : {t u : Tree} → Like t u → Refines (flatten t) (flatten u)
like_levels (like_cut h u) = all_cut h (flatten u)
like_levels like_empty = none
like_levels (like_fork a b c d p q) = refines_append (like_levels p) (like_levels q)
like_levels (like_labeled l a b p) = same_label l a b [] [] p none
like_levels (like_leaf b) = same_leaf b [] [] none

-- ---- a label that is there

-- below all labels of a level that has l is below l
found_above : (k l : Bytes) (us : List Tree) (y : Tree) → Above k us → below_label l us ≡ Some y → bytes_below k l ≡ true
found_above k l [] y a e = absurd cc
found_above k l (empty ∷ us) y a e = found_above k l us y a e
found_above k l (fork c d ∷ us) y a e = found_above k l us y a e
found_above k l (labeled j b ∷ us) y a e =
    let p = and_parts (is_lt (bytes_cmp k j)) (list_all (λ i. is_lt (bytes_cmp k i)) (labels_in us)) a in
    by (same_bytes j l) refl p.0 e (λ f. found_above k l us y p.1 f)
  where
    by : (t : Bool) → same_bytes j l ≡ t → bytes_below k j ≡ true → cond t (Some b) (below_label l us) ≡ Some y → (below_label l us ≡ Some y → bytes_below k l ≡ true) → bytes_below k l ≡ true
    by true s lt f g = below_same k j l lt s
    by false s lt f g = g f
found_above k l (leaf b ∷ us) y a e = found_above k l us y a e
found_above k l (pruned h ∷ us) y a e = found_above k l us y a e

pub some_is : (a b : Tree) → Some a ≡ Some b → a ≡ b
some_is a b e = cc

abbrev pub FoundToo : Bytes → List Tree → Tree → Type 0
FoundToo l us x = (y : Tree) × (below_label l us ≡ Some y) × Like x y

-- one more entry in front
found_behind : (l : Bytes) (u : Tree) (us : List Tree) (x : Tree) → Ascends (u ∷ us) → FoundToo l us x → FoundToo l (u ∷ us) x
found_behind l empty us x a f = f
found_behind l (fork c d) us x a f = f
found_behind l (labeled k b) us x a f =
    let p = and_parts (list_all (λ j. is_lt (bytes_cmp k j)) (labels_in us)) (ascending bytes_cmp (labels_in us)) a in
    let s = below_apart k l (found_above k l us f.0 p.0 f.1) in
    (f.0, ap (λ (t : Bool). cond t (Some b) (below_label l us)) s ∙ f.1, f.2)
found_behind l (leaf b) us x a f = f
found_behind l (pruned h) us x a f = f

pub tail_ascends : (u : Tree) (us : List Tree) → Ascends (u ∷ us) → Ascends us
tail_ascends empty us a = a
tail_ascends (fork c d) us a = a
tail_ascends (labeled k b) us a = (and_parts (list_all (λ j. is_lt (bytes_cmp k j)) (labels_in us)) (ascending bytes_cmp (labels_in us)) a).1
tail_ascends (leaf b) us a = a
tail_ascends (pruned h) us a = a

pub found_too : (l : Bytes) (x : Tree) {ts us : List Tree} → Refines ts us → Ascends us → below_label l ts ≡ Some x → FoundToo l us x
found_too l x none a e = absurd cc
found_too l x (cut_end h ts us r) a e = found_too l x r a e
found_too l x (cut_more h u ts us r) a e = found_behind l u us x a (found_too l x r (tail_ascends u us a) e)
found_too l x (same_label k c d ts us p r) a e = by (same_bytes k l) refl e (λ f. found_too l x r (tail_ascends (labeled k d) us a) f)
  where
    by : (t : Bool) → same_bytes k l ≡ t → cond t (Some c) (below_label l ts) ≡ Some x → (below_label l ts ≡ Some x → FoundToo l us x) → FoundToo l (labeled k d ∷ us) x
    by true s f more = (d, ap (λ (t : Bool). cond t (Some d) (below_label l us)) s, subst (λ (z : Tree). Like z d) (some_is c x f) p)
    by false s f more =
        let g = more f in
        (g.0, ap (λ (t : Bool). cond t (Some d) (below_label l us)) s ∙ g.1, g.2)
found_too l x (same_leaf b ts us r) a e = found_too l x r a e

-- ---- a label that is not there

above_none : (l : Bytes) (us : List Tree) → Above l us → below_label l us ≡ None
above_none l [] a = refl
above_none l (empty ∷ us) a = above_none l us a
above_none l (fork c d ∷ us) a = above_none l us a
above_none l (labeled k b ∷ us) a =
    let p = and_parts (is_lt (bytes_cmp l k)) (list_all (λ j. is_lt (bytes_cmp l j)) (labels_in us)) a in
    ap (λ (t : Bool). cond t (Some b) (below_label l us)) (above_apart k l p.0) ∙ above_none l us p.1
above_none l (leaf b ∷ us) a = above_none l us a
above_none l (pruned h ∷ us) a = above_none l us a

below_then_none : (k l : Bytes) (b : Tree) (us : List Tree) → bytes_below k l ≡ true → below_label l us ≡ None → below_label l (labeled k b ∷ us) ≡ None
below_then_none k l b us lt e = ap (λ (t : Bool). cond t (Some b) (below_label l us)) (below_apart k l lt) ∙ e

-- l has an entry below it in this list
abbrev pub HasBelow : Bytes → List (Option Bytes) → Type 0
HasBelow l [] = ⊥
HasBelow l (e ∷ es) = (is_below e l ≡ true) ⊎ HasBelow l es

gap_has : (l : Bytes) (es : List (Option Bytes)) → has_gap_at l es ≡ true → HasBelow l es
gap_has l [] h = absurd cc
gap_has l (a ∷ []) h = absurd cc
gap_has l (a ∷ b ∷ es) h = by (or_cases (is_below a l && is_above b l) (has_gap_at l (b ∷ es)) h) (λ q. gap_has l (b ∷ es) q)
  where
    by : (is_below a l && is_above b l ≡ true) ⊎ (has_gap_at l (b ∷ es) ≡ true) → (has_gap_at l (b ∷ es) ≡ true → HasBelow l (b ∷ es)) → HasBelow l (a ∷ b ∷ es)
    by (inl p) f = inl (and_parts (is_below a l) (is_above b l) p).0
    by (inr q) f = inr (f q)

-- the last entry of some is below l
abbrev pub ends_below : Bytes → List (Option Bytes) → Bool
ends_below l [] = false
ends_below l (e ∷ es) = is_below (last_entry e es) l

ends_has : (l : Bytes) (es : List (Option Bytes)) → ends_below l es ≡ true → HasBelow l es
ends_has l [] h = absurd cc
ends_has l (a ∷ []) h = inl h
ends_has l (a ∷ b ∷ es) h = inr (ends_has l (b ∷ es) h)

-- below all labels of a level that has one below l is below l
has_above : (k l : Bytes) (us : List Tree) → Above k us → HasBelow l (entries us) → bytes_below k l ≡ true
has_above k l [] a h = absurd h
has_above k l (empty ∷ us) a (inl h) = absurd cc
has_above k l (empty ∷ us) a (inr h) = has_above k l us a h
has_above k l (fork c d ∷ us) a (inl h) = absurd cc
has_above k l (fork c d ∷ us) a (inr h) = has_above k l us a h
has_above k l (labeled j b ∷ us) a (inl h) = bytes_below-trans k j l (and_parts (is_lt (bytes_cmp k j)) (list_all (λ i. is_lt (bytes_cmp k i)) (labels_in us)) a).0 h
has_above k l (labeled j b ∷ us) a (inr h) = has_above k l us (and_parts (is_lt (bytes_cmp k j)) (list_all (λ i. is_lt (bytes_cmp k i)) (labels_in us)) a).1 h
has_above k l (leaf b ∷ us) a (inl h) = absurd cc
has_above k l (leaf b ∷ us) a (inr h) = has_above k l us a h
has_above k l (pruned x ∷ us) a (inl h) = absurd cc
has_above k l (pruned x ∷ us) a (inr h) = has_above k l us a h

-- a first entry, the rest having none at l and one below it
none_behind : (l : Bytes) (u : Tree) (us : List Tree) → Ascends (u ∷ us) → HasBelow l (entries us) → below_label l us ≡ None → below_label l (u ∷ us) ≡ None
none_behind l empty us a h e = e
none_behind l (fork c d) us a h e = e
none_behind l (labeled k b) us a h e =
    let p = and_parts (list_all (λ j. is_lt (bytes_cmp k j)) (labels_in us)) (ascending bytes_cmp (labels_in us)) a in
    below_then_none k l b us (has_above k l us p.0 h) e
none_behind l (leaf b) us a h e = e
none_behind l (pruned x) us a h e = e

-- two entries with l between them
between_none : (l : Bytes) (u v : Tree) (us : List Tree) → Ascends (u ∷ v ∷ us) → is_below (label_of u) l ≡ true → is_above (label_of v) l ≡ true → below_label l (u ∷ v ∷ us) ≡ None
between_none l empty v us a p q = absurd cc
between_none l (fork c d) v us a p q = absurd cc
between_none l (labeled k b) v us a p q = below_then_none k l b (v ∷ us) p (first_none v q (tail_ascends (labeled k b) (v ∷ us) a))
  where
    first_none : (v : Tree) → is_above (label_of v) l ≡ true → Ascends (v ∷ us) → below_label l (v ∷ us) ≡ None
    first_none empty q a = absurd cc
    first_none (fork c d) q a = absurd cc
    first_none (labeled j x) q a =
        let s = and_parts (list_all (λ i. is_lt (bytes_cmp j i)) (labels_in us)) (ascending bytes_cmp (labels_in us)) a in
        above_none l (labeled j x ∷ us) (and_from (is_lt (bytes_cmp l j)) (list_all (λ i. is_lt (bytes_cmp l i)) (labels_in us)) q (above_too l j (labels_in us) q s.0))
    first_none (leaf x) q a = absurd cc
    first_none (pruned x) q a = absurd cc
between_none l (leaf b) v us a p q = absurd cc
between_none l (pruned x) v us a p q = absurd cc

pub gap_none : (l : Bytes) (us : List Tree) → Ascends us → has_gap_at l (entries us) ≡ true → below_label l us ≡ None
gap_none l [] a h = absurd cc
gap_none l (u ∷ []) a h = absurd cc
gap_none l (u ∷ v ∷ us) a h = by (or_cases (is_below (label_of u) l && is_above (label_of v) l) (has_gap_at l (entries (v ∷ us))) h) (λ q. gap_none l (v ∷ us) (tail_ascends u (v ∷ us) a) q)
  where
    by : (is_below (label_of u) l && is_above (label_of v) l ≡ true) ⊎ (has_gap_at l (entries (v ∷ us)) ≡ true) → (has_gap_at l (entries (v ∷ us)) ≡ true → below_label l (v ∷ us) ≡ None) → below_label l (u ∷ v ∷ us) ≡ None
    by (inl p) f = let q = and_parts (is_below (label_of u) l) (is_above (label_of v) l) p in between_none l u v us a q.0 q.1
    by (inr q) f = none_behind l u (v ∷ us) a (gap_has l (entries (v ∷ us)) q) (f q)

pub ends_none : (l : Bytes) (us : List Tree) → Ascends us → ends_below l (entries us) ≡ true → below_label l us ≡ None
ends_none l [] a h = absurd cc
ends_none l (empty ∷ []) a h = absurd cc
ends_none l (fork c d ∷ []) a h = absurd cc
ends_none l (labeled k b ∷ []) a h = below_then_none k l b [] h refl
ends_none l (leaf b ∷ []) a h = absurd cc
ends_none l (pruned x ∷ []) a h = absurd cc
ends_none l (u ∷ v ∷ us) a h = none_behind l u (v ∷ us) a (ends_has l (entries (v ∷ us)) h) (ends_none l (v ∷ us) (tail_ascends u (v ∷ us) a) h)

-- ---- from a level with parts cut off to the whole one

pub gap_cons : (l : Bytes) (e : Option Bytes) (es : List (Option Bytes)) → has_gap_at l es ≡ true → has_gap_at l (e ∷ es) ≡ true
gap_cons l e [] h = absurd cc
gap_cons l e (a ∷ es) h = or_right (is_below e l && is_above a l) (has_gap_at l (a ∷ es)) h

gap_behind_none : (l : Bytes) (es : List (Option Bytes)) → has_gap_at l (None ∷ es) ≡ true → has_gap_at l es ≡ true
gap_behind_none l [] h = absurd cc
gap_behind_none l (a ∷ es) h = h

no_end : (b : Bool) → (b && false) ≡ true → true ≡ false
no_end true h = absurd cc
no_end false h = absurd cc

-- a gap at a label with a next entry that has none
gap_before_none : (l k : Bytes) (es : List (Option Bytes)) → has_gap_at l (Some k ∷ None ∷ es) ≡ true → has_gap_at l (None ∷ es) ≡ true
gap_before_none l k es h = by (or_cases (bytes_below k l && false) (has_gap_at l (None ∷ es)) h)
  where
    by : (bytes_below k l && false ≡ true) ⊎ (has_gap_at l (None ∷ es) ≡ true) → has_gap_at l (None ∷ es) ≡ true
    by (inl p) = absurd (let c = no_end (bytes_below k l) p in cc)
    by (inr q) = q

gap_at_label : (l k : Bytes) {ts us : List Tree} → Refines ts us → (has_gap_at l (entries ts) ≡ true → has_gap_at l (entries us) ≡ true) → has_gap_at l (Some k ∷ entries ts) ≡ true → has_gap_at l (Some k ∷ entries us) ≡ true
gap_at_label l k none f h = absurd cc
gap_at_label l k (cut_end x ts us r) f h = gap_cons l (Some k) (entries us) (f (gap_before_none l k (entries ts) h))
gap_at_label l k (cut_more x u ts us r) f h = gap_cons l (Some k) (entries (u ∷ us)) (f (gap_before_none l k (entries ts) h))
gap_at_label l k (same_label j a b ts us p r) f h = by (or_cases (bytes_below k l && bytes_below l j) (has_gap_at l (Some j ∷ entries ts)) h)
  where
    by : (bytes_below k l && bytes_below l j ≡ true) ⊎ (has_gap_at l (Some j ∷ entries ts) ≡ true) → has_gap_at l (Some k ∷ Some j ∷ entries us) ≡ true
    by (inl q) = or_left (bytes_below k l && bytes_below l j) (has_gap_at l (Some j ∷ entries us)) q
    by (inr q) = or_right (bytes_below k l && bytes_below l j) (has_gap_at l (Some j ∷ entries us)) (f q)
gap_at_label l k (same_leaf b ts us r) f h = gap_cons l (Some k) (None ∷ entries us) (f (gap_before_none l k (entries ts) h))

pub gap_too : (l : Bytes) {ts us : List Tree} → Refines ts us → has_gap_at l (entries ts) ≡ true → has_gap_at l (entries us) ≡ true
gap_too l none h = absurd cc
gap_too l (cut_end x ts us r) h = gap_too l r (gap_behind_none l (entries ts) h)
gap_too l (cut_more x u ts us r) h = gap_cons l (label_of u) (entries us) (gap_too l r h)
gap_too l (same_label k a b ts us p r) h = gap_at_label l k r (λ q. gap_too l r q) h
gap_too l (same_leaf b ts us r) h = gap_cons l None (entries us) (gap_too l r (gap_behind_none l (entries ts) h))

pub ends_cons : (l : Bytes) (e : Option Bytes) (es : List (Option Bytes)) → ends_below l es ≡ true → ends_below l (e ∷ es) ≡ true
ends_cons l e [] h = absurd cc
ends_cons l e (a ∷ es) h = h

ends_behind_none : (l : Bytes) (es : List (Option Bytes)) → ends_below l (None ∷ es) ≡ true → ends_below l es ≡ true
ends_behind_none l [] h = absurd cc
ends_behind_none l (a ∷ es) h = h

ends_at_label : (l k : Bytes) {ts us : List Tree} → Refines ts us → (ends_below l (entries ts) ≡ true → ends_below l (entries us) ≡ true) → ends_below l (Some k ∷ entries ts) ≡ true → ends_below l (Some k ∷ entries us) ≡ true
ends_at_label l k none f h = h
ends_at_label l k (cut_end x ts us r) f h = ends_cons l (Some k) (entries us) (f h)
ends_at_label l k (cut_more x u ts us r) f h = ends_cons l (Some k) (entries (u ∷ us)) (f h)
ends_at_label l k (same_label j a b ts us p r) f h = f h
ends_at_label l k (same_leaf b ts us r) f h = f h

pub ends_too : (l : Bytes) {ts us : List Tree} → Refines ts us → ends_below l (entries ts) ≡ true → ends_below l (entries us) ≡ true
ends_too l none h = absurd cc
ends_too l (cut_end x ts us r) h = ends_too l r (ends_behind_none l (entries ts) h)
ends_too l (cut_more x u ts us r) h = ends_cons l (label_of u) (entries us) (ends_too l r h)
ends_too l (same_label k a b ts us p r) h = ends_at_label l k r (λ q. ends_too l r q) h
ends_too l (same_leaf b ts us r) h = ends_cons l None (entries us) (ends_too l r (ends_behind_none l (entries ts) h))

-- the last entry is below l
outside_by_end : (l : Bytes) (us : List Tree) → Ascends us → ends_below l (entries us) ≡ true → (below_label l us ≡ None) × (is_outside l (entries us) ≡ true)
outside_by_end l [] a h = absurd cc
outside_by_end l (u ∷ us) a h = (ends_none l (u ∷ us) a h, or_right (is_above (label_of u) l) (is_below (last_entry (label_of u) (entries us)) l) h)

-- what is above l at the front
pub starts_none : (l : Bytes) {ts us : List Tree} → Refines ts us → Ascends us → is_outside l (entries ts) ≡ true → (below_label l us ≡ None) × (is_outside l (entries us) ≡ true)
starts_none l none a h = (refl, refl)
starts_none l (cut_end x ts us r) a h = outside_by_end l us a (ends_too l (cut_end x ts us r) h)
starts_none l (cut_more x u ts us r) a h = outside_by_end l (u ∷ us) a (ends_too l (cut_more x u ts us r) h)
starts_none l (same_label k c d ts us p r) a h = by (or_cases (bytes_below l k) (is_below (last_entry (Some k) (entries ts)) l) h)
  where
    by : (bytes_below l k ≡ true) ⊎ (is_below (last_entry (Some k) (entries ts)) l ≡ true) → (below_label l (labeled k d ∷ us) ≡ None) × (is_outside l (Some k ∷ entries us) ≡ true)
    by (inl q) =
        let s = and_parts (list_all (λ i. is_lt (bytes_cmp k i)) (labels_in us)) (ascending bytes_cmp (labels_in us)) a in
        (above_none l (labeled k d ∷ us) (and_from (is_lt (bytes_cmp l k)) (list_all (λ i. is_lt (bytes_cmp l i)) (labels_in us)) q (above_too l k (labels_in us) q s.0)), or_left (bytes_below l k) (is_below (last_entry (Some k) (entries us)) l) q)
    by (inr q) = outside_by_end l (labeled k d ∷ us) a (ends_too l (same_label k c d ts us p r) q)
starts_none l (same_leaf b ts us r) a h = outside_by_end l (leaf b ∷ us) a (ends_too l (same_leaf b ts us r) h)
