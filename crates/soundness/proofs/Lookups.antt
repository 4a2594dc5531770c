-- What a path gives in a tree with parts cut off, it gives in the whole tree.
use Rattle.std.proofs.Common.{◌≡◌, ◌⊎◌, Bool, true, false, not, ◌&&◌, ◌||◌, cond, List, [], ◌∷◌, ◌++◌, map, Option, Some, None, refl, sym, ap, ◌∙◌, subst, inl, inr}
use Rattle.std.proofs.lemmas.Bool.{and_parts, or_cases, or_left, or_right}
use Rattle.format_spec.specs.Bytes.{Bytes, bytes_cmp, same_bytes, ascending}
use Rattle.tree_spec.specs.Tree.{Tree, empty, fork, labeled, leaf, pruned, flatten, label_of, labels, is_leaf, reconstruct, hashed_strings, is_good_inside, is_well_formed}
use Rattle.tree_spec.specs.Lookup.{lookup, at_end, below_label, has_gap_at, is_outside, is_one_leaf, missing, absent, error, unknown}
use Rattle.tree_spec.specs.Whole.{IsWhole, HasHashes}
use Rattle.soundness.proofs.Like.{Like, like_cut, like_empty, like_fork, like_labeled, like_leaf, like_or_meet}
use Rattle.soundness.proofs.Levels.{Refines, none, cut_end, cut_more, same_label, same_leaf, like_levels, Ascends, found_too, gap_too, gap_none, starts_none}
use Rattle.soundness.proofs.Strings.{Meet}
use Rattle.tree_spec.proofs.Labels.{lookup_some, lookup_none}

abbrev pub Ordered : Tree → Type 0
Ordered u = Ascends (flatten u) × (is_good_inside u ≡ true)

-- every tree below a label of a level is ordered
abbrev pub AllOrdered : List Tree → Type 0
AllOrdered [] = Unit {0}
AllOrdered (t ∷ ts) = (is_good_inside t ≡ true) × AllOrdered ts

some_is : (a b : Tree) → Some a ≡ Some b → a ≡ b
some_is a b e = cc

good_append : (xs ys : List Tree) → AllOrdered xs → AllOrdered ys → AllOrdered (xs ++ ys)
good_append [] ys p q = q
good_append (x ∷ xs) ys p q = (p.0, good_append xs ys p.1 q)

good_level : (t : Tree) → is_good_inside t ≡ true → AllOrdered (flatten t)
good_level empty h = tt
good_level (fork l r) h =
    let a = and_parts (not (is_leaf l) && not (is_leaf r) && is_good_inside l) (is_good_inside r) h in
    let b = and_parts (not (is_leaf l) && not (is_leaf r)) (is_good_inside l) a.0 in
    good_append (flatten l) (flatten r) (good_level l b.1) (good_level r a.1)
good_level (labeled k t) h = (h, tt)
good_level (leaf b) h = (h, tt)
good_level (pruned x) h = (h, tt)

-- the tree below a label of such a level
good_below : (l : Bytes) (us : List Tree) (y : Tree) → AllOrdered us → below_label l us ≡ Some y → Ordered y
good_below l [] y g e = absurd cc
good_below l (empty ∷ us) y g e = good_below l us y g.1 e
good_below l (fork c d ∷ us) y g e = good_below l us y g.1 e
good_below l (labeled k b ∷ us) y g e = by (same_bytes k l) e (and_parts (ascending bytes_cmp (labels b)) (is_good_inside b) g.0) (λ f. good_below l us y g.1 f)
  where
    by : (t : Bool) → cond t (Some b) (below_label l us) ≡ Some y → Ordered b → (below_label l us ≡ Some y → Ordered y) → Ordered y
    by true f o more = subst Ordered (some_is b y f) o
    by false f o more = more f
good_below l (leaf b ∷ us) y g e = good_below l us y g.1 e
good_below l (pruned h ∷ us) y g e = good_below l us y g.1 e

one_leaf : {ts us : List Tree} → Refines ts us → is_one_leaf ts ≡ true → ts ≡ us
one_leaf none h = absurd cc
one_leaf (cut_end x ts us r) h = absurd cc
one_leaf (cut_more x u ts us r) h = absurd cc
one_leaf (same_label k a b ts us p r) h = absurd cc
one_leaf (same_leaf b ts us r) h = by b r h
  where
    by : (b : Bytes) {ts us : List Tree} → Refines ts us → is_one_leaf (leaf b ∷ ts) ≡ true → leaf b ∷ ts ≡ leaf b ∷ us
    by b none h = refl
    by b (cut_end x ts us r) h = absurd cc
    by b (cut_more x u ts us r) h = absurd cc
    by b (same_label k c d ts us p r) h = absurd cc
    by b (same_leaf c ts us r) h = absurd cc

pub absent_from : (l : Bytes) (us : List Tree) → (has_gap_at l (map label_of us) || is_outside l (map label_of us)) ≡ true → missing l us ≡ absent
absent_from l us h = ap (λ (t : Bool). cond t absent (cond (is_one_leaf us) error unknown)) h

-- a label that a level does not have
missing_too : (l : Bytes) {ts us : List Tree} → Refines ts us → Ascends us → below_label l ts ≡ None → (missing l ts ≡ unknown) ⊎ ((below_label l us ≡ None) × (missing l ts ≡ missing l us))
missing_too l {ts = ts} {us = us} r a e = by (has_gap_at l (map label_of ts) || is_outside l (map label_of ts)) refl (is_one_leaf ts) refl
  where
    absent_too : (below_label l us ≡ None) × ((has_gap_at l (map label_of us) || is_outside l (map label_of us)) ≡ true) → (has_gap_at l (map label_of ts) || is_outside l (map label_of ts)) ≡ true → (missing l ts ≡ unknown) ⊎ ((below_label l us ≡ None) × (missing l ts ≡ missing l us))
    absent_too p s = inr (p.0, absent_from l ts s ∙ sym (absent_from l us p.1))

    both : (has_gap_at l (map label_of ts) ≡ true) ⊎ (is_outside l (map label_of ts) ≡ true) → (below_label l us ≡ None) × ((has_gap_at l (map label_of us) || is_outside l (map label_of us)) ≡ true)
    both (inl g) = let h = gap_too l r g in (gap_none l us a h, or_left (has_gap_at l (map label_of us)) (is_outside l (map label_of us)) h)
    both (inr o) = let h = starts_none l r a o in (h.0, or_right (has_gap_at l (map label_of us)) (is_outside l (map label_of us)) h.1)

    by : (t : Bool) → (has_gap_at l (map label_of ts) || is_outside l (map label_of ts)) ≡ t → (w : Bool) → is_one_leaf ts ≡ w → (missing l ts ≡ unknown) ⊎ ((below_label l us ≡ None) × (missing l ts ≡ missing l us))
    by true s w q = absent_too (both (or_cases (has_gap_at l (map label_of ts)) (is_outside l (map label_of ts)) s)) s
    by false s true q = let same = one_leaf r q in inr (ap (below_label l) (sym same) ∙ e, ap (missing l) same)
    by false s false q = inl (ap (λ (t : Bool). cond t absent (cond (is_one_leaf ts) error unknown)) s ∙ ap (λ (t : Bool). cond t error unknown) q)

end_too : {t u : Tree} → Like t u → (at_end t ≡ unknown) ⊎ (at_end t ≡ at_end u)
end_too (like_cut h u) = inl refl
end_too like_empty = inr refl
end_too (like_fork a b c d p q) = inr refl
end_too (like_labeled l a b p) = inr refl
end_too (like_leaf b) = inr refl

module _ (l : Bytes) (path : List Bytes) (t u : Tree) where
  some_case : (x y : Tree) → below_label l (flatten t) ≡ Some x → below_label l (flatten u) ≡ Some y → (lookup path x ≡ unknown) ⊎ (lookup path x ≡ lookup path y) → (lookup (l ∷ path) t ≡ unknown) ⊎ (lookup (l ∷ path) t ≡ lookup (l ∷ path) u)
  some_case x y p q (inl e) = inl (lookup_some l path t x p ∙ e)
  some_case x y p q (inr e) = inr (lookup_some l path t x p ∙ e ∙ sym (lookup_some l path u y q))

  none_case : below_label l (flatten t) ≡ None → (missing l (flatten t) ≡ unknown) ⊎ ((below_label l (flatten u) ≡ None) × (missing l (flatten t) ≡ missing l (flatten u))) → (lookup (l ∷ path) t ≡ unknown) ⊎ (lookup (l ∷ path) t ≡ lookup (l ∷ path) u)
  none_case p (inl e) = inl (lookup_none l path t p ∙ e)
  none_case p (inr e) = inr (lookup_none l path t p ∙ e.1 ∙ sym (lookup_none l path u e.0))

pub lookup_too : (path : List Bytes) (t u : Tree) → Like t u → Ordered u → (lookup path t ≡ unknown) ⊎ (lookup path t ≡ lookup path u)
unfolding lookup
lookup_too [] t u k o = end_too k
lookup_too (l ∷ path) t u k o = by (below_label l (flatten t)) refl (λ x y p q. lookup_too path x y p q)
  where
    by : (f : Option Tree) → below_label l (flatten t) ≡ f → ((x y : Tree) → Like x y → Ordered y → (lookup path x ≡ unknown) ⊎ (lookup path x ≡ lookup path y)) → (lookup (l ∷ path) t ≡ unknown) ⊎ (lookup (l ∷ path) t ≡ lookup (l ∷ path) u)
    by (Some x) s more =
        let f = found_too l x (like_levels k) o.0 s in
        some_case l path t u x f.0 s f.1 (more x f.0 f.2 (good_below l (flatten u) f.0 (good_level u o.1) f.1))
    by None s more = none_case l path t u s (missing_too l (like_levels k) o.0 s)

pub lookups_whole : (t u : Tree) (path : List Bytes) → HasHashes t → IsWhole u → is_well_formed u ≡ true → reconstruct t ≡ reconstruct u → (lookup path t ≡ unknown) ⊎ ((lookup path t ≡ lookup path u) ⊎ Meet (hashed_strings t) (hashed_strings u))
unfolding is_well_formed
lookups_whole t u path g w o e = by (like_or_meet t u g w e)
  where
    tell : (lookup path t ≡ unknown) ⊎ (lookup path t ≡ lookup path u) → (lookup path t ≡ unknown) ⊎ ((lookup path t ≡ lookup path u) ⊎ Meet (hashed_strings t) (hashed_strings u))
    tell (inl p) = inl p
    tell (inr p) = inr (inl p)

    by : Like t u ⊎ Meet (hashed_strings t) (hashed_strings u) → (lookup path t ≡ unknown) ⊎ ((lookup path t ≡ lookup path u) ⊎ Meet (hashed_strings t) (hashed_strings u))
    by (inl k) = tell (lookup_too path t u k (and_parts (ascending bytes_cmp (labels u)) (is_good_inside u) o))
    by (inr c) = inr (inr c)
