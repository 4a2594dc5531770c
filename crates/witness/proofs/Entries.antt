-- A level, entry by entry: what one half and then the other say, both say.
use Rattle.std.proofs.Common.{◌≡◌, Bool, true, false, cond, ◌&&◌, ◌||◌, List, [], ◌∷◌, ◌++◌, map, fold, Option, Some, None, refl, sym, ap, ◌∙◌, is_lt, Ordering, Less, Equal, Greater}
use Rattle.std.proofs.lemmas.List.Sums.{fold-append}
use Rattle.std.proofs.lemmas.List.{map-append}
use Rattle.std.specs.Ordering.{ordering_reverse}
use Rattle.std.specs.Cmp.Lexicographic.{nat_list_cmp_total}
use Rattle.format_spec.specs.Bytes.{Bytes, bytes_cmp, same_bytes}
use Rattle.tree_spec.specs.Tree.{Tree, empty, fork, labeled, leaf, pruned, label_of}
use Rattle.tree_spec.specs.Lookup.{below_label, is_below, is_above, has_gap_at, last_entry, is_outside, is_one_leaf}
use Rattle.witness.specs.declared.level.Scan.{Scan}
use Rattle.witness.specs.declared.level.Contents.{Contents}
use Rattle.witness.specs.declared.level.Contents.TheVariants.{Nothing, OneLeaf, Others}
use Rattle.witness.specs.Level.{scan_side, scan_entry, scan_all, contents_of, joined_of}

-- ---- the first entry with a label

abbrev pub or_else : Option Tree → Option Tree → Option Tree
or_else (Some t) o = Some t
or_else None o = o

pub below_label_append : (l : Bytes) (xs ys : List Tree) → below_label l (xs ++ ys) ≡ or_else (below_label l xs) (below_label l ys)
below_label_append l [] ys = refl
below_label_append l (empty ∷ xs) ys = below_label_append l xs ys
below_label_append l (fork a b ∷ xs) ys = below_label_append l xs ys
below_label_append l (labeled k t ∷ xs) ys = by (same_bytes k l) (below_label_append l xs ys)
  where
    by : (b : Bool) → below_label l (xs ++ ys) ≡ or_else (below_label l xs) (below_label l ys)
        → cond b (Some t) (below_label l (xs ++ ys)) ≡ or_else (cond b (Some t) (below_label l xs)) (below_label l ys)
    by true e = refl
    by false e = e
below_label_append l (leaf b ∷ xs) ys = below_label_append l xs ys
below_label_append l (pruned h ∷ xs) ys = below_label_append l xs ys

-- ---- what a level has

-- behind a leaf, whatever there is
behind_leaf : (y : Tree) (ys : List Tree) → joined_of OneLeaf (contents_of (y ∷ ys)) ≡ Others
behind_leaf empty ys = refl
behind_leaf (fork a b) ys = refl
behind_leaf (labeled k t) ys = refl
behind_leaf (leaf b) [] = refl
behind_leaf (leaf b) (z ∷ ys) = refl
behind_leaf (pruned h) ys = refl

pub contents_append : (xs ys : List Tree) → contents_of (xs ++ ys) ≡ joined_of (contents_of xs) (contents_of ys)
contents_append [] ys = refl
contents_append (empty ∷ xs) ys = refl
contents_append (fork a b ∷ xs) ys = refl
contents_append (labeled k t ∷ xs) ys = refl
contents_append (leaf b ∷ []) [] = refl
contents_append (leaf b ∷ []) (y ∷ ys) = sym (behind_leaf y ys)
contents_append (leaf b ∷ x ∷ xs) ys = refl
contents_append (pruned h ∷ xs) ys = refl

abbrev pub is_leaf_only : Contents → Bool
is_leaf_only Nothing = false
is_leaf_only OneLeaf = true
is_leaf_only Others = false

pub one_leaf_is : (ts : List Tree) → is_one_leaf ts ≡ is_leaf_only (contents_of ts)
one_leaf_is [] = refl
one_leaf_is (empty ∷ ts) = refl
one_leaf_is (fork a b ∷ ts) = refl
one_leaf_is (labeled k t ∷ ts) = refl
one_leaf_is (leaf b ∷ []) = refl
one_leaf_is (leaf b ∷ t ∷ ts) = refl
one_leaf_is (pruned h ∷ ts) = refl

-- ---- gaps

pub scan_append : (l : Bytes) (xs ys : List Tree) (s : Scan)
    → scan_all l (map label_of (xs ++ ys)) s ≡ scan_all l (map label_of ys) (scan_all l (map label_of xs) s)
scan_append l xs ys s =
    ap (λ (es : List (Option Bytes)). fold (scan_entry l) s es) (map-append label_of xs ys)
    ∙ fold-append (scan_entry l) s (map label_of xs) (map label_of ys)

or_group : (a b c : Bool) → a || (b || c) ≡ (a || b) || c
or_group true b c = refl
or_group false b c = refl

-- what is left to say of a gap, where the entry before is below the label or isn't
abbrev rest_has : Bytes → Bool → List (Option Bytes) → Bool
rest_has l below [] = below
rest_has l below (e ∷ es) = (below && is_above e l) || rest_has l (is_below e l) es

-- an entry on this side is below the label, and above it
side_gap : (o : Ordering) (s : Scan) (more : Bool) → (scan_side o s).gap || more ≡ s.gap || ((s.below && is_lt (ordering_reverse o)) || more)
side_gap Less s more = by s.gap s.below
  where
    by : (g b : Bool) → g || more ≡ g || ((b && false) || more)
    by true b = refl
    by false true = refl
    by false false = refl
side_gap Equal s more = by s.gap s.below
  where
    by : (g b : Bool) → g || more ≡ g || ((b && false) || more)
    by true b = refl
    by false true = refl
    by false false = refl
side_gap Greater s more = by s.gap s.below
  where
    by : (g b : Bool) → (g || b) || more ≡ g || ((b && true) || more)
    by true b = refl
    by false true = refl
    by false false = refl

side_below : (o : Ordering) (s : Scan) → (scan_side o s).below ≡ is_lt o
side_below Less s = refl
side_below Equal s = refl
side_below Greater s = refl

turned : (k l : Bytes) → is_lt (ordering_reverse (bytes_cmp k l)) ≡ is_lt (bytes_cmp l k)
turned k l = sym (ap is_lt (nat_list_cmp_total.antisymm l k))

entry_says : (l : Bytes) (e : Option Bytes) (s : Scan) (es : List (Option Bytes))
    → (scan_entry l s e).gap || rest_has l (scan_entry l s e).below es ≡ s.gap || ((s.below && is_above e l) || rest_has l (is_below e l) es)
entry_says l None s es = by s.gap s.below (rest_has l false es)
  where
    by : (g b r : Bool) → g || r ≡ g || ((b && false) || r)
    by true b r = refl
    by false true r = refl
    by false false r = refl
entry_says l (Some k) s es =
    side_gap (bytes_cmp k l) s (rest_has l (scan_side (bytes_cmp k l) s).below es)
    ∙ ap (λ (b : Bool). s.gap || ((s.below && is_lt (ordering_reverse (bytes_cmp k l))) || rest_has l b es)) (side_below (bytes_cmp k l) s)
    ∙ ap (λ (b : Bool). s.gap || ((s.below && b) || rest_has l (is_lt (bytes_cmp k l)) es)) (turned k l)

scan_says : (l : Bytes) (es : List (Option Bytes)) (s : Scan) → (scan_all l es s).gap || (scan_all l es s).below ≡ s.gap || rest_has l s.below es
scan_says l [] s = refl
scan_says l (e ∷ es) s = scan_says l es (scan_entry l s e) ∙ entry_says l e s es

behind_entry : (l : Bytes) (a : Option Bytes) (es : List (Option Bytes))
    → rest_has l (is_below a l) es ≡ has_gap_at l (a ∷ es) || is_below (last_entry a es) l
behind_entry l a [] = refl
behind_entry l a (b ∷ es) =
    ap (λ (r : Bool). (is_below a l && is_above b l) || r) (behind_entry l b es)
    ∙ or_group (is_below a l && is_above b l) (has_gap_at l (b ∷ es)) (is_below (last_entry b es) l)

pub gap_is : (l : Bytes) (es : List (Option Bytes)) (r : Scan) → r ≡ scan_all l es (record { gap = false; below = true })
    → r.gap || r.below ≡ has_gap_at l es || is_outside l es
gap_is l es r e = ap (λ (s : Scan). s.gap || s.below) e ∙ scan_says l es (record { gap = false; below = true }) ∙ from es
  where
    swap : (a b c : Bool) → a || (b || c) ≡ b || (a || c)
    swap true true c = refl
    swap true false c = refl
    swap false b c = refl

    from : (xs : List (Option Bytes)) → rest_has l true xs ≡ has_gap_at l xs || is_outside l xs
    from [] = refl
    from (a ∷ xs) =
        ap (λ (b : Bool). is_above a l || b) (behind_entry l a xs)
        ∙ swap (is_above a l) (has_gap_at l (a ∷ xs)) (is_below (last_entry a xs) l)

pub first_holds : (a b x : Bool) → a || b ≡ x → a ≡ true → a ≡ x
first_holds true b x e h = e
first_holds false b x e h = absurd cc

pub second_is : (a b x : Bool) → a || b ≡ x → a ≡ false → b ≡ x
second_is true b x e h = absurd cc
second_is false b x e h = e
