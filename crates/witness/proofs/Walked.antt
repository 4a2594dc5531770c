-- One walk over the forks of a level makes what the definition of a witness makes of its children.
use Rattle.std.proofs.Common.{◌≡◌, ℕ, zero, suc, ◌≤◌, ◌<◌, Bool, true, false, cond, ◌&&◌, ◌||◌, not, List, [], ◌∷◌, ◌++◌, length, take, drop, map, filter, Option, Some, None, is_some, refl, sym, ap, ◌∙◌, subst, arith}
use Rattle.std.specs.List.{list_any, filter_map, cons_option, last_or}
use Rattle.std.proofs.lemmas.List.{take-append-drop, take-map, drop-map, map-append, length-map, length-take, length-drop}
use Rattle.std.proofs.lemmas.List.Folds.{list_any-append}
use Rattle.std.specs.Int.{div_ceil}
use Rattle.std.proofs.lemmas.List.Elements.{filter_map-append}
use Rattle.format_spec.specs.Bytes.{Bytes, bytes_cmp, bytes_below, same_bytes, is_after}
use Rattle.format_spec.proofs.Readings.{same_bytes_is}
use Rattle.tree_spec.specs.Tree.{Tree, empty, fork, labeled, leaf, pruned, flatten, label_of, labels, half, forks}
use Rattle.tree_spec.specs.Witness.{Kept, rest_behind, rests, going_on, begins_some, none_kept, all_pruned, under_forks}
use Rattle.tree_spec.proofs.Forks.{forks_halves, half_some, both_forks}
use Rattle.tree_spec.proofs.KeptForks.{kept_halves, choose_kept, choose_pruned}
use Rattle.witness.specs.Parts.{is_under, begins_between, first_of, first_in, last_in, reached_bytes, over_leaf, part}
use Rattle.witness.proofs.Neighbours.{Side, lower, equal, higher, side_of, under_too, after_too, head_of}
use Rattle.witness.proofs.Parts.{part_none, part_fork, part_labeled, is_some_list}
use Rattle.format_spec.proofs.Follow.{bytes_below-trans}
use Rattle.std.proofs.Math.Bool.{or-false}

-- ---- paths that begin between two labels

filter_twice : (f g h : List Bytes → Bool) → ((p : List Bytes) → g p && f p ≡ h p) → (ps : List (List Bytes)) → filter f (filter g ps) ≡ filter h ps
filter_twice f g h e [] = refl
filter_twice f g h e (p ∷ ps) = by (g p) (f p) (h p) (e p) refl (filter_twice f g h e ps)
  where
    by : (b c d : Bool) → b && c ≡ d → f p ≡ c → filter f (filter g ps) ≡ filter h ps
        → filter f (cond b (p ∷ filter g ps) (filter g ps)) ≡ cond d (p ∷ filter h ps) (filter h ps)
    by true c d e i ih = ap (λ x. cond x (p ∷ filter f (filter g ps)) (filter f (filter g ps))) (i ∙ e) ∙ ap (λ xs. cond d (p ∷ xs) xs) ih
    by false c d e i ih = ih ∙ ap (λ x. cond x (p ∷ filter h ps) (filter h ps)) e

left_bool : (y u w : Bool) → (w ≡ true → u ≡ true) → (y && u) && w ≡ y && w
left_bool y true w h = ap (λ x. x && w) (and_true y)
  where
    and_true : (b : Bool) → b && true ≡ b
    and_true true = refl
    and_true false = refl
left_bool true false true h = absurd (let e = h refl in cc)
left_bool true false false h = refl
left_bool false false w h = refl

right_bool : (y u w : Bool) → (w ≡ true → y ≡ true) → (y && u) && (w && true) ≡ w && u
right_bool true true true h = refl
right_bool true true false h = refl
right_bool true false true h = refl
right_bool true false false h = refl
right_bool false u true h = absurd (let e = h refl in cc)
right_bool false u false h = refl

-- on the left of a fork
pub left_paths : (b a : Option Bytes) (mid : Bytes) → is_under a mid ≡ true → (ps : List (List Bytes))
    → filter (begins_between None (Some mid)) (filter (begins_between b a) ps) ≡ filter (begins_between b (Some mid)) ps
left_paths b a mid under = filter_twice (begins_between None (Some mid)) (begins_between b a) (begins_between b (Some mid)) each
  where
    each : (p : List Bytes) → begins_between b a p && begins_between None (Some mid) p ≡ begins_between b (Some mid) p
    each [] = refl
    each (m ∷ p) = left_bool (is_after bytes_cmp b m) (is_under a m) (bytes_below m mid) (λ lt. under_too a m mid lt under)

-- and on the right
pub right_paths : (b a : Option Bytes) (mid : Bytes) → is_after bytes_cmp b mid ≡ true → (ps : List (List Bytes))
    → filter (begins_between (Some mid) None) (filter (begins_between b a) ps) ≡ filter (begins_between (Some mid) a) ps
right_paths b a mid after = filter_twice (begins_between (Some mid) None) (begins_between b a) (begins_between (Some mid) a) each
  where
    each : (p : List Bytes) → begins_between b a p && begins_between (Some mid) None p ≡ begins_between (Some mid) a p
    each [] = refl
    each (m ∷ p) = right_bool (is_after bytes_cmp b m) (is_under a m) (bytes_below mid m) (λ lt. after_too b mid m after lt)

-- some begin between b and a where some begin before the right side or behind the left one
both_bool : (y u p q : Bool) → (p ≡ true → u ≡ true) → (q ≡ true → y ≡ true) → (p ≡ false → q ≡ true) → y && u ≡ (y && p) || (q && u)
both_bool true true true q f g h = refl
both_bool true true false true f g h = refl
both_bool true true false false f g h = absurd (let e = h refl in cc)
both_bool true false true q f g h = absurd (let e = f refl in cc)
both_bool true false false true f g h = refl
both_bool true false false false f g h = refl
both_bool false u p true f g h = absurd (let e = g refl in cc)
both_bool false u true false f g h = refl
both_bool false u false false f g h = absurd (let e = h refl in cc)

or_group : (a b c d : Bool) → (a || b) || (c || d) ≡ (a || c) || (b || d)
or_group true b c d = refl
or_group false true true d = refl
or_group false true false d = refl
or_group false false c d = refl

pub any_paths : (b a : Option Bytes) (last next : Bytes) → bytes_below last next ≡ true → is_after bytes_cmp b last ≡ true → is_under a next ≡ true → (ps : List (List Bytes))
    → list_any (begins_between b a) ps ≡ list_any (begins_between b (Some next)) ps || list_any (begins_between (Some last) a) ps
any_paths b a last next lt after under [] = refl
any_paths b a last next lt after under (p ∷ ps) =
    ap (λ x. x || list_any (begins_between b a) ps) (each p)
    ∙ ap (λ x. (begins_between b (Some next) p || begins_between (Some last) a p) || x) (any_paths b a last next lt after under ps)
    ∙ or_group (begins_between b (Some next) p) (begins_between (Some last) a p) (list_any (begins_between b (Some next)) ps) (list_any (begins_between (Some last) a) ps)
  where
    beyond : (m : Bytes) → Side m next → bytes_below m next ≡ false → bytes_below last m ≡ true
    beyond m (lower l n s t) h = absurd (let e : true ≡ false = sym l ∙ h in cc)
    beyond m (equal e) h = ap (bytes_below last) e ∙ lt
    beyond m (higher n l s t) h = bytes_below-trans last next m lt l

    each : (q : List Bytes) → begins_between b a q ≡ begins_between b (Some next) q || begins_between (Some last) a q
    each [] = refl
    each (m ∷ q) =
        both_bool (is_after bytes_cmp b m) (is_under a m) (bytes_below m next) (bytes_below last m)
        (λ l. under_too a m next l under) (λ l. after_too b last m after l) (beyond m (side_of m next))

-- ---- a label between the two loses nothing

module _ (b a : Option Bytes) (l : Bytes) (after : is_after bytes_cmp b l ≡ true) (under : is_under a l ≡ true) where
  passes : (k : Bytes) (p : List Bytes) → same_bytes k l ≡ true → begins_between b a (k ∷ p) ≡ true
  passes k p e = let same : k ≡ l = same_bytes_is k l e in ap (λ x. is_after bytes_cmp b x && is_under a x) same ∙ ap (λ x. x && is_under a l) after ∙ under

  rests_kept : (ps : List (List Bytes)) → rests l (filter (begins_between b a) ps) ≡ rests l ps
  rests_kept [] = refl
  rests_kept ([] ∷ ps) = rests_kept ps
  rests_kept ((k ∷ p) ∷ ps) = by (same_bytes k l) (begins_between b a (k ∷ p)) refl refl (rests_kept ps)
    where
      by : (s t : Bool) → same_bytes k l ≡ s → begins_between b a (k ∷ p) ≡ t → rests l (filter (begins_between b a) ps) ≡ rests l ps
          → rests l (cond t ((k ∷ p) ∷ filter (begins_between b a) ps) (filter (begins_between b a) ps)) ≡ rests l ((k ∷ p) ∷ ps)
      by s true is it ih = ap (cons_option (rest_behind l (k ∷ p))) ih
      by true false is it ih = absurd (let e : true ≡ false = sym (passes k p is) ∙ it in cc)
      by false false is it ih = ih ∙ sym (ap (λ x. cons_option (elim x as (λ y. Option (List Bytes)) [ true ↦ Some p | false ↦ None ]) (rests l ps)) is)

  begins_kept : (ps : List (List Bytes)) → begins_some l (filter (begins_between b a) ps) ≡ begins_some l ps
  begins_kept [] = refl
  begins_kept ([] ∷ ps) = begins_kept ps
  begins_kept ((k ∷ p) ∷ ps) = by (same_bytes k l) (begins_between b a (k ∷ p)) refl refl (begins_kept ps)
    where
      by : (s t : Bool) → same_bytes k l ≡ s → begins_between b a (k ∷ p) ≡ t → begins_some l (filter (begins_between b a) ps) ≡ begins_some l ps
          → begins_some l (cond t ((k ∷ p) ∷ filter (begins_between b a) ps) (filter (begins_between b a) ps)) ≡ begins_some l ((k ∷ p) ∷ ps)
      by s true is it ih = ap (λ x. same_bytes k l || x) ih
      by true false is it ih = absurd (let e : true ≡ false = sym (passes k p is) ∙ it in cc)
      by false false is it ih = ih ∙ sym (ap (λ x. x || begins_some l ps) is)

-- ---- a level with its children as they are to be kept

-- what is kept of a child between these labels
abbrev pub kept_of : List (List Bytes) → Bytes → Tree → List (List Bytes) → Option Tree
kept_of ps l t [] = None
kept_of ps l t (q ∷ qs) = Some (labeled l (over_leaf (reached_bytes l t ps) (part t (going_on (rests l ps)))))

pub record IsChild (b a : Option Bytes) (ps : List (List Bytes)) (x : Kept) : Type 0 where
  pub label : Bytes
  pub below : Tree
  pub whole : x.whole ≡ labeled label below
  pub after : is_after bytes_cmp b label ≡ true
  pub under : is_under a label ≡ true
  pub kept : x.kept ≡ kept_of ps label below (filter (begins_between b a) ps)

abbrev pub first_name : List Kept → Option Bytes → Option Bytes
first_name [] a = a
first_name (x ∷ xs) a = label_of x.whole

abbrev pub last_name : Option Bytes → List Kept → Option Bytes
last_name b [] = b
last_name b (x ∷ xs) = last_name (label_of x.whole) xs

abbrev pub Level : Option Bytes → Option Bytes → List (List Bytes) → List Kept → Type 0
Level b a ps [] = Unit {0}
Level b a ps (x ∷ xs) = IsChild b (first_name xs a) ps x × Level (label_of x.whole) a ps xs

level_parts : (b a : Option Bytes) (ps : List (List Bytes)) (xs ys : List Kept) → Level b a ps (xs ++ ys) → Level b (first_name ys a) ps xs × Level (last_name b xs) a ps ys
level_parts b a ps [] ys h = (tt, h)
level_parts b a ps (x ∷ xs) ys h =
    let p = level_parts (label_of x.whole) a ps xs ys h.1 in
    ((subst (λ (o : Option Bytes). IsChild b o ps x) (names xs) h.0, p.0), p.1)
  where
    names : (zs : List Kept) → first_name (zs ++ ys) a ≡ first_name zs (first_name ys a)
    names [] = refl
    names (z ∷ zs) = refl

-- the names of its children
name_is : (b a : Option Bytes) (ps : List (List Bytes)) (x : Kept) (c : IsChild b a ps x) → label_of x.whole ≡ Some c.label
name_is b a ps x c = ap label_of c.whole

-- the first child is under what the level is under, and the last one behind what it is behind
first_under : (b a : Option Bytes) (ps : List (List Bytes)) (x : Kept) (xs : List Kept) (l : Bytes) → Level b a ps (x ∷ xs) → label_of x.whole ≡ Some l → is_under a l ≡ true
first_under b a ps x [] l h is = let same : h.0.label ≡ l = (let e = sym (name_is b a ps x h.0) ∙ is in cc) in ap (is_under a) (sym same) ∙ h.0.under
first_under b a ps x (y ∷ ys) l h is =
    let same : h.0.label ≡ l = (let e = sym (name_is b (label_of y.whole) ps x h.0) ∙ is in cc) in
    let next = h.1.0 in
    let name : label_of y.whole ≡ Some next.label = ap label_of next.whole in
    let lt : bytes_below l next.label ≡ true = ap (λ (k : Bytes). bytes_below k next.label) (sym same) ∙ ap (λ (o : Option Bytes). is_under o h.0.label) (sym name) ∙ h.0.under in
    under_too a l next.label lt (first_under (label_of x.whole) a ps y ys next.label h.1 name)

pub record Last (b : Option Bytes) (xs : List Kept) : Type 0 where
  pub label : Bytes
  pub is : last_name b xs ≡ Some label
  pub after : is_after bytes_cmp b label ≡ true

last_after : (b a : Option Bytes) (ps : List (List Bytes)) (x : Kept) (xs : List Kept) → Level b a ps (x ∷ xs) → Last b (x ∷ xs)
last_after b a ps x [] h = record { label = h.0.label; is = ap label_of h.0.whole; after = h.0.after }
last_after b a ps x (y ∷ ys) h =
    let c = h.0 in
    let rest = last_after (label_of x.whole) a ps y ys h.1 in
    record {
      label = rest.label;
      is = rest.is;
      after = after_too b c.label rest.label c.after (ap (λ (o : Option Bytes). is_after bytes_cmp o rest.label) (sym (ap label_of c.whole)) ∙ rest.after);
    }

pub record First (b a : Option Bytes) (xs : List Kept) : Type 0 where
  pub label : Bytes
  pub is : first_name xs a ≡ Some label
  pub after : is_after bytes_cmp b label ≡ true
  pub under : is_under a label ≡ true

first_at : (b a : Option Bytes) (ps : List (List Bytes)) (xs : List Kept) → 0 < length xs → Level b a ps xs → First b a xs
first_at b a ps [] some h = absurd (omega arith)
first_at b a ps (x ∷ xs) some h =
    let c = h.0 in
    record { label = c.label; is = ap label_of c.whole; after = c.after; under = first_under b a ps x xs c.label h (ap label_of c.whole) }

last_at : (b a : Option Bytes) (ps : List (List Bytes)) (xs : List Kept) → 0 < length xs → Level b a ps xs → Last b xs
last_at b a ps [] some h = absurd (omega arith)
last_at b a ps (x ∷ xs) some h = last_after b a ps x xs h

-- ---- the tree of a level

abbrev pub whole_of : List Kept → Tree
whole_of xs = forks (map (λ c. c.whole) xs)

whole_halves : (c d : Kept) (cs : List Kept) → let xs = c ∷ d ∷ cs in whole_of xs ≡ fork (whole_of (take (half xs) xs)) (whole_of (drop (half xs) xs))
whole_halves c d cs =
    let xs : List Kept = c ∷ d ∷ cs in
    let ts : List Tree = map (λ k. k.whole) xs in
    let h : half ts ≡ half xs = ap (λ (n : ℕ). div_ceil n 2) (length-map xs (λ k. k.whole)) in
    forks_halves c.whole d.whole (map (λ k. k.whole) cs)
    ∙ ap (λ (n : ℕ). fork (forks (take n ts)) (forks (drop n ts))) h
    ∙ both_forks _ _ _ _ (ap forks (take-map (λ k. k.whole) (half xs) xs)) (ap forks (drop-map (λ k. k.whole) (half xs) xs))

halves : (b a : Option Bytes) (ps : List (List Bytes)) (n : ℕ) (xs : List Kept) → Level b a ps xs → Level b (first_name (drop n xs) a) ps (take n xs) × Level (last_name b (take n xs)) a ps (drop n xs)
halves b a ps n xs h = level_parts b a ps (take n xs) (drop n xs) (subst (Level b a ps) (sym (take-append-drop n xs)) h)

flat : (n : ℕ) (b a : Option Bytes) (ps : List (List Bytes)) (xs : List Kept) → length xs ≤ n → Level b a ps xs → flatten (whole_of xs) ≡ map (λ c. c.whole) xs
unfolding forks
flat n b a ps [] le h = refl
flat n b a ps (x ∷ []) le h = ap flatten h.0.whole ∙ ap (λ (t : Tree). t ∷ []) (sym h.0.whole)
flat zero b a ps (c ∷ d ∷ cs) le h = absurd (omega arith)
flat (suc n) b a ps (c ∷ d ∷ cs) le h =
    let xs : List Kept = c ∷ d ∷ cs in
    let k : ℕ = half xs in
    let s = half_some c d cs in
    let p = halves b a ps k xs h in
    ap flatten (whole_halves c d cs)
    ∙ ap (λ (ts : List Tree). ts ++ flatten (whole_of (drop k xs))) (flat n b (first_name (drop k xs) a) ps (take k xs) (omega (arith, length-take k xs, s.1, le)) p.0)
    ∙ ap (λ (ts : List Tree). map (λ c. c.whole) (take k xs) ++ ts) (flat n (last_name b (take k xs)) a ps (drop k xs) (omega (arith, length-drop k xs, s.0, le)) p.1)
    ∙ sym (map-append (λ c. c.whole) (take k xs) (drop k xs))
    ∙ ap (map (λ c. c.whole)) (take-append-drop k xs)

-- ---- the first and last label of a tree are those of its level

head_append : (xs ys : List Bytes) → head_of (xs ++ ys) ≡ first_of (head_of xs) (head_of ys)
head_append [] ys = refl
head_append (x ∷ xs) ys = refl

first_in_is : (t : Tree) → first_in t ≡ head_of (labels t)
first_in_is empty = refl
first_in_is (fork l r) =
    ap (λ (o : Option Bytes). first_of o (first_in r)) (first_in_is l) ∙ ap (first_of (head_of (labels l))) (first_in_is r)
    ∙ sym (head_append (labels l) (labels r)) ∙ ap head_of (sym (filter_map-append label_of (flatten l) (flatten r)))
first_in_is (labeled k t) = refl
first_in_is (leaf b) = refl
first_in_is (pruned h) = refl

last_append : (o : Option Bytes) (xs ys : List Bytes) → last_or o (xs ++ ys) ≡ last_or (last_or o xs) ys
last_append o [] ys = refl
last_append o (x ∷ xs) ys = last_append (Some x) xs ys

last_some : (x : Bytes) (ys : List Bytes) (o : Option Bytes) → last_or (Some x) ys ≡ first_of (last_or (Some x) ys) o
last_some x [] o = refl
last_some x (y ∷ ys) o = last_some y ys o

last_first : (o : Option Bytes) (ys : List Bytes) → last_or o ys ≡ first_of (last_or None ys) o
last_first o [] = refl
last_first o (y ∷ ys) = last_some y ys o

last_in_is : (t : Tree) → last_in t ≡ last_or None (labels t)
last_in_is empty = refl
last_in_is (fork l r) =
    ap (λ (o : Option Bytes). first_of o (last_in l)) (last_in_is r) ∙ ap (first_of (last_or None (labels r))) (last_in_is l)
    ∙ sym (last_first (last_or None (labels l)) (labels r))
    ∙ sym (last_append None (labels l) (labels r)) ∙ ap (last_or None) (sym (filter_map-append label_of (flatten l) (flatten r)))
last_in_is (labeled k t) = refl
last_in_is (leaf b) = refl
last_in_is (pruned h) = refl

last_named : (b a : Option Bytes) (ps : List (List Bytes)) (o : Option Bytes) (xs : List Kept) → Level b a ps xs → last_or o (filter_map label_of (map (λ c. c.whole) xs)) ≡ last_name o xs
last_named b a ps o [] h = refl
last_named b a ps o (x ∷ xs) h =
    let name : label_of x.whole ≡ Some h.0.label = ap label_of h.0.whole in
    ap (λ (n : Option Bytes). last_or o (cons_option n (filter_map label_of (map (λ c. c.whole) xs)))) name
    ∙ last_named (label_of x.whole) a ps (Some h.0.label) xs h.1
    ∙ ap (λ (n : Option Bytes). last_name n xs) (sym name)

first_whole : (b a : Option Bytes) (ps : List (List Bytes)) (xs : List Kept) → 0 < length xs → Level b a ps xs → first_in (whole_of xs) ≡ first_name xs a
first_whole b a ps [] some h = absurd (omega arith)
first_whole b a ps (x ∷ xs) some h =
    let name : label_of x.whole ≡ Some h.0.label = ap label_of h.0.whole in
    first_in_is (whole_of (x ∷ xs))
    ∙ ap (λ (ts : List Tree). head_of (filter_map label_of ts)) (flat (length (x ∷ xs)) b a ps (x ∷ xs) (omega arith) h)
    ∙ ap (λ (n : Option Bytes). head_of (cons_option n (filter_map label_of (map (λ c. c.whole) xs)))) name
    ∙ sym name

last_whole : (b a : Option Bytes) (ps : List (List Bytes)) (xs : List Kept) → 0 < length xs → Level b a ps xs → last_in (whole_of xs) ≡ last_name b xs
last_whole b a ps [] some h = absurd (omega arith)
last_whole b a ps (x ∷ xs) some h =
    last_in_is (whole_of (x ∷ xs))
    ∙ ap (λ (ts : List Tree). last_or None (filter_map label_of ts)) (flat (length (x ∷ xs)) b a ps (x ∷ xs) (omega arith) h)
    ∙ last_named b a ps None (x ∷ xs) h

-- ---- the walk

abbrev pub some_kept : List Kept → Bool
some_kept xs = list_any (λ c. is_some c.kept) xs

pub some_filter : (f : List Bytes → Bool) (ps : List (List Bytes)) → is_some_list (filter f ps) ≡ list_any f ps
some_filter f [] = refl
some_filter f (p ∷ ps) = by (f p) (some_filter f ps)
  where
    by : (b : Bool) → is_some_list (filter f ps) ≡ list_any f ps → is_some_list (cond b (p ∷ filter f ps) (filter f ps)) ≡ b || list_any f ps
    by true ih = refl
    by false ih = ih

pub record Walks (b a : Option Bytes) (ps : List (List Bytes)) (xs : List Kept) : Type 0 where
  pub shown : part (whole_of xs) (filter (begins_between b a) ps) ≡ under_forks xs
  pub kept : some_kept xs ≡ list_any (begins_between b a) ps

reached_same : (l : Bytes) (t : Tree) (ps qs : List (List Bytes)) → begins_some l ps ≡ begins_some l qs → reached_bytes l t ps ≡ reached_bytes l t qs
reached_same l empty ps qs e = refl
reached_same l (fork x y) ps qs e = refl
reached_same l (labeled k t) ps qs e = refl
reached_same l (leaf v) ps qs e = ap (λ (c : Bool). cond c (Some v) None) e
reached_same l (pruned h) ps qs e = refl

walk_one : (b a : Option Bytes) (ps : List (List Bytes)) (x : Kept) → IsChild b a ps x → Walks b a ps (x ∷ [])
unfolding forks
walk_one b a ps x c = record {
  shown = by (filter (begins_between b a) ps) refl;
  kept = or-false (is_some x.kept) ∙ ap is_some c.kept ∙ some_of (filter (begins_between b a) ps) ∙ some_filter (begins_between b a) ps;
}
  where
    some_of : (qs : List (List Bytes)) → is_some (kept_of ps c.label c.below qs) ≡ is_some_list qs
    some_of [] = refl
    some_of (q ∷ qs) = refl

    by : (qs : List (List Bytes)) → filter (begins_between b a) ps ≡ qs → part x.whole qs ≡ elim x.kept as (λ y. Tree) [ None ↦ all_pruned (x ∷ []) | Some t ↦ t ]
    by [] e =
        let nothing : x.kept ≡ None = c.kept ∙ ap (kept_of ps c.label c.below) e in
        part_none x.whole ∙ sym (ap (λ (o : Option Tree). elim o as (λ y. Tree) [ None ↦ all_pruned (x ∷ []) | Some t ↦ t ]) nothing)
    by (q ∷ qs) e =
        let l : Bytes = c.label in
        let t : Tree = c.below in
        let open_is : x.kept ≡ Some (labeled l (over_leaf (reached_bytes l t ps) (part t (going_on (rests l ps))))) = c.kept ∙ ap (kept_of ps l t) e in
        ap (λ (w : Tree). part w (q ∷ qs)) c.whole
        ∙ part_labeled l t (q ∷ qs) refl
        ∙ ap (λ (rs : List (List Bytes)). labeled l (over_leaf (reached_bytes l t rs) (part t (going_on (rests l rs))))) (sym e)
        ∙ ap (λ (o : Option Bytes). labeled l (over_leaf o (part t (going_on (rests l (filter (begins_between b a) ps)))))) (reached_same l t (filter (begins_between b a) ps) ps (begins_kept b a l c.after c.under ps))
        ∙ ap (λ (rs : List (List Bytes)). labeled l (over_leaf (reached_bytes l t ps) (part t (going_on rs)))) (rests_kept b a l c.after c.under ps)
        ∙ sym (ap (λ (o : Option Tree). elim o as (λ y. Tree) [ None ↦ all_pruned (x ∷ []) | Some t ↦ t ]) open_is)

-- both halves of a level under a fork
joined : (b a : Option Bytes) (ps : List (List Bytes)) (c d : Kept) (cs : List Kept) (last next : Bytes) → bytes_below last next ≡ true → is_after bytes_cmp b last ≡ true → is_under a next ≡ true
    → let xs = c ∷ d ∷ cs in let k = half xs in
    last_in (whole_of (take k xs)) ≡ Some last → first_in (whole_of (drop k xs)) ≡ Some next → Walks b (Some next) ps (take k xs) → Walks (Some last) a ps (drop k xs) → Walks b a ps xs
joined b a ps c d cs last next lt after under last_is next_is left right = record {
  shown = by (filter (begins_between b a) ps) refl;
  kept = kept_is;
}
  where
    kept_is : some_kept (c ∷ d ∷ cs) ≡ list_any (begins_between b a) ps
    kept_is =
        let xs : List Kept = c ∷ d ∷ cs in
        let k : ℕ = half xs in
        ap some_kept (sym (take-append-drop k xs))
        ∙ list_any-append (λ (x : Kept). is_some x.kept) (take k xs) (drop k xs)
        ∙ ap (λ (x : Bool). x || some_kept (drop k xs)) left.kept
        ∙ ap (λ (x : Bool). list_any (begins_between b (Some next)) ps || x) right.kept
        ∙ sym (any_paths b a last next lt after under ps)

    test : (qs : List (List Bytes)) → filter (begins_between b a) ps ≡ qs → none_kept (c ∷ d ∷ cs) ≡ not (is_some_list qs)
    test qs e = ap not (kept_is ∙ sym (some_filter (begins_between b a) ps) ∙ ap is_some_list e)

    by : (qs : List (List Bytes)) → filter (begins_between b a) ps ≡ qs → part (whole_of (c ∷ d ∷ cs)) qs ≡ under_forks (c ∷ d ∷ cs)
    by [] e =
        let xs : List Kept = c ∷ d ∷ cs in
        let k : ℕ = half xs in
        part_none (whole_of xs) ∙ sym (kept_halves c d cs ∙ choose_pruned xs (fork (under_forks (take k xs)) (under_forks (drop k xs))) (test [] e))
    by (q ∷ qs) e =
        let xs : List Kept = c ∷ d ∷ cs in
        let k : ℕ = half xs in
        let l : Tree = whole_of (take k xs) in
        let r : Tree = whole_of (drop k xs) in
        let before : filter (begins_between None (first_in r)) (q ∷ qs) ≡ filter (begins_between b (Some next)) ps =
        ap (λ (o : Option Bytes). filter (begins_between None o) (q ∷ qs)) next_is
        ∙ ap (filter (begins_between None (Some next))) (sym e) ∙ left_paths b a next under ps in
        let behind : filter (begins_between (last_in l) None) (q ∷ qs) ≡ filter (begins_between (Some last) a) ps =
        ap (λ (o : Option Bytes). filter (begins_between o None) (q ∷ qs)) last_is
        ∙ ap (filter (begins_between (Some last) None)) (sym e) ∙ right_paths b a last after ps in
        ap (λ (t : Tree). part t (q ∷ qs)) (whole_halves c d cs)
        ∙ part_fork l r (q ∷ qs) refl
        ∙ both_forks _ _ _ _ (ap (part l) before ∙ left.shown) (ap (part r) behind ∙ right.shown)
        ∙ sym (kept_halves c d cs ∙ choose_kept xs (fork (under_forks (take k xs)) (under_forks (drop k xs))) (test (q ∷ qs) e))

pub walk : (n : ℕ) (b a : Option Bytes) (ps : List (List Bytes)) (xs : List Kept) → 0 < length xs → length xs ≤ n → Level b a ps xs → Walks b a ps xs
walk n b a ps [] some le h = absurd (omega arith)
walk n b a ps (x ∷ []) some le h = walk_one b a ps x h.0
walk zero b a ps (c ∷ d ∷ cs) some le h = absurd (omega arith)
walk (suc n) b a ps (c ∷ d ∷ cs) some le h =
    let xs : List Kept = c ∷ d ∷ cs in
    let k : ℕ = half xs in
    let s = half_some c d cs in
    let p = halves b a ps k xs h in
    let some_left : 0 < length (take k xs) = omega (arith, length-take k xs, s.0, s.1) in
    let some_right : 0 < length (drop k xs) = omega (arith, length-drop k xs, s.0, s.1) in
    let next = first_at (last_name b (take k xs)) a ps (drop k xs) some_right p.1 in
    let last = last_at b (first_name (drop k xs) a) ps (take k xs) some_left p.0 in
    let left = subst (λ (o : Option Bytes). Level b o ps (take k xs)) next.is p.0 in
    let right = subst (λ (o : Option Bytes). Level o a ps (drop k xs)) last.is p.1 in
    joined b a ps c d cs last.label next.label
    (ap (λ (o : Option Bytes). is_after bytes_cmp o next.label) (sym last.is) ∙ next.after) last.after next.under
    (last_whole b (first_name (drop k xs) a) ps (take k xs) some_left p.0 ∙ last.is)
    (first_whole (last_name b (take k xs)) a ps (drop k xs) some_right p.1 ∙ next.is)
    (walk n b (Some next.label) ps (take k xs) some_left (omega (arith, length-take k xs, s.1, le)) left)
    (walk n (Some last.label) a ps (drop k xs) some_right (omega (arith, length-drop k xs, s.0, le)) right)
