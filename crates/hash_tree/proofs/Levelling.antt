-- Parts of levels, and entries in order.
use Rattle.std.proofs.Common.{◌≡◌, inl, inr, ℕ, zero, suc, ◌+◌, ◌-◌, ◌≤◌, ◌<◌, Bool, true, false, not, ◌&&◌, List, [], ◌∷◌, ◌++◌, length, map, take, drop, Option, Some, None, slice_get, is_some, IsSome, refl, sym, ap, subst, ◌∙◌, arith, take-add}
use Rattle.std.specs.List.{AllByRecursion, list_all}
use Rattle.std.specs.Cmp.{tied_itself}
use Rattle.std.specs.FinMap.{is_sorted}
use Rattle.std.specs.FinMap.Entries.{below_all}
use Rattle.std.specs.Ordering.{is_lt, is_eq, is_gt, ordering_then}
use Rattle.std.specs.declared.cmp.Ordering.{Ordering}
use Rattle.std.specs.declared.cmp.Ordering.TheVariants.{Less, Equal, Greater}
use Rattle.std.proofs.lemmas.Bool.{and_parts, not-true}
use Rattle.std.proofs.lemmas.List.{map-append, drop-drop, take_all}
use Rattle.format_spec.specs.Bytes.{Bytes, bytes_cmp, path_cmp}
use Rattle.state_spec.specs.State.{is_prefix, are_apart}
use Rattle.hash_tree.specs.Levels.{Entries, behind, level, label_at, label_in, Before, AreInOrder, IsLevel, HasFirst, IsBelow, IsAbove, EndsLabel, Misses, Parts}
use Rattle.std.proofs.lemmas.Slice.Eq.{bytes_eq-Decides}
use Rattle.std.proofs.Common.{bytes_eq}
use Rattle.std.specs.Ordering.{ordering_reverse}
use Rattle.state_spec.specs.State.{is_path, is_reserved, FitsEntry}
use Rattle.std.proofs.Common.{codes}
use Rattle.format_spec.proofs.Lists.{all_weaker, all_join, all_parts, drop_found}
use Rattle.format_spec.proofs.Ascending.{less_is}
use Rattle.sys_state.specs.System.{System, IsWithinLimits}
use Rattle.hash_tree.proofs.Putting.{Entry, total, GoesOn}
use Rattle.hash_tree.proofs.Lists.{all_at, some_at}
use Rattle.std.proofs.lemmas.Map.Lookups.{exact_bytes}

-- ---- levels in parts

pub level_parts : (d from middle to : ℕ) (es : Entries) → from ≤ middle → middle ≤ to → level d from to es ≡ level d from middle es ++ level d middle to es
level_parts d from middle to es p q =
    ap (map (behind d))
    (ap (λ (n : ℕ). take n (drop from es)) (omega arith) ∙ take-add (middle - from) (to - middle) (drop from es)
    ∙ ap (λ (xs : Entries). take (middle - from) (drop from es) ++ take (to - middle) xs)
    (drop-drop (middle - from) from es ∙ ap (λ (k : ℕ). drop k es) (omega arith)))
    ∙ map-append (behind d) (take (middle - from) (drop from es)) (take (to - middle) (drop middle es))

pub level_first : (d from to : ℕ) (es : Entries) (e : Entry) → slice_get es from ≡ Some e → from < to → level d from to es ≡ behind d e ∷ level d (from + 1) to es
level_first d from to es e is lt =
    let count : to - from ≡ suc (to - (from + 1)) = omega arith in
    ap (λ (n : ℕ). map (behind d) (take n (drop from es))) count
    ∙ ap (λ (xs : Entries). map (behind d) (take (suc (to - (from + 1))) xs)) (drop_found es from e is)

pub level_none : (d from to : ℕ) (es : Entries) → to ≤ from → level d from to es ≡ []
level_none d from to es le =
    let count : to - from ≡ 0 = omega arith in
    ap (λ (n : ℕ). map (behind d) (take n (drop from es))) count

pub level_one : (d i : ℕ) (es : Entries) (e : Entry) → slice_get es i ≡ Some e → level d i (i + 1) es ≡ behind d e ∷ []
level_one d i es e is = level_first d i (i + 1) es e is (omega arith) ∙ ap (λ (xs : Entries). behind d e ∷ xs) (level_none d (i + 1) (i + 1) es (omega arith))

deeper : (d : ℕ) (es : Entries) → map (behind 1) (map (behind d) es) ≡ map (behind (d + 1)) es
deeper d [] = refl
deeper d (e ∷ es) = λ i. (drop-drop 1 d e.0 i, e.1) ∷ deeper d es i

pub level_deeper : (d from to : ℕ) (es : Entries) → map (behind 1) (level d from to es) ≡ level (d + 1) from to es
level_deeper d from to es = deeper d (take (to - from) (drop from es))

map_same : (es : Entries) → map (behind 0) es ≡ es
map_same [] = refl
map_same (e ∷ es) = ap (λ (xs : Entries). e ∷ xs) (map_same es)

pub level_all : (es : Entries) → level 0 0 (length es) es ≡ es
level_all es = map_same (take (length es - 0) es) ∙ take_all (length es - 0) es (omega arith)

-- ---- the label at a place

-- an entry, and the label that its path has at a depth
pub record EntryAt (d i : ℕ) (es : Entries) (l : Bytes) : Type 0 where
  pub entry : Entry
  pub is : slice_get es i ≡ Some entry
  pub first : HasFirst l (behind d entry)

pub entry_at : (d i : ℕ) (es : Entries) (l : Bytes) → label_in d i es ≡ Some l → EntryAt d i es l
entry_at d i es l = go (slice_get es i) refl
  where
    go : (o : Option Entry) → slice_get es i ≡ o → label_at d o ≡ Some l → EntryAt d i es l
    go None is h = absurd cc
    go (Some e) is h = record { entry = e; is = is; first = record { rest = drop (d + 1) e.0; is = drop_found e.0 d l h } }

dropped_some : (d : ℕ) (p : List Bytes) → 0 < length (drop d p) → is_some (slice_get p d) ≡ true
dropped_some zero [] h = absurd (omega arith)
dropped_some zero (l ∷ p) h = refl
dropped_some (suc d) [] h = absurd (omega arith)
dropped_some (suc d) (l ∷ p) h = dropped_some d p h

pub label_there : (d from i to : ℕ) (es : Entries) → from ≤ i → i < to → to ≤ length es → IsLevel (level d from to es) → IsSome (label_in d i es)
label_there d from i to es le lt within h =
    let at = some_at es i (omega arith) in
    let parts : level d from to es ≡ level d from i es ++ behind d at.0 ∷ level d (i + 1) to es =
    level_parts d from i to es le (omega arith) ∙ ap (λ (xs : Entries). level d from i es ++ xs) (level_first d i to es at.0 at.1 lt) in
    let labels = all_parts (λ (e : Entry). 0 < length e.0) (level d from i es) (behind d at.0 ∷ level d (i + 1) to es) (subst (AllByRecursion (λ (e : Entry). 0 < length e.0)) parts h.labels) in
    ap (λ o. is_some (label_at d o)) at.1 ∙ dropped_some d at.0.0 labels.1.0

-- ---- order

pub in_order_parts : (xs ys : Entries) → AreInOrder (xs ++ ys) → AreInOrder xs × AreInOrder ys
in_order_parts [] ys h = (tt, h)
in_order_parts (x ∷ xs) ys h =
    let q = in_order_parts xs ys h.1 in
    let p = all_parts (λ (f : Entry). Before x.0 f.0) xs ys h.0 in
    ((p.0, q.0), (q.1))

pub parts_are_levels : (xs ys : Entries) → IsLevel (xs ++ ys) → IsLevel xs × IsLevel ys
parts_are_levels xs ys h =
    let o = in_order_parts xs ys h.in_order in
    let l = all_parts (λ (e : Entry). 0 < length e.0) xs ys h.labels in
    (record { in_order = o.0; labels = l.0 }, record { in_order = o.1; labels = l.1 })

not_less : (l : Bytes) → bytes_cmp l l ≡ Less → ⊥
not_less l h = let e = tied_itself total l in absurd cc

before_rest : (l : Bytes) (p q : List Bytes) → Before (l ∷ p) (l ∷ q) → Before p q
before_rest l p q (inl h) = absurd (not_less l h)
before_rest l p q (inr h) = h.1

-- paths that begin with one label, of which one comes before the other
rest_before : (l : Bytes) (e f : Entry) (p q : List Bytes) → e.0 ≡ l ∷ p → f.0 ≡ l ∷ q → Before e.0 f.0 → Before p q
rest_before l e f p q a b h = before_rest l p q (subst (λ (x : List Bytes). Before x (l ∷ q)) a (subst (Before e.0) b h))

pub alone : (l : Bytes) (e : Entry) (es : Entries) → e.0 ≡ l ∷ [] → AllByRecursion (HasFirst l) es → AreInOrder (e ∷ es) → es ≡ []
alone l e [] is h o = refl
alone l e (f ∷ es) is h o = absurd (rest_before l e f [] h.0.rest is h.0.is o.0.0)

longer_than : (p q : List Bytes) (m : Bytes) → Before (m ∷ p) q → (n : Bytes) × (r : List Bytes) × (q ≡ n ∷ r)
longer_than p [] m h = absurd h
longer_than p (n ∷ r) m h = (n, r, refl)

go_on : (l m : Bytes) (p : List Bytes) (e : Entry) (es : Entries) → e.0 ≡ l ∷ m ∷ p → AllByRecursion (HasFirst l) es → AllByRecursion (λ f. Before e.0 f.0) es → AllByRecursion (GoesOn l) es
go_on l m p e [] is h o = tt
go_on l m p e (f ∷ es) is h o =
    let more = longer_than p h.0.rest m (rest_before l e f (m ∷ p) h.0.rest is h.0.is o.0) in
    (record { next = more.0; rest = more.1; is = h.0.is ∙ ap (λ (q : List Bytes). l ∷ q) more.2 }, go_on l m p e es is h.1 o.1)

pub all_go_on : (l m : Bytes) (p : List Bytes) (e : Entry) (es : Entries) → e.0 ≡ l ∷ m ∷ p → AllByRecursion (HasFirst l) es → AreInOrder (e ∷ es) → AllByRecursion (GoesOn l) (e ∷ es)
all_go_on l m p e es is h o = (record { next = m; rest = p; is = is }, go_on l m p e es is h o.0)

-- without their one first label they are a level
before_all_rests : (l : Bytes) (e : Entry) (es : Entries) → GoesOn l e → AllByRecursion (GoesOn l) es → AllByRecursion (λ (f : Entry). Before e.0 f.0) es → AllByRecursion (λ (f : Entry). Before (drop 1 e.0) f.0) (map (behind 1) es)
before_all_rests l e [] g h o = tt
before_all_rests l e (f ∷ es) g h o =
    let b : Before (g.next ∷ g.rest) (h.0.next ∷ h.0.rest) = rest_before l e f (g.next ∷ g.rest) (h.0.next ∷ h.0.rest) g.is h.0.is o.0 in (
      subst (λ (p : List Bytes). Before (drop 1 e.0) (drop 1 p)) (sym h.0.is) (subst (λ (p : List Bytes). Before (drop 1 p) (h.0.next ∷ h.0.rest)) (sym g.is) b),
      before_all_rests l e es g h.1 o.1,
    )

pub rests_level : (l : Bytes) (es : Entries) → AllByRecursion (GoesOn l) es → AreInOrder es → IsLevel (map (behind 1) es)
rests_level l [] h o = record { in_order = tt; labels = tt }
rests_level l (e ∷ es) h o =
    let r = rests_level l es h.1 o.1 in
    record {
      in_order = (before_all_rests l e es h.0 h.1 o.0, r.in_order);
      labels = (subst (λ (p : List Bytes). 0 < length (drop 1 p)) (sym h.0.is) (omega arith), r.labels);
    }

-- ---- above a label

above_one : (l m : Bytes) (e f : Entry) → HasFirst m e → bytes_cmp l m ≡ Less → Before e.0 f.0 → IsAbove l f
above_one l m e f h lt b = go f.0 refl (subst (λ (x : List Bytes). Before x f.0) h.is b)
  where
    go : (q : List Bytes) → f.0 ≡ q → Before (m ∷ h.rest) q → IsAbove l f
    go [] is x = absurd x
    go (n ∷ q) is (inl x) = record { label = n; has = record { rest = q; is = is }; greater = total.trans l m n lt x }
    go (n ∷ q) is (inr x) = record { label = n; has = record { rest = q; is = is }; greater = subst (λ (y : Bytes). bytes_cmp l y ≡ Less) x.0 lt }

all_above : (l m : Bytes) (e : Entry) (es : Entries) → HasFirst m e → bytes_cmp l m ≡ Less → AllByRecursion (λ (f : Entry). Before e.0 f.0) es → AllByRecursion (IsAbove l) es
all_above l m e [] h lt o = tt
all_above l m e (f ∷ es) h lt o = (above_one l m e f h lt o.0, all_above l m e es h lt o.1)

-- from the first entry with a label above it on all have such labels
pub above_from : (l m : Bytes) (e : Entry) (es : Entries) → HasFirst m e → bytes_cmp l m ≡ Less → AreInOrder (e ∷ es) → AllByRecursion (IsAbove l) (e ∷ es)
above_from l m e es h lt o = (record { label = m; has = h; greater = lt }, all_above l m e es h lt o.0)

less_at : (l m : Bytes) (e f : Entry) → HasFirst l e → HasFirst m f → (l ≡ m → ⊥) → Before e.0 f.0 → bytes_cmp l m ≡ Less
less_at l m e f a b differs h = go (subst (λ (x : List Bytes). Before x (m ∷ b.rest)) a.is (subst (Before e.0) b.is h))
  where
    go : Before (l ∷ a.rest) (m ∷ b.rest) → bytes_cmp l m ≡ Less
    go (inl x) = x
    go (inr x) = absurd (differs x.0)

-- ---- from ascending paths that are apart

before_from : (p q : List Bytes) → path_cmp p q ≡ Less → is_prefix p q ≡ false → Before p q
before_from [] q h k = absurd cc
before_from (l ∷ p) [] h k = absurd cc
before_from (l ∷ p) (m ∷ q) h k = go (bytes_cmp l m) refl (before_from p q) h k
  where
    go : (o : Ordering) → bytes_cmp l m ≡ o → (path_cmp p q ≡ Less → is_prefix p q ≡ false → Before p q)
        → ordering_then o (path_cmp p q) ≡ Less → (is_eq o && is_prefix p q) ≡ false → Before (l ∷ p) (m ∷ q)
    go Less is f x y = inl is
    go Equal is f x y = inr (exact_bytes l m is, f x y)
    go Greater is f x y = absurd cc

before_all : (e : Entry) (es : Entries) → below_all path_cmp e.0 es ≡ true → list_all (λ (f : Entry). not (is_prefix e.0 f.0)) es ≡ true → AllByRecursion (λ (f : Entry). Before e.0 f.0) es
before_all e [] h k = tt
before_all e (f ∷ es) h k =
    let p = and_parts (is_lt (path_cmp e.0 f.0)) (below_all path_cmp e.0 es) h in
    let q = and_parts (not (is_prefix e.0 f.0)) (list_all (λ (g : Entry). not (is_prefix e.0 g.0)) es) k in
    (before_from e.0 f.0 (less_is (path_cmp e.0 f.0) p.0) (not-true (is_prefix e.0 f.0) q.0), before_all e es p.1 q.1)

pub in_order_from : (es : Entries) → is_sorted path_cmp es ≡ true → are_apart es ≡ true → AreInOrder es
in_order_from [] h k = tt
in_order_from (e ∷ es) h k =
    let p = and_parts (below_all path_cmp e.0 es) (is_sorted path_cmp es) h in
    let q = and_parts (list_all (λ (f : Entry). not (is_prefix e.0 f.0)) es) (are_apart es) k in
    (before_all e es p.0 q.0, in_order_from es p.1 q.1)

-- ---- the end of a label

-- the first entry has the label, and so has each before the i-th, which has another
pub ends_label : (d from i to : ℕ) (es : Entries) (l m : Bytes) → from < i → i < to → IsLevel (level d from to es)
    → label_in d from es ≡ Some l → AllByRecursion (HasFirst l) (level d from i es) → label_in d i es ≡ Some m → (l ≡ m → ⊥) → EndsLabel d from i to es
ends_label d from i to es l m some lt h first here other differs =
    let a = entry_at d from es l first in
    let b = entry_at d i es m other in
    let whole : level d from to es ≡ behind d a.entry ∷ level d (from + 1) i es ++ behind d b.entry ∷ level d (i + 1) to es =
    level_first d from to es a.entry a.is (omega arith)
    ∙ ap (λ (xs : Entries). behind d a.entry ∷ xs) (level_parts d (from + 1) i to es (omega arith) (omega arith) ∙ ap (λ (xs : Entries). level d (from + 1) i es ++ xs) (level_first d i to es b.entry b.is lt)) in
    let order = subst AreInOrder whole h.in_order in
    let before = all_parts (λ (f : Entry). Before (behind d a.entry).0 f.0) (level d (from + 1) i es) (behind d b.entry ∷ level d (i + 1) to es) order.0 in
    let rest = in_order_parts (level d (from + 1) i es) (behind d b.entry ∷ level d (i + 1) to es) order.1 in
    let less = less_at l m (behind d a.entry) (behind d b.entry) a.first b.first differs before.1.0 in
    record {
      some = some;
      within = omega arith;
      label = l;
      here = here;
      behind = subst (AllByRecursion (IsAbove l)) (sym (level_first d i to es b.entry b.is lt)) (above_from l m (behind d b.entry) (level d (i + 1) to es) b.first less rest.1);
    }

pub ends_at_all : (d from i to : ℕ) (es : Entries) (l : Bytes) → from < to → i ≤ to → to ≤ i → AllByRecursion (HasFirst l) (level d from i es) → EndsLabel d from to to es
ends_at_all d from i to es l some le ge here = record {
  some = some;
  within = omega arith;
  label = l;
  here = let e : i ≡ to = omega arith in subst (λ (k : ℕ). AllByRecursion (HasFirst l) (level d from k es)) e here;
  behind = subst (AllByRecursion (IsAbove l)) (sym (level_none d to to es (omega arith))) tt;
}

-- the first of one or more, and one more
pub one_here : (d i : ℕ) (es : Entries) (l : Bytes) → label_in d i es ≡ Some l → AllByRecursion (HasFirst l) (level d i (i + 1) es)
one_here d i es l h =
    let a = entry_at d i es l h in
    subst (AllByRecursion (HasFirst l)) (sym (level_one d i es a.entry a.is)) (a.first, tt)

pub more_here : (d from i : ℕ) (es : Entries) (l m : Bytes) → from ≤ i → AllByRecursion (HasFirst l) (level d from i es) → label_in d i es ≡ Some m → m ≡ l → AllByRecursion (HasFirst l) (level d from (i + 1) es)
more_here d from i es l m le here h e =
    subst (AllByRecursion (HasFirst l)) (sym (level_parts d from i (i + 1) es le (omega arith)))
    (all_join (HasFirst l) (level d from i es) (level d i (i + 1) es) here (one_here d i es l (h ∙ ap Some e)))

pub differ : (a b : Bytes) (r : Bool) → r ≡ not (bytes_eq a b) → r ≡ true → b ≡ a → ⊥
differ a b r is h e = let t = (bytes_eq-Decides a b).1 (sym e) in cc

pub alike : (a b : Bytes) (r : Bool) → r ≡ not (bytes_eq a b) → r ≡ false → a ≡ b
alike a b r is k = (bytes_eq-Decides a b).0 (go (bytes_eq a b) (sym is ∙ k))
  where
    go : (t : Bool) → not t ≡ false → t ≡ true
    go true h = refl
    go false h = absurd cc

-- ---- where labels above another begin

pub kept_level : (s : System) (from : ℕ) → IsWithinLimits s → from ≤ length s.entries → IsLevel (level 0 from (length s.entries) s.entries)
kept_level s from kept le =
    let all : IsLevel s.entries = record {
      in_order = in_order_from s.entries kept.system.paths_ascend kept.system.paths_apart;
      labels = all_weaker FitsEntry (λ (e : Entry). 0 < length e.0) (λ e f. is_path_some e.0 f.path) s.entries kept.system.entries_fit;
    } in
    (parts_are_levels (level 0 0 from s.entries) (level 0 from (length s.entries) s.entries)
    (subst IsLevel (sym (level_all s.entries) ∙ level_parts 0 0 from (length s.entries) s.entries (omega arith) le) all)).1
  where
    is_path_some : (p : List Bytes) → is_path p ≡ true → 0 < length p
    is_path_some [] h = absurd cc
    is_path_some (l ∷ p) h = omega arith

-- an entry before which all are below the label, and which is above it
pub parted : (from i : ℕ) (es : Entries) (l m : Bytes) → from ≤ i → i < length es → IsLevel (level 0 from (length es) es) → AllByRecursion (IsBelow l) (level 0 from i es)
    → label_in 0 i es ≡ Some m → bytes_cmp m l ≡ Greater → Parts l from i es
parted from i es l m le lt h below other gt =
    let b = entry_at 0 i es m other in
    let whole : level 0 from (length es) es ≡ level 0 from i es ++ behind 0 b.entry ∷ level 0 (i + 1) (length es) es =
    level_parts 0 from i (length es) es le (omega arith) ∙ ap (λ (xs : Entries). level 0 from i es ++ xs) (level_first 0 i (length es) es b.entry b.is lt) in
    let rest = in_order_parts (level 0 from i es) (behind 0 b.entry ∷ level 0 (i + 1) (length es) es) (subst AreInOrder whole h.in_order) in
    record {
      later = le;
      within = omega arith;
      below = below;
      above = subst (AllByRecursion (IsAbove l)) (sym (level_first 0 i (length es) es b.entry b.is lt))
          (above_from l m (behind 0 b.entry) (level 0 (i + 1) (length es) es) b.first (total.antisymm l m ∙ ap ordering_reverse gt) rest.1);
    }

pub more_below : (from i : ℕ) (es : Entries) (l m : Bytes) → from ≤ i → AllByRecursion (Misses l) es → AllByRecursion (IsBelow l) (level 0 from i es) → label_in 0 i es ≡ Some m
    → (bytes_cmp m l ≡ Greater → ⊥) → AllByRecursion (IsBelow l) (level 0 from (i + 1) es)
more_below from i es l m le free below other not_above =
    let b = entry_at 0 i es m other in
    let misses : Misses l b.entry = all_at (Misses l) es i b.entry free b.is in
    let less = go (bytes_cmp m l) refl (λ e. misses b.first.rest (b.first.is ∙ ap (λ (k : Bytes). k ∷ b.first.rest) e)) in
    subst (AllByRecursion (IsBelow l)) (sym (level_parts 0 from i (i + 1) es le (omega arith)))
    (all_join (IsBelow l) (level 0 from i es) (level 0 i (i + 1) es) below
    (subst (AllByRecursion (IsBelow l)) (sym (level_one 0 i es b.entry b.is)) (record { label = m; has = b.first; less = less }, tt)))
  where
    go : (o : Ordering) → bytes_cmp m l ≡ o → (m ≡ l → ⊥) → bytes_cmp m l ≡ Less
    go Less is f = is
    go Equal is f = absurd (f (exact_bytes m l is))
    go Greater is f = absurd (not_above is)

pub none_below : (from : ℕ) (es : Entries) (l : Bytes) → AllByRecursion (IsBelow l) (level 0 from from es)
none_below from es l = subst (AllByRecursion (IsBelow l)) (sym (level_none 0 from from es (omega arith))) tt

pub greater_by : (r : Bool) (o : Ordering) (a b l : Bytes) → r ≡ is_gt o → o ≡ bytes_cmp a l → a ≡ b → r ≡ true → bytes_cmp b l ≡ Greater
greater_by r o a b l is by same h = ap (λ (x : Bytes). bytes_cmp x l) (sym same) ∙ sym by ∙ go o (sym is ∙ h)
  where
    go : (p : Ordering) → is_gt p ≡ true → p ≡ Greater
    go Less k = absurd cc
    go Equal k = absurd cc
    go Greater k = refl

pub not_greater_by : (r : Bool) (o : Ordering) (a b l : Bytes) → r ≡ is_gt o → o ≡ bytes_cmp a l → a ≡ b → r ≡ false → bytes_cmp b l ≡ Greater → ⊥
not_greater_by r o a b l is by same h gt =
    let greater : o ≡ Greater = by ∙ ap (λ (x : Bytes). bytes_cmp x l) same ∙ gt in
    let test : is_gt o ≡ true = ap is_gt greater in
    absurd cc

pub level_within : (s : System) (from to : ℕ) → IsWithinLimits s → from ≤ to → to ≤ length s.entries → IsLevel (level 0 from to s.entries)
level_within s from to kept le within =
    (parts_are_levels (level 0 from to s.entries) (level 0 to (length s.entries) s.entries)
    (subst IsLevel (level_parts 0 from to (length s.entries) s.entries le within) (kept_level s from kept (omega arith)))).0

-- the labels that no path begins with
free_of : (l : Bytes) → ((p : List Bytes) → is_reserved (l ∷ p) ≡ true) → (s : System) → IsWithinLimits s → AllByRecursion (Misses l) s.entries
free_of l reserved s kept =
    all_weaker FitsEntry (Misses l) (λ e f p is. clash (is_reserved e.0) (ap is_reserved is ∙ reserved p) f.free) s.entries kept.system.entries_fit
  where
    clash : (b : Bool) → b ≡ true → not b ≡ true → ⊥
    clash true h k = absurd cc
    clash false h k = absurd cc

pub free_of_canister : (s : System) → IsWithinLimits s → AllByRecursion (Misses (codes "canister")) s.entries
free_of_canister s kept = free_of (codes "canister") (λ p. refl) s kept

pub free_of_time : (s : System) → IsWithinLimits s → AllByRecursion (Misses (codes "time")) s.entries
free_of_time s kept = free_of (codes "time") (λ p. refl) s kept
