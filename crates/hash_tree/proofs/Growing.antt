-- Levels of entries under their labels.
use Rattle.std.proofs.Common.{◌≡◌, ℕ, zero, suc, ◌+◌, ◌≤◌, ◌<◌, List, [], ◌∷◌, ◌++◌, length, get_or, map, drop, Some, slice_get, refl, sym, ap, subst, ◌∙◌, arith, length-drop}
use Rattle.std.specs.List.{AllByRecursion}
use Rattle.std.specs.declared.cmp.Ordering.TheVariants.{Less, Greater}
use Rattle.std.proofs.lemmas.List.{drop_more, append-nil}
use Rattle.format_spec.specs.Bytes.{Bytes, bytes_cmp}
use Rattle.tree_spec.specs.Tree.{Tree, labeled, leaf, forks}
use Rattle.tree_spec.specs.Labelled.{Children, none, leaf_at, put_leaf, canister_children, with_canisters, entry_children, child_trees, root_children}
use Rattle.hash_tree.specs.declared.tree.HashTree.{HashTree}
use Rattle.hash_tree.specs.View.{tree_view}
use Rattle.hash_tree.specs.Levels.{Entries, behind, level, AreInOrder, IsLevel, IsGroup, HasFirst, IsBelow, IsAbove, EndsLabel, Parts}
use Rattle.hash_tree.specs.Stack.{Pushes, Pushed}
use Rattle.std.proofs.Common.{true, ◌&&◌, nat_lt, nat_le}
use Rattle.std.specs.List.{list_all}
use Rattle.std.proofs.lemmas.Bool.{and_parts, leb-true}
use Rattle.format_spec.specs.declared.limits.TheConstants.{MAX_LABELS}
use Rattle.state_spec.specs.State.{is_path, is_label, CanisterPart, SystemPart}
use Rattle.format_spec.specs.Bytes.{leb}
use Rattle.std.proofs.Common.{codes}
use Rattle.format_spec.proofs.Lists.{all_weaker}
use Rattle.sys_state.specs.System.{System, part_of, parts}
use Rattle.hash_tree.specs.Canisters.{canister_trees}
use Rattle.hash_tree.proofs.Putting.{Entry, total, greater_from, joined, child_trees-joined, AreBelow, AreAbove, put_leaf_behind, put_leaf_before, put_node_behind, put_node_before, FirstIs, OfLabels-fold, GoesBehind, entry_children-append, group_node, group_leaf}
use Rattle.hash_tree.proofs.Levelling.{level_all, level_parts, level_first, level_none, level_deeper, parts_are_levels, alone, all_go_on, rests_level}
use Rattle.hash_tree.proofs.Stacking.{pushed_one, pushed_all}

-- ---- entries, and others with higher first labels

pub apart_by : (Q : Bytes → Type 0) (l : Bytes) (es fs : Entries) → AllByRecursion (FirstIs Q) es → AllByRecursion (IsAbove l) fs
    → ((k m : Bytes) → Q k → bytes_cmp l m ≡ Less → bytes_cmp m k ≡ Greater)
    → entry_children (es ++ fs) ≡ joined (entry_children es) (entry_children fs)
apart_by Q l es fs lows highs apart =
    entry_children-append es fs
    (all_weaker (IsAbove l) (GoesBehind (entry_children es))
    (λ f h. record {
      label = h.label;
      has = h.has;
      good = OfLabels-fold (λ (k : Bytes). bytes_cmp h.label k ≡ Greater) none es tt
          (all_weaker (FirstIs Q) (FirstIs (λ (k : Bytes). bytes_cmp h.label k ≡ Greater))
          (λ e g. record { label = g.label; has = g.has; good = apart g.label h.label g.good h.greater }) es lows);
    }) fs highs)

-- one label, and higher ones
label_apart : (l : Bytes) (es fs : Entries) → AllByRecursion (HasFirst l) es → AllByRecursion (IsAbove l) fs → entry_children (es ++ fs) ≡ joined (entry_children es) (entry_children fs)
label_apart l es fs lows highs =
    apart_by (λ (k : Bytes). k ≡ l) l es fs
    (all_weaker (HasFirst l) (FirstIs (λ (k : Bytes). k ≡ l)) (λ e h. record { label = l; has = h; good = refl }) es lows) highs
    (λ k m same lt. ap (bytes_cmp m) same ∙ greater_from l m lt)

-- lower and higher labels
pub sides_apart : (l : Bytes) (es fs : Entries) → AllByRecursion (IsBelow l) es → AllByRecursion (IsAbove l) fs → entry_children (es ++ fs) ≡ joined (entry_children es) (entry_children fs)
sides_apart l es fs lows highs =
    apart_by (λ (k : Bytes). bytes_cmp k l ≡ Less) l es fs
    (all_weaker (IsBelow l) (FirstIs (λ (k : Bytes). bytes_cmp k l ≡ Less)) (λ e h. record { label = h.label; has = h.has; good = h.less }) es lows) highs
    (λ k m below lt. greater_from k m (total.trans k l m below lt))

pub label_split : (d from end to : ℕ) (es : Entries) → EndsLabel d from end to es
    → child_trees (entry_children (level d from to es)) ≡ child_trees (entry_children (level d from end es)) ++ child_trees (entry_children (level d end to es))
label_split d from end to es e =
    ap (λ (xs : Entries). child_trees (entry_children xs)) (level_parts d from end to es (omega (arith, e.some)) e.within)
    ∙ ap child_trees (label_apart e.label (level d from end es) (level d end to es) e.here e.behind)
    ∙ child_trees-joined (entry_children (level d from end es)) (entry_children (level d end to es))

-- ---- a loop's step

pub record Walked (d from at to : ℕ) (es : Entries) (old new : List HashTree) : Type 0 where
  pub bound : at ≤ to
  pub is_level : IsLevel (level d at to es)
  pub pushed : Pushed old new (child_trees (entry_children (level d from to es))) (child_trees (entry_children (level d at to es)))

label_parts : (d at end to : ℕ) (es : Entries) → EndsLabel d at end to es → IsLevel (level d at to es) → IsLevel (level d at end es) × IsLevel (level d end to es)
label_parts d at end to es e h = parts_are_levels (level d at end es) (level d end to es) (subst IsLevel (level_parts d at end to es (omega (arith, e.some)) e.within) h)

pub group_level : (d at end to : ℕ) (es : Entries) → EndsLabel d at end to es → IsLevel (level d at to es) → IsLevel (level d at end es)
group_level d at end to es e h = (label_parts d at end to es e h).0

pub walked_more : (d from at end to : ℕ) (es : Entries) (old new next : List HashTree) (b : HashTree) → Walked d from at to es old new → EndsLabel d at end to es
    → child_trees (entry_children (level d at end es)) ≡ tree_view b ∷ [] → next ≡ new ++ b ∷ [] → Walked d from end to es old next
walked_more d from at end to es old new next b w e tree is = record {
  bound = e.within;
  is_level = (label_parts d at end to es e w.is_level).1;
  pushed = pushed_one old new next _ (child_trees (entry_children (level d end to es))) (tree_view b) b
      (subst (Pushed old new (child_trees (entry_children (level d from to es)))) (label_split d at end to es e ∙ ap (λ (ts : List Tree). ts ++ child_trees (entry_children (level d end to es))) tree) w.pushed)
      is refl;
}

-- ---- the entries of one label

-- the first of a group, by its path
record FirstOf (d from to : ℕ) (es : Entries) (e : Entry) (l : Bytes) (p : List Bytes) : Type 0 where
  is : level d from to es ≡ behind d e ∷ level d (from + 1) to es
  all : AllByRecursion (HasFirst l) (level d (from + 1) to es)
  order : AreInOrder (behind d e ∷ level d (from + 1) to es)

first_of_group : (d from to : ℕ) (es : Entries) (e : Entry) (l : Bytes) (p : List Bytes) → from < to → slice_get es from ≡ Some e → IsLevel (level d from to es) → IsGroup (level d from to es)
    → drop d e.0 ≡ l ∷ p → FirstOf d from to es e l p
first_of_group d from to es e l p lt is h g begins =
    let parts = level_first d from to es e is lt in
    let all = subst (AllByRecursion (HasFirst g.label)) parts g.all in
    let same : g.label ≡ l = same_first g.label l all.0.rest p (sym all.0.is ∙ begins) in
    record { is = parts; all = subst (λ (k : Bytes). AllByRecursion (HasFirst k) (level d (from + 1) to es)) same all.1; order = subst AreInOrder parts h.in_order }
  where
    same_first : (k m : Bytes) (q r : List Bytes) → k ∷ q ≡ m ∷ r → k ≡ m
    same_first k m q r s = cc

pub leaf_group : (d from to : ℕ) (es : Entries) (e : Entry) (l : Bytes) (t : Tree) → from < to → slice_get es from ≡ Some e → IsLevel (level d from to es) → IsGroup (level d from to es)
    → drop d e.0 ≡ l ∷ [] → t ≡ labeled l (leaf e.1) → child_trees (entry_children (level d from to es)) ≡ t ∷ []
leaf_group d from to es e l t lt is h g begins tree =
    let f = first_of_group d from to es e l [] lt is h g begins in
    ap (λ (xs : Entries). child_trees (entry_children xs)) (f.is ∙ ap (λ (xs : Entries). behind d e ∷ xs) (alone l (behind d e) (level d (from + 1) to es) begins f.all f.order))
    ∙ ap child_trees (group_leaf l (behind d e) begins) ∙ ap (λ (u : Tree). u ∷ []) (sym tree)

pub node_level : (d from to : ℕ) (es : Entries) (e : Entry) (l m : Bytes) (p : List Bytes) → from < to → slice_get es from ≡ Some e → IsLevel (level d from to es) → IsGroup (level d from to es)
    → drop d e.0 ≡ l ∷ m ∷ p → IsLevel (level (d + 1) from to es)
node_level d from to es e l m p lt is h g begins =
    let f = first_of_group d from to es e l (m ∷ p) lt is h g begins in
    subst IsLevel (ap (map (behind 1)) (sym f.is) ∙ level_deeper d from to es)
    (rests_level l (behind d e ∷ level d (from + 1) to es) (all_go_on l m p (behind d e) (level d (from + 1) to es) begins f.all f.order) f.order)

pub node_group : (d from to : ℕ) (es : Entries) (e : Entry) (l m : Bytes) (p : List Bytes) (t : Tree) → from < to → slice_get es from ≡ Some e → IsLevel (level d from to es) → IsGroup (level d from to es)
    → drop d e.0 ≡ l ∷ m ∷ p → t ≡ labeled l (forks (child_trees (entry_children (level (d + 1) from to es)))) → child_trees (entry_children (level d from to es)) ≡ t ∷ []
node_group d from to es e l m p t lt is h g begins tree =
    let f = first_of_group d from to es e l (m ∷ p) lt is h g begins in
    let rests : map (behind 1) (behind d e ∷ level d (from + 1) to es) ≡ level (d + 1) from to es = ap (map (behind 1)) (sym f.is) ∙ level_deeper d from to es in
    ap (λ (xs : Entries). child_trees (entry_children xs)) f.is
    ∙ ap child_trees (group_node l (behind d e) (level d (from + 1) to es) (all_go_on l m p (behind d e) (level d (from + 1) to es) begins f.all f.order))
    ∙ ap (λ (xs : Entries). labeled l (forks (child_trees (entry_children xs))) ∷ []) rests
    ∙ ap (λ (u : Tree). u ∷ []) (sym tree)

-- ---- a path at a depth

-- it has a label there, and few labels in all
pub record AtDepth (d : ℕ) (p : List Bytes) : Type 0 where
  pub deep : d < length p
  pub few : length p ≤ 8

pub at_depth : (d from to : ℕ) (es : Entries) (e : Entry) → from < to → slice_get es from ≡ Some e → IsLevel (level d from to es) → is_path e.0 ≡ true → AtDepth d e.0
at_depth d from to es e lt is h path =
    let labels = subst (AllByRecursion (λ (f : Entry). 0 < length f.0)) (level_first d from to es e is lt) h.labels in
    let sizes = and_parts (nat_lt 0 (length e.0) && nat_le (length e.0) MAX_LABELS) (list_all is_label e.0) path in
    let most = and_parts (nat_lt 0 (length e.0)) (nat_le (length e.0) MAX_LABELS) sizes.0 in
    record { deep = omega (arith, length-drop d e.0, labels.0); few = leb-true (length e.0) 8 most.1 }

label_first : (p labels : List Bytes) (d : ℕ) (l : Bytes) → labels ≡ p → d < length p → l ≡ get_or labels d l → drop d p ≡ l ∷ drop (d + 1) p
label_first p labels d l same lt is =
    let here : l ≡ get_or p d l = is ∙ ap (λ (xs : List Bytes). get_or xs d l) same in
    drop_more p d l lt ∙ ap (λ (k : Bytes). k ∷ drop (d + 1) p) (sym here)

none_behind : (p : List Bytes) (n : ℕ) → length p ≡ n → drop n p ≡ []
none_behind [] zero e = refl
none_behind [] (suc n) e = refl
none_behind (l ∷ p) zero e = absurd (omega arith)
none_behind (l ∷ p) (suc n) e = none_behind p n (omega arith)

-- its last label is this one
pub ends_here : (p labels : List Bytes) (d : ℕ) (l : Bytes) → labels ≡ p → d < length p → l ≡ get_or labels d l → length labels ≡ d + 1 → drop d p ≡ l ∷ []
ends_here p labels d l same lt is count =
    label_first p labels d l same lt is ∙ ap (λ (q : List Bytes). l ∷ q) (none_behind p (d + 1) (ap length (sym same) ∙ count))

-- it has this label there, and another behind it
pub record GoesFurther (d : ℕ) (p : List Bytes) (l : Bytes) : Type 0 where
  pub next : Bytes
  pub rest : List Bytes
  pub begins : drop d p ≡ l ∷ next ∷ rest

pub goes_further : (p labels : List Bytes) (d : ℕ) (l : Bytes) → labels ≡ p → d < length p → l ≡ get_or labels d l → (length labels ≡ d + 1 → ⊥) → GoesFurther d p l
goes_further p labels d l same lt is count = go (drop (d + 1) p) refl (label_first p labels d l same lt is)
  where
    go : (q : List Bytes) → drop (d + 1) p ≡ q → drop d p ≡ l ∷ drop (d + 1) p → GoesFurther d p l
    go [] none_left begins = let n = ap length none_left in absurd (count (ap length same ∙ omega (arith, length-drop (d + 1) p)))
    go (m ∷ q) more begins = record { next = m; rest = q; begins = begins ∙ ap (λ (r : List Bytes). l ∷ r) more }

-- ---- canisters and the time between entries

below_label : (l m : Bytes) → bytes_cmp l m ≡ Less → (es : Entries) → AllByRecursion (IsBelow l) es → AreBelow m (entry_children es)
below_label l m lt es h =
    OfLabels-fold (λ (k : Bytes). bytes_cmp m k ≡ Greater) none es tt
    (all_weaker (IsBelow l) (FirstIs (λ (k : Bytes). bytes_cmp m k ≡ Greater))
    (λ e b. record { label = b.label; has = b.has; good = greater_from b.label m (total.trans b.label l m b.less lt) }) es h)

below_itself : (l : Bytes) (es : Entries) → AllByRecursion (IsBelow l) es → AreBelow l (entry_children es)
below_itself l es h =
    OfLabels-fold (λ (k : Bytes). bytes_cmp l k ≡ Greater) none es tt
    (all_weaker (IsBelow l) (FirstIs (λ (k : Bytes). bytes_cmp l k ≡ Greater))
    (λ e b. record { label = b.label; has = b.has; good = greater_from b.label l b.less }) es h)

above_itself : (l : Bytes) (es : Entries) → AllByRecursion (IsAbove l) es → AreAbove l (entry_children es)
above_itself l es h =
    OfLabels-fold (λ (k : Bytes). bytes_cmp l k ≡ Less) none es tt
    (all_weaker (IsAbove l) (FirstIs (λ (k : Bytes). bytes_cmp l k ≡ Less)) (λ e b. record { label = b.label; has = b.has; good = b.greater }) es h)

abbrev canister_label : Bytes
canister_label = codes "canister"

abbrev time_label : Bytes
time_label = codes "time"

-- the node of the canisters in its place
canisters_between : (cs : List (Bytes × CanisterPart)) (es : Entries) (c : Children) → AllByRecursion (IsBelow canister_label) es → AreAbove canister_label c
    → with_canisters cs (joined (entry_children es) c) ≡ joined (entry_children es) (joined (with_canisters cs none) c)
canisters_between [] es c low high = refl
canisters_between (k ∷ cs) es c low high =
    put_node_behind canister_label (λ before. canister_children (k ∷ cs)) (entry_children es) c (below_itself canister_label es low)
    ∙ ap (joined (entry_children es)) (put_node_before canister_label (λ before. canister_children (k ∷ cs)) c high)

canister_nodes : (cs : List (Bytes × CanisterPart)) → child_trees (with_canisters cs none) ≡ canister_trees cs
canister_nodes [] = refl
canister_nodes (c ∷ cs) = refl

canisters_below : (cs : List (Bytes × CanisterPart)) → AreBelow time_label (with_canisters cs none)
canisters_below [] = tt
canisters_below (c ∷ cs) = (refl, tt)

-- the children of a state: entries before the canisters, the canisters, entries before the time, the time, and entries behind it
pub state_children : (s : SystemPart) (es fs gs : Entries) → s.entries ≡ es ++ (fs ++ gs) → AllByRecursion (IsBelow canister_label) es
    → AllByRecursion (IsAbove canister_label) (fs ++ gs) → AllByRecursion (IsBelow time_label) fs → AllByRecursion (IsAbove time_label) gs
    → child_trees (root_children s) ≡ child_trees (entry_children es) ++ (canister_trees s.canisters ++ (child_trees (entry_children fs) ++ (labeled time_label (leaf (leb s.time)) ∷ child_trees (entry_children gs))))
unfolding root_children
state_children s es fs gs is low high middle last =
    let e : Children = entry_children es in
    let f : Children = entry_children fs in
    let g : Children = entry_children gs in
    let c : Children = with_canisters s.canisters none in
    let v : Bytes = leb s.time in
    let behind_f : entry_children (fs ++ gs) ≡ joined f g = sides_apart time_label fs gs middle last in
    let entries : entry_children s.entries ≡ joined e (entry_children (fs ++ gs)) =
    ap (λ (xs : Entries). entry_children xs) is ∙ sides_apart canister_label es (fs ++ gs) low high in
    let canisters : with_canisters s.canisters (entry_children s.entries) ≡ joined e (joined c (joined f g)) =
    ap (with_canisters s.canisters) entries
    ∙ canisters_between s.canisters es (entry_children (fs ++ gs)) low (above_itself canister_label (fs ++ gs) high)
    ∙ ap (λ (x : Children). joined e (joined c x)) behind_f in
    let times : put_leaf time_label v (joined e (joined c (joined f g))) ≡ joined e (joined c (joined f (leaf_at time_label v g))) =
    put_leaf_behind time_label v e (joined c (joined f g)) (below_label canister_label time_label refl es low)
    ∙ ap (joined e) (put_leaf_behind time_label v c (joined f g) (canisters_below s.canisters)
    ∙ ap (joined c) (put_leaf_behind time_label v f g (below_itself time_label fs middle)
    ∙ ap (joined f) (put_leaf_before time_label v g (above_itself time_label gs last)))) in
    ap child_trees (ap (put_leaf time_label v) canisters ∙ times)
    ∙ child_trees-joined e (joined c (joined f (leaf_at time_label v g)))
    ∙ ap (λ (ts : List Tree). child_trees e ++ ts) (child_trees-joined c (joined f (leaf_at time_label v g))
    ∙ ap (λ (ts : List Tree). child_trees c ++ ts) (child_trees-joined f (leaf_at time_label v g))
    ∙ ap (λ (ts : List Tree). ts ++ (child_trees f ++ (labeled time_label (leaf v) ∷ child_trees g))) (canister_nodes s.canisters))

-- the same, of entries from place to place
pub state_trees : (s : System) (canisters time : ℕ) → Parts canister_label 0 canisters s.entries → Parts time_label canisters time s.entries
    → child_trees (root_children (part_of s)) ≡ child_trees (entry_children (level 0 0 canisters s.entries)) ++ (canister_trees (parts s.canisters)
    ++ (child_trees (entry_children (level 0 canisters time s.entries)) ++ (labeled time_label (leaf (leb s.time)) ∷ child_trees (entry_children (level 0 time (length s.entries) s.entries)))))
state_trees s canisters time p q =
    let n : ℕ = length s.entries in
    let behind_canisters : level 0 canisters n s.entries ≡ level 0 canisters time s.entries ++ level 0 time n s.entries = level_parts 0 canisters time n s.entries q.later q.within in
    let whole : s.entries ≡ level 0 0 canisters s.entries ++ (level 0 canisters time s.entries ++ level 0 time n s.entries) =
    sym (level_all s.entries) ∙ level_parts 0 0 canisters n s.entries p.later p.within ∙ ap (λ (xs : Entries). level 0 0 canisters s.entries ++ xs) behind_canisters in
    state_children (part_of s) (level 0 0 canisters s.entries) (level 0 canisters time s.entries) (level 0 time n s.entries) whole
    p.below (subst (AllByRecursion (IsAbove canister_label)) behind_canisters p.above) q.below q.above
