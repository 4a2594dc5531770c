-- An entry comes to a page, along nodes that only this tree has.
use Rattle.std.proofs.Common.{◌≡◌, ◌≢◌, inl, inr, ℕ, ◌+◌, ◌/◌, ◌%◌, ◌<◌, List, length, get_or, set, Option, Some, None, IsSome, refl, sym, ap, subst, ◌∙◌, arith}
use Rattle.std.proofs.lemmas.Bool.{cases_eq}
use Rattle.page_delta.specs.Totals.{total}
use Rattle.page_delta.specs.Delta.{uses}
use Rattle.page_delta.specs.Nodes.{node_at, child_in, entry_in, count_in, level_in, names, look, with_entry}
use Rattle.page_delta.specs.Shared.{IsShared, IsPlaced, StandsAt, KeepsPlaces, KeepsLevels, Owned, Differs}
use Rattle.page_delta.specs.declared.entry.Entry.{Entry}
use Rattle.page_delta.specs.declared.node.Node.{Node}
use Rattle.page_delta.specs.declared.node.Node.TheVariants.{Branch, Leaf}
use Rattle.page_delta.proofs.Sharing.{some-live, shared-entry, not-some, named}
use Rattle.page_delta.proofs.Places.{places-trans, placed-next, placed-entry}
use Rattle.page_delta.proofs.Looks.{differs-leaf, differs-above}
use Rattle.page_delta.proofs.Changes.{SetsEntry}

-- a node on a level above the leaves is there
pub high-live : (o : Option Node) → 0 < level_in o → IsSome o
high-live None high = absurd (omega arith)
high-live (Some (Branch c l kids)) high = refl
high-live (Some (Leaf c es)) high = refl

pub counted-live : (o : Option Node) → 0 < count_in o → IsSome o
counted-live None some = absurd (omega arith)
counted-live (Some (Branch c l kids)) some = refl
counted-live (Some (Leaf c es)) some = refl

leaf-of : (xs : List (Option Node)) (counts hands loose : ℕ → ℕ) (k : ℕ) → IsShared xs counts hands loose → IsSome (node_at xs k)
    → level_in (node_at xs k) ≡ 0 → (c : ℕ) × (es : List (Option Entry)) × (node_at xs k ≡ Some (Leaf c es))
leaf-of xs counts hands loose k s live low = go (node_at xs k) refl
  where
    go : (o : Option Node) → node_at xs k ≡ o → (c : ℕ) × (es : List (Option Entry)) × (node_at xs k ≡ Some (Leaf c es))
    go None e = absurd (not-some (node_at xs k) e live)
    go (Some (Branch c l kids)) e = absurd (let high = s.tall k c l kids e in let level_is : level_in (node_at xs k) ≡ l = ap level_in e in
        omega arith)
    go (Some (Leaf c es)) e = (c, es, e)

-- a child whose count is one is named once
named-once : (xs : List (Option Node)) (counts hands loose : ℕ → ℕ) (k d n : ℕ) → IsShared xs counts hands loose
    → child_in (node_at xs k) d ≡ Some n → count_in (node_at xs n) ≡ 1 → total (names n) xs ≡ 1
named-once xs counts hands loose k d n s e once =
    let pos = named xs k d n e in let count = s.counted n in omega arith

-- The way of an entry to its page: from the root down to the leaf each child is made the tree's own, and then the entry comes
-- to its place. The nodes were `x0`, and then `x1` to `x4`.
pub record Descends (x0 x1 x2 x3 x4 : List (Option Node)) (root page : ℕ) (entry : Entry) : Type 0 where
  pub upper : ℕ
  pub lower : ℕ
  pub leaf : ℕ
  pub to_upper : Owned x0 x1 root ((page / 32768) % 32) upper
  pub to_lower : Owned x1 x2 upper ((page / 1024) % 32) lower
  pub to_leaf : Owned x2 x3 lower ((page / 32) % 32) leaf
  pub top : level_in (node_at x0 root) ≡ 3
  pub hands : ℕ → ℕ
  pub loose : ℕ → ℕ
  pub counts1 : ℕ → ℕ
  pub counts2 : ℕ → ℕ
  pub counts3 : ℕ → ℕ
  pub shared1 : IsShared x1 counts1 hands loose
  pub shared2 : IsShared x2 counts2 hands loose
  pub shared3 : IsShared x3 counts3 hands loose
  pub now : (n : Node) → node_at x3 leaf ≡ Some n → node_at x4 leaf ≡ Some (with_entry n (page % 32) entry)
  pub rest : (m : ℕ) → m ≢ leaf → node_at x4 m ≡ node_at x3 m

module _ (x0 x1 x2 x3 x4 : List (Option Node)) (root page : ℕ) (entry : Entry) (w : Descends x0 x1 x2 x3 x4 root page entry) where
  root_live : IsSome (node_at x0 root)
  root_live = high-live (node_at x0 root) (omega arith)

  level_root1 : level_in (node_at x1 root) ≡ 3
  level_root1 = (w.to_upper.levels root root_live).1 ∙ w.top

  level_upper1 : level_in (node_at x1 w.upper) ≡ 2
  level_upper1 = let step = w.shared1.steps root ((page / 32768) % 32) w.upper w.to_upper.child_is in let t = level_root1 in omega arith

  root_upper : root ≢ w.upper
  root_upper = λ e. let eq = ap (λ i. level_in (node_at x1 i)) e in omega (arith, level_root1, level_upper1)

  root2 : node_at x2 root ≡ node_at x1 root
  root2 = w.to_lower.above root (omega (arith, level_root1, level_upper1)) root_upper

  level_upper2 : level_in (node_at x2 w.upper) ≡ 2
  level_upper2 = (w.to_lower.levels w.upper (high-live (node_at x1 w.upper) (omega (arith, level_upper1)))).1 ∙ level_upper1

  level_lower2 : level_in (node_at x2 w.lower) ≡ 1
  level_lower2 = let step = w.shared2.steps w.upper ((page / 1024) % 32) w.lower w.to_lower.child_is in omega (arith, level_upper2)

  level_root2 : level_in (node_at x2 root) ≡ 3
  level_root2 = ap level_in root2 ∙ level_root1

  root_lower : root ≢ w.lower
  root_lower = λ e. let eq = ap (λ i. level_in (node_at x2 i)) e in omega (arith, level_root2, level_lower2)

  upper_lower : w.upper ≢ w.lower
  upper_lower = λ e. let eq = ap (λ i. level_in (node_at x2 i)) e in omega (arith, level_upper2, level_lower2)

  root3 : node_at x3 root ≡ node_at x1 root
  root3 = w.to_leaf.above root (omega (arith, level_root2, level_lower2)) root_lower ∙ root2

  upper3 : node_at x3 w.upper ≡ node_at x2 w.upper
  upper3 = w.to_leaf.above w.upper (omega (arith, level_upper2, level_lower2)) upper_lower

  level_lower3 : level_in (node_at x3 w.lower) ≡ 1
  level_lower3 = (w.to_leaf.levels w.lower (high-live (node_at x2 w.lower) (omega (arith, level_lower2)))).1 ∙ level_lower2

  child_root : child_in (node_at x3 root) ((page / 32768) % 32) ≡ Some w.upper
  child_root = ap (λ o. child_in o ((page / 32768) % 32)) root3 ∙ w.to_upper.child_is

  child_upper : child_in (node_at x3 w.upper) ((page / 1024) % 32) ≡ Some w.lower
  child_upper = ap (λ o. child_in o ((page / 1024) % 32)) upper3 ∙ w.to_lower.child_is

  level_leaf3 : level_in (node_at x3 w.leaf) ≡ 0
  level_leaf3 = let step = w.shared3.steps w.lower ((page / 32) % 32) w.leaf w.to_leaf.child_is in omega (arith, level_lower3)

  once_upper : count_in (node_at x3 w.upper) ≡ 1
  once_upper = ap count_in upper3 ∙ w.to_lower.count ∙ w.to_upper.own

  once_lower : count_in (node_at x3 w.lower) ≡ 1
  once_lower = w.to_leaf.count ∙ w.to_lower.own

  pub is_leaf : (n : ℕ) × (es : List (Option Entry)) × (node_at x3 w.leaf ≡ Some (Leaf n es))
  is_leaf = leaf-of x3 w.counts3 w.hands w.loose w.leaf w.shared3
      (counted-live (node_at x3 w.leaf) (let o = w.to_leaf.own in omega arith)) level_leaf3

  leaf_now : node_at x4 w.leaf ≡ Some (Leaf is_leaf.0 (set is_leaf.1 (page % 32) (Some entry)))
  leaf_now = w.now (Leaf is_leaf.0 is_leaf.1) is_leaf.2

  in_places : page % 32 < length is_leaf.1
  in_places = let wide = w.shared3.wide w.leaf (Leaf is_leaf.0 is_leaf.1) is_leaf.2 in omega arith

  sets : SetsEntry x3 x4 w.leaf is_leaf.0 (page % 32) entry is_leaf.1
  sets = record { here = is_leaf.2; now = leaf_now; rest = w.rest; below = in_places }

  kids_same : (m d : ℕ) → child_in (node_at x4 m) d ≡ child_in (node_at x3 m) d
  kids_same m d = elim (cases_eq m w.leaf) [
    | inl e ↦ ap (λ o. child_in o d) (ap (λ i. node_at x4 i) e ∙ leaf_now)
        ∙ sym (ap (λ o. child_in o d) (ap (λ i. node_at x3 i) e ∙ is_leaf.2))
    | inr ne ↦ ap (λ o. child_in o d) (w.rest m ne)
  ]

  level_same4 : (m : ℕ) → level_in (node_at x4 m) ≡ level_in (node_at x3 m)
  level_same4 m = elim (cases_eq m w.leaf) [
    | inl e ↦ ap level_in (ap (λ i. node_at x4 i) e ∙ leaf_now) ∙ sym (ap level_in (ap (λ i. node_at x3 i) e ∙ is_leaf.2))
    | inr ne ↦ ap level_in (w.rest m ne)
  ]

  live4 : (m : ℕ) → IsSome (node_at x3 m) → IsSome (node_at x4 m)
  live4 m live = elim (cases_eq m w.leaf) [
    | inl e ↦ some-live (node_at x4 m) (Leaf is_leaf.0 (set is_leaf.1 (page % 32) (Some entry))) (ap (λ i. node_at x4 i) e ∙ leaf_now)
    | inr ne ↦ subst (λ (o : Option Node). IsSome o) (sym (w.rest m ne)) live
  ]

  differs3 : Differs 3 x3 x4 root page entry
  differs3 =
      let zero_is = differs-leaf x3 x4 w.leaf is_leaf.0 page entry is_leaf.1 sets in
      let one_is = differs-above x3 x4 w.counts3 w.hands w.loose page entry w.shared3 kids_same 0 w.leaf w.lower zero_is w.to_leaf.child_is
      (named-once x3 w.counts3 w.hands w.loose w.lower ((page / 32) % 32) w.leaf w.shared3 w.to_leaf.child_is w.to_leaf.own)
      level_lower3 in
      let two_is = differs-above x3 x4 w.counts3 w.hands w.loose page entry w.shared3 kids_same 1 w.lower w.upper one_is child_upper
      (named-once x3 w.counts3 w.hands w.loose w.upper ((page / 1024) % 32) w.lower w.shared3 child_upper once_lower)
      (ap level_in upper3 ∙ level_upper2) in
      differs-above x3 x4 w.counts3 w.hands w.loose page entry w.shared3 kids_same 2 w.upper root two_is child_root
      (named-once x3 w.counts3 w.hands w.loose root ((page / 32768) % 32) w.upper w.shared3 child_root once_upper)
      (ap level_in root3 ∙ level_root1)

  live3 : (m : ℕ) → IsSome (node_at x0 m) → IsSome (node_at x3 m) × (level_in (node_at x3 m) ≡ level_in (node_at x0 m))
  live3 m live =
      let first = w.to_upper.levels m live in let second = w.to_lower.levels m first.0 in let third = w.to_leaf.levels m second.0 in
      (third.0, third.1 ∙ second.1 ∙ first.1)

  looks3 : (l m q : ℕ) → IsSome (node_at x0 m) → look l x3 (Some m) q ≡ look l x0 (Some m) q
  looks3 l m q live =
      let first = w.to_upper.levels m live in let second = w.to_lower.levels m first.0 in
      w.to_leaf.looks l m q second.0 ∙ w.to_lower.looks l m q first.0 ∙ w.to_upper.looks l m q live

  pub inserted-differs : Differs 3 x0 x4 root page entry
  inserted-differs = record {
    there = differs3.there;
    apart = λ q no. differs3.apart q no ∙ looks3 3 root q root_live;
    others = λ m q level live ne. let third = live3 m live in differs3.others m q (third.1 ∙ level) third.0 ne ∙ looks3 3 m q live;
  }

  pub inserted-levels : KeepsLevels x0 x4
  inserted-levels m live = let third = live3 m live in (live4 m third.0, level_same4 m ∙ third.1)

  places3 : KeepsPlaces x0 x3
  places3 = places-trans x0 x1 x3 w.to_upper.places (places-trans x1 x2 x3 w.to_lower.places w.to_leaf.places)

  pub inserted-placed : IsPlaced x0 → StandsAt x0 entry.slot (page % 32) → IsPlaced x4
  inserted-placed placed at =
      placed-entry x3 x4 w.leaf is_leaf.0 (page % 32) entry is_leaf.1 sets
      (placed-next x0 x3 placed places3) (places3 entry.slot (page % 32) at)

  place_before : get_or is_leaf.1 (page % 32) None ≡ look 3 x0 (Some root) page
  place_before =
      sym (ap (λ o. entry_in o (page % 32)) is_leaf.2)
      ∙ sym (ap (λ (o : Option ℕ). look 0 x3 o page) w.to_leaf.child_is)
      ∙ sym (ap (λ (o : Option ℕ). look 1 x3 o page) child_upper)
      ∙ sym (ap (λ (o : Option ℕ). look 2 x3 o page) child_root)
      ∙ looks3 3 root page root_live

  pub inserted-shared : (counts' hands' loose' : ℕ → ℕ) → IsShared x3 counts' hands' (λ slot. loose' slot + uses slot (Some entry))
      → IsShared x4 counts' hands' (λ slot. loose' slot + uses slot (look 3 x0 (Some root) page))
  inserted-shared counts' hands' loose' t =
      let done = shared-entry x3 x4 counts' hands' loose' w.leaf is_leaf.0 (page % 32) entry is_leaf.1 t sets in
      subst (λ (o : Option Entry). IsShared x4 counts' hands' (λ slot. loose' slot + uses slot o)) place_before done
