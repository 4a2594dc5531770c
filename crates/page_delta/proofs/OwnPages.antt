-- A page whose slot no other page has stands in nodes that are counted once.
use Rattle.std.proofs.Common.{◌≡◌, ◌≢◌, inl, inr, ℕ, zero, suc, ◌/◌, ◌%◌, ◌^◌, ◌<◌, ◌≤◌, List, [], ◌∷◌, length, get_or, Option, Some, None, IsSome, refl, sym, ap, subst, ◌∙◌, arith}
use Rattle.std.proofs.lemmas.Bool.{cases_eq, cases_lt}
use Rattle.page_pool.specs.Pool.{Pool, count_at}
use Rattle.page_delta.specs.Totals.{total}
use Rattle.page_delta.specs.Delta.{Pages, find, pages_in, pages_of, Deltas, IsOwn, Holds}
use Rattle.page_delta.specs.Nodes.{node_at, child_in, entry_in, count_in, level_in, width, names, once as one_child, look}
use Rattle.page_delta.specs.Shared.{slots_in}
use Rattle.page_delta.specs.Roots.{root_at, map_below, roots, AreSound, IsHeld, IsOwnPlace}
use Rattle.page_delta.specs.declared.entry.Entry.{Entry}
use Rattle.page_delta.specs.declared.node.Node.{Node}
use Rattle.page_delta.specs.declared.node.Node.TheVariants.{Branch, Leaf}
use Rattle.page_delta.specs.declared.roots.Root.{Root}
use Rattle.page_delta.proofs.Sums.{total-place, total-none, total-has}
use Rattle.page_delta.proofs.Sharing.{some-none, cases-option, one-same, one-other, named}
use Rattle.page_delta.proofs.Copies.{entry-used}
use Rattle.page_delta.proofs.Inserting.{high-live}
use Rattle.page_delta.proofs.Lookups.{find-below}
use Rattle.page_delta.proofs.Places.{once-placed}
use Rattle.page_delta.proofs.Reached.{within, place-names, place-roots, node-names, node-uses, spell, parent, top, looked}
use Rattle.page_delta.proofs.Rooted.{kept-live}
use Rattle.page_delta.proofs.Seen.{seen, map-seen, held-seen}
use Rattle.std.proofs.lemmas.Option.{same_Some}

-- what counts more than one place does, has another place that counts
other-place : {X : Type 0} (w : Option X → ℕ) → w None ≡ 0 → (xs : List (Option X)) (key : ℕ) → w (get_or xs key None) < total w xs
    → (k : ℕ) × (k ≢ key) × (0 < w (get_or xs k None))
other-place w none [] key more = absurd (omega arith)
other-place w none (x ∷ xs) zero more = let at = total-place w none xs (omega arith) in (suc at.0, (λ e. omega arith), at.1)
other-place w none (x ∷ xs) (suc key) more = elim (cases_eq (w x) 0) [
  | inl z ↦ let at = other-place w none xs key (omega arith) in (suc at.0, (λ e. at.1 (omega arith)), at.2)
  | inr pos ↦ (0, (λ e. omega arith), omega arith)
]

once-self : (key : ℕ) (o : Option ℕ) → o ≡ Some key → one_child key o ≡ 1
once-self key o is = ap (one_child key) is ∙ one-same key key refl

-- a node that is named at one place, and more than once, is named at another
record Again (nodes : List (Option Node)) (key parent digit : ℕ) : Type 0 where
  pub node : ℕ
  pub at : ℕ
  pub low : at < 32
  pub child : child_in (node_at nodes node) at ≡ Some key
  pub other : node ≡ parent → at ≡ digit → ⊥

again : (nodes : List (Option Node)) (key p d : ℕ) → ((k : ℕ) (node : Node) → node_at nodes k ≡ Some node → width node ≡ 32)
    → child_in (node_at nodes p) d ≡ Some key → 1 < total (names key) nodes → Again nodes key p d
again nodes key p d wide is many = elim (cases_lt (names key (node_at nodes p)) (total (names key) nodes)) [
  | inl less ↦
      let at = other-place (names key) refl nodes p less in
      let named = node-names key (node_at nodes at.0) (wide at.0) at.2 in
      record { node = at.0; at = named.digit; low = named.low; child = named.child; other = λ same here. at.1 same }
  | inr all ↦
      let two = second-digit (node_at nodes p) (wide p) is (omega arith) in
      record { node = p; at = two.0; low = two.1; child = two.2; other = λ same here. two.3 here }
]
  where
    second-digit : (o : Option Node) → ((node : Node) → o ≡ Some node → width node ≡ 32) → child_in o d ≡ Some key → 1 < names key o
        → (e : ℕ) × (e < 32) × (child_in o e ≡ Some key) × (e ≢ d)
    second-digit None broad here two = absurd (omega arith)
    second-digit (Some (Branch c l kids)) broad here two =
        let one_is = once-self key (get_or kids d None) here in
        let at = other-place (one_child key) refl kids d (omega arith) in
        let name = place-names key (get_or kids at.0 None) at.2 in
        let low = within kids at.0 key name in
        let long : length kids ≡ 32 = broad (Branch c l kids) refl in
        (at.0, omega arith, name, at.1)
    second-digit (Some (Leaf c es)) broad here two = absurd (omega arith)

-- the nodes on the way to a page
pub record Steps (nodes : List (Option Node)) (root page : ℕ) (entry : Entry) : Type 0 where
  pub upper : ℕ
  pub lower : ℕ
  pub leaf : ℕ
  pub upper_is : child_in (node_at nodes root) ((page / 32768) % 32) ≡ Some upper
  pub lower_is : child_in (node_at nodes upper) ((page / 1024) % 32) ≡ Some lower
  pub leaf_is : child_in (node_at nodes lower) ((page / 32) % 32) ≡ Some leaf
  pub entry_is : entry_in (node_at nodes leaf) (page % 32) ≡ Some entry

look-child : (level : ℕ) (nodes : List (Option Node)) (o : Option ℕ) (page : ℕ) (e : Entry) → look level nodes o page ≡ Some e
    → (t : ℕ) × (o ≡ Some t) × (look level nodes (Some t) page ≡ Some e)
look-child level nodes None page e is = absurd (some-none e (sym is))
look-child level nodes (Some t) page e is = (t, refl, is)

steps : (nodes : List (Option Node)) (root page : ℕ) (e : Entry) → look 3 nodes (Some root) page ≡ Some e → Steps nodes root page e
steps nodes root page e is =
    let a = look-child 2 nodes (child_in (node_at nodes root) ((page / 32768) % 32)) page e is in
    let b = look-child 1 nodes (child_in (node_at nodes a.0) ((page / 1024) % 32)) page e a.2 in
    let c = look-child 0 nodes (child_in (node_at nodes b.0) ((page / 32) % 32)) page e b.2 in
    record {
      upper = a.0;
      lower = b.0;
      leaf = c.0;
      upper_is = a.1;
      lower_is = b.1;
      leaf_is = c.1;
      entry_is = c.2;
    }

module _ (nodes : List (Option Node)) (ids : List (Option Root)) (pool : Pool) (k : AreSound nodes ids) (h : IsHeld nodes pool (λ s. 0))
    (id page : ℕ) (low : page < 2 ^ 20) (o : IsOwn (seen nodes ids) id page) where
  at-seen : (i q : ℕ) → find q (pages_of (seen nodes ids) i) ≡ find q (pages_in (map_below nodes (root_at ids i)))
  at-seen i q = ap (λ (m : Option Pages). find q (pages_in m)) (map-seen nodes ids i)

  pub rooted : (r : Root) × (root_at ids id ≡ Some r)
  rooted = elim (cases-option (root_at ids id)) [
    | inl none ↦ absurd
        (some-none o.entry (sym o.found ∙ at-seen id page ∙ ap (λ (r : Option Root). find page (pages_in (map_below nodes r))) none))
    | inr some ↦ some
  ]

  abbrev pub root : ℕ
  root = rooted.0.node

  pub way : Steps nodes root page o.entry
  way =
      steps nodes root page o.entry (sym (find-below nodes root page low)
      ∙ sym (at-seen id page ∙ ap (λ (r : Option Root). find page (pages_in (map_below nodes r))) rooted.1) ∙ o.found)

  -- a way from a node of level 3 to an entry with the slot
  record Way : Type 0 where
    pub top : ℕ
    pub upper : ℕ
    pub lower : ℕ
    pub leaf : ℕ
    pub d3 : ℕ
    pub d2 : ℕ
    pub d1 : ℕ
    pub d0 : ℕ
    pub entry : Entry
    pub low3 : d3 < 32
    pub low2 : d2 < 32
    pub low1 : d1 < 32
    pub low0 : d0 < 32
    pub upper_is : child_in (node_at nodes top) d3 ≡ Some upper
    pub lower_is : child_in (node_at nodes upper) d2 ≡ Some lower
    pub leaf_is : child_in (node_at nodes lower) d1 ≡ Some leaf
    pub entry_is : entry_in (node_at nodes leaf) d0 ≡ Some entry
    pub slot_is : entry.slot ≡ o.entry.slot

  -- each root that begins such a way is that of the map, and its page is this one
  from-root : (w : Way) (other : ℕ) (r : Root) → root_at ids other ≡ Some r → r.node ≡ w.top
      → (other ≡ id) × (spell w.d3 w.d2 w.d1 w.d0 ≡ page)
  unfolding spell
  from-root w other r is at =
      let q = spell w.d3 w.d2 w.d1 w.d0 in
      let a = w.low3 in let b = w.low2 in let c = w.low1 in let d = w.low0 in
      let small : q < 2 ^ 20 = omega arith in
      let found = looked nodes ids k w.leaf w.lower w.upper w.top w.d0 w.d1 w.d2 w.d3 w.entry d c b a w.entry_is w.leaf_is w.lower_is
      w.upper_is in
      o.only other q w.entry
      (at-seen other q ∙ ap (λ (r : Option Root). find q (pages_in (map_below nodes r))) is ∙ find-below nodes r.node q small
      ∙ ap (λ n. look 3 nodes (Some n) q) at ∙ found) w.slot_is

  -- a way is the one to the page
  record Same (w : Way) : Type 0 where
    pub top : w.top ≡ root
    pub d3 : w.d3 ≡ (page / 32768) % 32
    pub upper : w.upper ≡ way.upper
    pub d2 : w.d2 ≡ (page / 1024) % 32
    pub lower : w.lower ≡ way.lower
    pub d1 : w.d1 ≡ (page / 32) % 32
    pub leaf : w.leaf ≡ way.leaf

  same-child : (p q d e a b : ℕ) → child_in (node_at nodes p) d ≡ Some a → child_in (node_at nodes q) e ≡ Some b → p ≡ q → d ≡ e → a ≡ b
  same-child p q d e a b is at same digit =
      same_Some a b (sym is ∙ ap (λ i. child_in (node_at nodes i) d) same ∙ ap (λ i. child_in (node_at nodes q) i) digit ∙ at)

  same-way : (w : Way) → level_in (node_at nodes w.top) ≡ 3 → Same w
  unfolding spell
  same-way w high =
      let r = top nodes ids k w.top (high-live (node_at nodes w.top) (omega arith)) high in
      let from = from-root w r.0 r.1 r.2 r.3 in
      let a = w.low3 in let b = w.low2 in let c = w.low1 in let d = w.low0 in
      let e = from.1 in
      let mine : r.1 ≡ rooted.0 = same_Some r.1 rooted.0 (sym r.2 ∙ ap (λ i. root_at ids i) from.0 ∙ rooted.1) in
      let top_is : w.top ≡ root = sym r.3 ∙ ap (λ (i : Root). i.node) mine in
      let e3 : w.d3 ≡ (page / 32768) % 32 = omega arith in
      let e2 : w.d2 ≡ (page / 1024) % 32 = omega arith in
      let e1 : w.d1 ≡ (page / 32) % 32 = omega arith in
      let upper_is = same-child w.top root w.d3 ((page / 32768) % 32) w.upper way.upper w.upper_is way.upper_is top_is e3 in
      let lower_is = same-child w.upper way.upper w.d2 ((page / 1024) % 32) w.lower way.lower w.lower_is way.lower_is upper_is e2 in
      let leaf_is = same-child w.lower way.lower w.d1 ((page / 32) % 32) w.leaf way.leaf w.leaf_is way.leaf_is lower_is e1 in
      record {
        top = top_is;
        d3 = e3;
        upper = upper_is;
        d2 = e2;
        lower = lower_is;
        d1 = e1;
        leaf = leaf_is;
      }

  top_level : level_in (node_at nodes root) ≡ 3
  top_level = k.tops id rooted.0 rooted.1

  upper_level : level_in (node_at nodes way.upper) ≡ 2
  upper_level = let t = top_level in let s = k.shared.steps root ((page / 32768) % 32) way.upper way.upper_is in omega arith

  lower_level : level_in (node_at nodes way.lower) ≡ 1
  lower_level = let t = upper_level in let s = k.shared.steps way.upper ((page / 1024) % 32) way.lower way.lower_is in omega arith

  leaf_level : level_in (node_at nodes way.leaf) ≡ 0
  leaf_level = let t = lower_level in let s = k.shared.steps way.lower ((page / 32) % 32) way.leaf way.leaf_is in omega arith

  -- no id names a node below a root
  no-root : (key : ℕ) → level_in (node_at nodes key) < 3 → total (roots key) ids ≡ 0
  no-root key below = elim (cases_eq (total (roots key) ids) 0) [
    | inl none ↦ none
    | inr some ↦
        let at = total-place (roots key) refl ids (omega arith) in
        let r = place-roots key (root_at ids at.0) at.1 in
        absurd (let t = k.tops at.0 r.0 r.1 in let e = ap (λ n. level_in (node_at nodes n)) r.2 in omega arith)
  ]

  -- a node that no other place names is counted once
  named-once : (key p d : ℕ) → level_in (node_at nodes key) < 3 → child_in (node_at nodes p) d ≡ Some key → (Again nodes key p d → ⊥)
      → count_in (node_at nodes key) ≡ 1
  named-once key p d below is none = elim (cases_lt 1 (total (names key) nodes)) [
    | inl many ↦ absurd (none (again nodes key p d k.shared.wide is many))
    | inr few ↦
        let pos = named nodes p d key is in let count = k.shared.counted key in let z = no-root key below in omega arith
  ]

  higher : (key : ℕ) (n : ℕ) → level_in (node_at nodes key) ≡ suc n → IsSome (node_at nodes key)
  higher key n is = high-live (node_at nodes key) (omega arith)

  own_upper : count_in (node_at nodes way.upper) ≡ 1
  own_upper = named-once way.upper root ((page / 32768) % 32) (let l = upper_level in omega arith) way.upper_is (λ a.
      let l = upper_level in
      let step = k.shared.steps a.node a.at way.upper a.child in
      let s = same-way (record {
        top = a.node;
        upper = way.upper;
        lower = way.lower;
        leaf = way.leaf;
        d3 = a.at;
        d2 = (page / 1024) % 32;
        d1 = (page / 32) % 32;
        d0 = page % 32;
        entry = o.entry;
        low3 = a.low;
        low2 = omega arith;
        low1 = omega arith;
        low0 = omega arith;
        upper_is = a.child;
        lower_is = way.lower_is;
        leaf_is = way.leaf_is;
        entry_is = way.entry_is;
        slot_is = refl;
      }) (omega arith) in
      a.other s.top s.d3)

  own_lower : count_in (node_at nodes way.lower) ≡ 1
  own_lower = named-once way.lower way.upper ((page / 1024) % 32) (let l = lower_level in omega arith) way.lower_is (λ a.
      let l = lower_level in
      let step = k.shared.steps a.node a.at way.lower a.child in
      let p = parent nodes ids k a.node (higher a.node 1 (omega arith)) (omega arith) in
      let up = p.level in
      let s = same-way (record {
        top = p.node;
        upper = a.node;
        lower = way.lower;
        leaf = way.leaf;
        d3 = p.named.digit;
        d2 = a.at;
        d1 = (page / 32) % 32;
        d0 = page % 32;
        entry = o.entry;
        low3 = p.named.low;
        low2 = a.low;
        low1 = omega arith;
        low0 = omega arith;
        upper_is = p.named.child;
        lower_is = a.child;
        leaf_is = way.leaf_is;
        entry_is = way.entry_is;
        slot_is = refl;
      }) (omega arith) in
      a.other s.upper s.d2)

  own_leaf : count_in (node_at nodes way.leaf) ≡ 1
  own_leaf = named-once way.leaf way.lower ((page / 32) % 32) (let l = leaf_level in omega arith) way.leaf_is (λ a.
      let l = leaf_level in
      let step = k.shared.steps a.node a.at way.leaf a.child in
      let p = parent nodes ids k a.node (higher a.node 0 (omega arith)) (omega arith) in
      let up = p.level in
      let g = parent nodes ids k p.node (higher p.node 1 (omega arith)) (omega arith) in
      let high = g.level in
      let s = same-way (record {
        top = g.node;
        upper = p.node;
        lower = a.node;
        leaf = way.leaf;
        d3 = g.named.digit;
        d2 = p.named.digit;
        d1 = a.at;
        d0 = page % 32;
        entry = o.entry;
        low3 = g.named.low;
        low2 = p.named.low;
        low1 = a.low;
        low0 = omega arith;
        upper_is = g.named.child;
        lower_is = p.named.child;
        leaf_is = a.child;
        entry_is = way.entry_is;
        slot_is = refl;
      }) (omega arith) in
      a.other s.lower s.d1)

  roots-le : (r : Option Root) → roots root r ≤ 1
  roots-le None = omega arith
  roots-le (Some r) = elim (cases_eq r.node root) [
    | inl e ↦ let is = one-same r.node root (sym e) in omega arith
    | inr ne ↦ let is = one-other r.node root (λ e. ne (sym e)) in omega arith
  ]

  own_root : count_in (node_at nodes root) ≡ 1
  own_root =
      let t = top_level in
      let none : total (names root) nodes ≡ 0 = total-none (names root) refl nodes (λ p. elim (cases_eq (names root (node_at nodes p)) 0) [
        | inl z ↦ z
        | inr some ↦ absurd (let n = node-names root (node_at nodes p) (k.shared.wide p) (omega arith) in
            let s = k.shared.steps p n.digit root n.child in let f = k.shared.flat p in omega arith)
      ]) in
      let count = k.shared.counted root in
      let pos = k.shared.alive root (kept-live nodes ids id rooted.0 k rooted.1) in
      elim (cases_lt 1 (total (roots root) ids)) [
        | inr few ↦ omega arith
        | inl many ↦ absurd (
            let le = roots-le (root_at ids id) in
            let at = other-place (roots root) refl ids id (omega arith) in
            let r = place-roots root (root_at ids at.0) at.2 in
            at.1 (from-root (record {
              top = root;
              upper = way.upper;
              lower = way.lower;
              leaf = way.leaf;
              d3 = (page / 32768) % 32;
              d2 = (page / 1024) % 32;
              d1 = (page / 32) % 32;
              d0 = page % 32;
              entry = o.entry;
              low3 = omega arith;
              low2 = omega arith;
              low1 = omega arith;
              low0 = omega arith;
              upper_is = way.upper_is;
              lower_is = way.lower_is;
              leaf_is = way.leaf_is;
              entry_is = way.entry_is;
              slot_is = refl;
            }) at.0 r.0 r.1 r.2).0)
      ]

  once : count_at pool o.entry.slot ≡ 1
  once =
      let used = entry-used (node_at nodes way.leaf) (page % 32) o.entry way.entry_is in
      let le = once-placed nodes k.placed o.entry.slot way.leaf in
      let has = total-has (slots_in o.entry.slot) refl nodes way.leaf in
      let count = h.counts o.entry.slot in
      elim (cases_lt 1 (total (slots_in o.entry.slot) nodes)) [
        | inr few ↦ omega arith
        | inl many ↦ absurd (
            let at = other-place (slots_in o.entry.slot) refl nodes way.leaf (omega arith) in
            let u = node-uses o.entry.slot (node_at nodes at.0) (k.shared.wide at.0) at.2 in
            let l = u.level in
            let p1 = parent nodes ids k at.0 u.live (omega arith) in
            let l1 = p1.level in
            let p2 = parent nodes ids k p1.node (higher p1.node 0 (omega arith)) (omega arith) in
            let l2 = p2.level in
            let p3 = parent nodes ids k p2.node (higher p2.node 1 (omega arith)) (omega arith) in
            let l3 = p3.level in
            let s = same-way (record {
              top = p3.node;
              upper = p2.node;
              lower = p1.node;
              leaf = at.0;
              d3 = p3.named.digit;
              d2 = p2.named.digit;
              d1 = p1.named.digit;
              d0 = u.digit;
              entry = u.entry;
              low3 = p3.named.low;
              low2 = p2.named.low;
              low1 = p1.named.low;
              low0 = u.low;
              upper_is = p3.named.child;
              lower_is = p2.named.child;
              leaf_is = p1.named.child;
              entry_is = u.place;
              slot_is = u.is;
            }) (omega arith) in
            at.1 s.leaf)
      ]

  pub own-place : IsOwnPlace nodes ids pool id page way.leaf o.entry.slot
  own-place = record {
    root = rooted.0;
    root_is = rooted.1;
    leaf_is = record {
      upper = way.upper;
      lower = way.lower;
      upper_is = way.upper_is;
      lower_is = way.lower_is;
      leaf_is = way.leaf_is;
      own_root = own_root;
      own_upper = own_upper;
      own_lower = own_lower;
      own_leaf = own_leaf;
    };
    entry = o.entry;
    entry_is = way.entry_is;
    slot_is = refl;
    once = once;
  }

-- the place of a page that is the map's own, by what a contract sees
pub own-found : (nodes : List (Option Node)) (ids : List (Option Root)) (pool : Pool) (deltas : Deltas) (key id page : ℕ)
    → seen nodes ids ≡ deltas → key ≡ id
    → AreSound nodes ids → Holds pool deltas → page < 2 ^ 20 → IsOwn deltas id page
    → (leaf : ℕ) × (slot : ℕ) × IsOwnPlace nodes ids pool key page leaf slot
own-found nodes ids pool deltas key id page is same k h low o =
    let h0 = held-seen nodes ids pool (subst (λ d. Holds pool d) (sym is) h) in
    let mine = subst (λ d. IsOwn d key page) (sym is) (subst (λ i. IsOwn deltas i page) (sym same) o) in
    ((way nodes ids pool k h0 key page low mine).leaf, mine.entry.slot, own-place nodes ids pool k h0 key page low mine)
