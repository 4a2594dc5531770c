-- What a leaf has, some map has.
use Rattle.std.proofs.Common.{◌≡◌, ◌≢◌, inl, inr, ℕ, zero, suc, ◌+◌, ◌*◌, ◌/◌, ◌%◌, ◌^◌, ◌<◌, List, [], ◌∷◌, length, get_or, Option, Some, None, IsSome, is_some, count_by, refl, sym, ap, ◌∙◌, arith}
use Rattle.std.proofs.lemmas.Bool.{cases_eq}
use Rattle.page_delta.specs.Totals.{total}
use Rattle.page_delta.specs.Delta.{find, pages_in, uses}
use Rattle.page_delta.specs.Nodes.{node_at, child_in, entry_in, count_in, level_in, width, once, names, look}
use Rattle.page_delta.specs.Shared.{slots_in}
use Rattle.page_delta.specs.Roots.{root_at, map_below, roots, AreSound}
use Rattle.page_delta.specs.declared.entry.Entry.{Entry}
use Rattle.page_delta.specs.declared.node.Node.{Node}
use Rattle.page_delta.specs.declared.node.Node.TheVariants.{Branch, Leaf}
use Rattle.page_delta.specs.declared.roots.Root.{Root}
use Rattle.page_delta.proofs.Sums.{total-place, total-none, total-present, present}
use Rattle.page_delta.proofs.Sharing.{some-none, cases-option, some-live, one-other}
use Rattle.page_delta.proofs.Inserting.{high-live}
use Rattle.page_delta.proofs.Lookups.{find-below}

-- what a place is, that counts
place-uses : (slot : ℕ) (o : Option Entry) → 0 < uses slot o → (e : Entry) × (o ≡ Some e) × (e.slot ≡ slot)
place-uses slot None some = absurd (omega arith)
place-uses slot (Some e) some = elim (cases_eq slot e.slot) [
  | inl same ↦ (e, refl, sym same)
  | inr ne ↦ absurd (let none : uses slot (Some e) ≡ 0 = one-other e.slot slot ne in omega arith)
]

pub place-names : (key : ℕ) (o : Option ℕ) → 0 < once key o → o ≡ Some key
place-names key None some = absurd (omega arith)
place-names key (Some child) some = elim (cases_eq key child) [
  | inl same ↦ ap (λ (k : ℕ). Some k) (sym same)
  | inr ne ↦ absurd (let none : once key (Some child) ≡ 0 = one-other child key ne in omega arith)
]

pub place-roots : (key : ℕ) (o : Option Root) → 0 < roots key o → (r : Root) × (o ≡ Some r) × (r.node ≡ key)
place-roots key None some = absurd (omega arith)
place-roots key (Some r) some = elim (cases_eq key r.node) [
  | inl same ↦ (r, refl, sym same)
  | inr ne ↦ absurd (let none : roots key (Some r) ≡ 0 = one-other r.node key ne in omega arith)
]

pub within : {X : Type 0} (xs : List (Option X)) (k : ℕ) (x : X) → get_or xs k None ≡ Some x → k < length xs
within [] k x is = absurd (some-none x (sym is))
within (y ∷ ys) zero x is = omega arith
within (y ∷ ys) (suc k) x is = let rest = within ys k x is in omega arith

pub record Named (o : Option Node) (key : ℕ) : Type 0 where
  pub digit : ℕ
  pub low : digit < 32
  pub child : child_in o digit ≡ Some key

pub node-names : (key : ℕ) (o : Option Node) → ((node : Node) → o ≡ Some node → width node ≡ 32) → 0 < names key o → Named o key
node-names key None wide some = absurd (omega arith)
node-names key (Some (Branch count level kids)) wide some =
    let at = total-place (once key) refl kids some in
    let is = place-names key (get_or kids at.0 None) at.1 in
    let broad : length kids ≡ 32 = wide (Branch count level kids) refl in
    let low = within kids at.0 key is in
    record { digit = at.0; low = omega arith; child = is }
node-names key (Some (Leaf count es)) wide some = absurd (omega arith)

pub record Used (o : Option Node) (slot : ℕ) : Type 0 where
  pub digit : ℕ
  pub entry : Entry
  pub low : digit < 32
  pub place : entry_in o digit ≡ Some entry
  pub is : entry.slot ≡ slot
  pub live : IsSome o
  pub level : level_in o ≡ 0

pub node-uses : (slot : ℕ) (o : Option Node) → ((node : Node) → o ≡ Some node → width node ≡ 32) → 0 < slots_in slot o → Used o slot
node-uses slot None wide some = absurd (omega arith)
node-uses slot (Some (Branch count level kids)) wide some = absurd (omega arith)
node-uses slot (Some (Leaf count es)) wide some =
    let at = total-place (uses slot) refl es some in
    let has = place-uses slot (get_or es at.0 None) at.1 in
    let broad : length es ≡ 32 = wide (Leaf count es) refl in
    let low = within es at.0 has.0 has.1 in
    record {
      digit = at.0;
      entry = has.0;
      low = omega arith;
      place = has.1;
      is = has.2;
      live = refl;
      level = refl;
    }

-- the page with these digits
unfoldable pub spell : ℕ → ℕ → ℕ → ℕ → ℕ
spell d3 d2 d1 d0 = d3 * 32768 + d2 * 1024 + d1 * 32 + d0

module _ (nodes : List (Option Node)) (ids : List (Option Root)) (k : AreSound nodes ids) where
  pub record Parent (key : ℕ) : Type 0 where
    pub node : ℕ
    pub named : Named (node_at nodes node) key
    pub level : level_in (node_at nodes node) ≡ level_in (node_at nodes key) + 1

  named-by : (key : ℕ) → IsSome (node_at nodes key) → total (roots key) ids ≡ 0 → Parent key
  named-by key live none =
      let alive = k.shared.alive key live in
      let counted : count_in (node_at nodes key) ≡ total (roots key) ids + total (names key) nodes = k.shared.counted key in
      let at = total-place (names key) refl nodes (omega arith) in
      let named = node-names key (node_at nodes at.0) (k.shared.wide at.0) at.1 in
      record { node = at.0; named = named; level = k.shared.steps at.0 named.digit key named.child }

  rooted : (key : ℕ) → total (roots key) ids ≢ 0 → (id : ℕ) × (r : Root) × (root_at ids id ≡ Some r) × (r.node ≡ key)
  rooted key some =
      let at = total-place (roots key) refl ids (omega arith) in
      let root = place-roots key (root_at ids at.0) at.1 in
      (at.0, root.0, root.1, root.2)

  pub parent : (key : ℕ) → IsSome (node_at nodes key) → level_in (node_at nodes key) < 3 → Parent key
  parent key live low = elim (cases_eq (total (roots key) ids) 0) [
    | inl none ↦ named-by key live none
    | inr some ↦ absurd (let r = rooted key some in
        let top = k.tops r.0 r.1 r.2 in
        let same = ap (λ n. level_in (node_at nodes n)) r.3 in
        omega arith)
  ]

  pub top : (key : ℕ) → IsSome (node_at nodes key) → level_in (node_at nodes key) ≡ 3 → (id : ℕ) × (r : Root) × (root_at ids id ≡ Some r) × (r.node ≡ key)
  top key live high = elim (cases_eq (total (roots key) ids) 0) [
    | inl none ↦ absurd (let p = named-by key live none in
        let above = p.level in
        let flat = k.shared.flat p.node in
        omega arith)
    | inr some ↦ rooted key some
  ]

  pub looked : (n0 n1 n2 n3 d0 d1 d2 d3 : ℕ) (e : Entry) → d0 < 32 → d1 < 32 → d2 < 32 → d3 < 32 → entry_in (node_at nodes n0) d0 ≡ Some e
      → child_in (node_at nodes n1) d1 ≡ Some n0 → child_in (node_at nodes n2) d2 ≡ Some n1 → child_in (node_at nodes n3) d3 ≡ Some n2 → look 3 nodes (Some n3) (spell d3 d2 d1 d0) ≡ Some e
  unfolding spell
  looked n0 n1 n2 n3 d0 d1 d2 d3 e l0 l1 l2 l3 at c1 c2 c3 =
      let e0 : spell d3 d2 d1 d0 % 32 ≡ d0 = omega arith in
      let e1 : spell d3 d2 d1 d0 / 32 % 32 ≡ d1 = omega arith in
      let e2 : spell d3 d2 d1 d0 / 1024 % 32 ≡ d2 = omega arith in
      let e3 : spell d3 d2 d1 d0 / 32768 % 32 ≡ d3 = omega arith in
      let a0 : look 0 nodes (Some n0) (spell d3 d2 d1 d0) ≡ Some e = ap (λ d. entry_in (node_at nodes n0) d) e0 ∙ at in
      let a1 : look 1 nodes (Some n1) (spell d3 d2 d1 d0) ≡ Some e = ap (λ (o : Option ℕ). look 0 nodes o (spell d3 d2 d1 d0)) (ap (λ d. child_in (node_at nodes n1) d) e1 ∙ c1) ∙ a0 in
      let a2 : look 2 nodes (Some n2) (spell d3 d2 d1 d0) ≡ Some e = ap (λ (o : Option ℕ). look 1 nodes o (spell d3 d2 d1 d0)) (ap (λ d. child_in (node_at nodes n2) d) e2 ∙ c2) ∙ a1 in
      ap (λ (o : Option ℕ). look 2 nodes o (spell d3 d2 d1 d0)) (ap (λ d. child_in (node_at nodes n3) d) e3 ∙ c3) ∙ a2

  pub record Reached (slot : ℕ) : Type 0 where
    pub id : ℕ
    pub page : ℕ
    pub entry : Entry
    pub found : find page (pages_in (map_below nodes (root_at ids id))) ≡ Some entry
    pub is : entry.slot ≡ slot

  -- a slot that a leaf uses is at some page of some map
  pub reached : (slot : ℕ) → 0 < total (slots_in slot) nodes → Reached slot
  unfolding spell
  reached slot some =
      let leaf = total-place (slots_in slot) refl nodes some in
      let u = node-uses slot (node_at nodes leaf.0) (k.shared.wide leaf.0) leaf.1 in
      let z = u.level in
      let p1 = parent leaf.0 u.live (omega arith) in
      let z1 = p1.level in
      let p2 = parent p1.node (high-live (node_at nodes p1.node) (omega arith)) (omega arith) in
      let z2 = p2.level in
      let p3 = parent p2.node (high-live (node_at nodes p2.node) (omega arith)) (omega arith) in
      let z3 = p3.level in
      let r = top p3.node (high-live (node_at nodes p3.node) (omega arith)) (omega arith) in
      let l0 = u.low in let l1 = p1.named.low in let l2 = p2.named.low in let l3 = p3.named.low in
      let page = spell p3.named.digit p2.named.digit p1.named.digit u.digit in
      let low : page < 2 ^ 20 = omega arith in
      let at = looked leaf.0 p1.node p2.node p3.node u.digit p1.named.digit p2.named.digit p3.named.digit u.entry l0 l1 l2 l3 u.place p1.named.child p2.named.child p3.named.child in
      record {
        id = r.0;
        page = page;
        entry = u.entry;
        found =
            ap (λ (o : Option Root). find page (pages_in (map_below nodes o))) r.2
            ∙ find-below nodes r.1.node page low
            ∙ ap (λ n. look 3 nodes (Some n) page) r.3 ∙ at;
        is = u.is;
      }

  -- where no id is live, no node is
  no-node : ((id : ℕ) → root_at ids id ≡ None) → (key : ℕ) → IsSome (node_at nodes key) → ⊥
  no-node none key live =
      let loose : (n : ℕ) → total (roots n) ids ≡ 0 = λ n. total-none (roots n) refl ids (λ id. ap (roots n) (none id)) in
      let p1 = named-by key live (loose key) in
      let z1 = p1.level in
      let p2 = named-by p1.node (high-live (node_at nodes p1.node) (omega arith)) (loose p1.node) in
      let z2 = p2.level in
      let p3 = named-by p2.node (high-live (node_at nodes p2.node) (omega arith)) (loose p2.node) in
      let z3 = p3.level in
      let p4 = named-by p3.node (high-live (node_at nodes p3.node) (omega arith)) (loose p3.node) in
      let z4 = p4.level in
      let flat = k.shared.flat p4.node in
      omega arith

  pub no-nodes : ((id : ℕ) → root_at ids id ≡ None) → count_by is_some nodes ≡ 0
  no-nodes none =
      sym (total-present nodes) ∙ total-none (present 1) refl nodes (λ key. elim (cases-option (node_at nodes key)) [
        | inl gone ↦ ap (present 1) gone
        | inr here ↦ absurd (no-node none key (some-live (node_at nodes key) here.0 here.1))
      ])
