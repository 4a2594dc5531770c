-- An entry comes to a page of one map, and no other map changes.
use Rattle.std.proofs.Common.{◌≡◌, ◌≢◌, inl, inr, ℕ, ◌+◌, ◌^◌, ◌<◌, ◌≤◌, List, length, set, Option, Some, is_some, count_by, cond, eqb, refl, sym, ap, subst, ◌∙◌, arith}
use Rattle.std.proofs.lemmas.Bool.{cases_eq, cases_lt}
use Rattle.page_delta.specs.Totals.{total}
use Rattle.page_delta.specs.Delta.{Pages, find}
use Rattle.page_delta.specs.Nodes.{node_at, count_in, level_in, look, pages_below}
use Rattle.page_delta.specs.Shared.{IsShared, IsPlaced, KeepsLevels, Differs}
use Rattle.page_delta.specs.Roots.{root_at, map_below, roots, AreSound}
use Rattle.page_delta.specs.declared.entry.Entry.{Entry}
use Rattle.page_delta.specs.declared.node.Node.{Node}
use Rattle.page_delta.specs.declared.roots.Root.{Root}
use Rattle.page_delta.proofs.Sums.{total-two}
use Rattle.page_delta.proofs.Sharing.{cases-option, one, one-same}
use Rattle.page_delta.proofs.Looks.{digits}
use Rattle.page_delta.proofs.Rooted.{kept-live, pages-same, shared-self, replaced-here, replaced-there, replaced-total, replaced-len}
use Rattle.page_delta.proofs.RootCopies.{same-root}
use Rattle.page_delta.proofs.Lookups.{find-below, find-past, length-below, one_of}
use Rattle.format_spec.proofs.Lists.{cases_eqb}

-- a root that is counted once is the root of one id
pub alone : (xs : List (Option Node)) (ids : List (Option Root)) (id other : ℕ) (root root' : Root) → AreSound xs ids → root_at ids id ≡ Some root → root_at ids other ≡ Some root' → count_in (node_at xs root.node) ≡ 1 → other ≢ id → root'.node ≢ root.node
alone xs ids id other root root' k is is' once ne e =
    let count = k.shared.counted root.node in
    let two = total-two (roots root.node) refl ids other id ne in
    let a : roots root.node (root_at ids other) ≡ one root'.node root.node = ap (roots root.node) is' in
    let b : roots root.node (root_at ids id) ≡ one root.node root.node = ap (roots root.node) is in
    let a_is = one-same root'.node root.node (sym e) in
    let b_is = one-same root.node root.node refl in
    omega arith

module _ (xs ys : List (Option Node)) (ids : List (Option Root)) (id page : ℕ) (root : Root) (entry : Entry) (k : AreSound xs ids) (is : root_at ids id ≡ Some root)
    (once : count_in (node_at xs root.node) ≡ 1) (d : Differs 3 xs ys root.node page entry) (levels : KeepsLevels xs ys) (low : page < 2 ^ 20) where
  look_page : look 3 ys (Some root.node) page ≡ Some entry
  look_page = d.there page (refl, (refl, (refl, refl)))

  look_other : (q : ℕ) → q < 2 ^ 20 → q ≢ page → look 3 ys (Some root.node) q ≡ look 3 xs (Some root.node) q
  look_other q small ne = d.apart q (λ agrees. ne (sym (digits page q low small agrees)))

  pub put-found : (q : ℕ) → find q (pages_below ys root.node) ≡ cond (eqb q page) (Some entry) (find q (pages_below xs root.node))
  put-found q = elim (cases_eqb q page) [
    | inl h ↦ rw h.1 (ap (λ i. find i (pages_below ys root.node)) h.0 ∙ find-below ys root.node page low ∙ look_page)
    | inr h ↦ rw h.1 (elim (cases_lt q (2 ^ 20)) [
      | inl small ↦ find-below ys root.node q small ∙ look_other q small h.0 ∙ sym (find-below xs root.node q small)
      | inr large ↦ find-past ys root.node q (omega arith) ∙ sym (find-past xs root.node q (omega arith))
    ])
  ]

  pub put-length : length (pages_below ys root.node) + one_of (look 3 xs (Some root.node) page) ≡ length (pages_below xs root.node) + 1
  put-length =
      let len = length-below xs ys root.node page low look_other in
      let one_is : one_of (look 3 ys (Some root.node) page) ≡ 1 = ap one_of look_page in
      omega arith

  pub put-other : (other : ℕ) (root' : Root) → other ≢ id → root_at ids other ≡ Some root' → pages_below ys root'.node ≡ pages_below xs root'.node
  put-other other root' ne is' =
      pages-same xs ys root'.node root'.node (λ q. d.others root'.node q (k.tops other root' is') (kept-live xs ids other root' k is') (alone xs ids id other root root' k is is' once ne))

  level_of : (other : ℕ) (root' : Root) → root_at ids other ≡ Some root' → level_in (node_at ys root'.node) ≡ 3
  level_of other root' is' = (levels root'.node (kept-live xs ids other root' k is')).1 ∙ k.tops other root' is'

  module _ (pages : ℕ) (size : pages ≡ length (pages_below ys root.node)) where
    abbrev pub placed : List (Option Root)
    placed = set ids id (Some (record { node = root.node; pages = pages }))

    fields : (other : ℕ) (root' : Root) → root_at placed other ≡ Some root' → (level_in (node_at ys root'.node) ≡ 3) × (root'.pages ≡ length (pages_below ys root'.node))
    fields other root' e = elim (cases_eq other id) [
      | inl same ↦
          let now : Root = record { node = root.node; pages = pages } in
          let eq : now ≡ root' = same-root now root' (root_at placed other) (ap (λ i. root_at placed i) same ∙ replaced-here ids id root now is) e in
          subst (λ (r : Root). (level_in (node_at ys r.node) ≡ 3) × (r.pages ≡ length (pages_below ys r.node))) eq (level_of id root is, size)
      | inr ne ↦
          let old : root_at ids other ≡ Some root' = sym (replaced-there ids id root (record { node = root.node; pages = pages }) is other ne) ∙ e in
          (level_of other root' old, k.sizes other root' old ∙ ap (λ (p : Pages). length p) (sym (put-other other root' ne old)))
    ]

    pub kept-placed : (counts loose : ℕ → ℕ) → IsShared ys counts (λ key. total (roots key) ids) loose → IsPlaced ys → count_by is_some ys ≤ 2 ^ 26 → AreSound ys (set ids id (Some (record { node = root.node; pages = pages })))
    kept-placed counts loose s one_place few = record {
      shared = (
          let self = shared-self ys counts (λ key. total (roots key) ids) loose s in
          record {
            steps = self.steps;
            tall = self.tall;
            wide = self.wide;
            flat = self.flat;
            alive = self.alive;
            counted = λ m. let t = replaced-total ids id root (record { node = root.node; pages = pages }) is m in let c = self.counted m in omega arith;
            held = self.held;
          });
      placed = one_place;
      tops = λ other root' e. (fields other root' e).0;
      sizes = λ other root' e. (fields other root' e).1;
      few_nodes = few;
      few_ids = (let len = replaced-len ids id root (record { node = root.node; pages = pages }) is in omega (arith, k.few_ids));
    }

    pub map-placed : (other : ℕ) → other ≢ id → map_below ys (root_at (set ids id (Some (record { node = root.node; pages = pages }))) other) ≡ map_below xs (root_at ids other)
    map-placed other ne =
        ap (map_below ys) (replaced-there ids id root (record { node = root.node; pages = pages }) is other ne) ∙ elim (cases-option (root_at ids other)) [
          | inl gone ↦ ap (map_below ys) gone ∙ sym (ap (map_below xs) gone)
          | inr here ↦ ap (map_below ys) here.1 ∙ ap (λ (p : Pages). Some p) (put-other other here.0 ne here.1) ∙ sym (ap (map_below xs) here.1)
        ]
