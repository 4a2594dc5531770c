-- What a change of the nodes leaves of the maps.
use Rattle.std.proofs.Common.{◌≡◌, ◌≢◌, inl, inr, ℕ, zero, suc, ◌+◌, ◌^◌, ◌<◌, ◌≤◌, List, [], ◌∷◌, length, set, Option, Some, None, IsSome, is_some, count_by, refl, sym, ap, subst, ◌∙◌, arith}
use Rattle.std.proofs.lemmas.Bool.{cases_eq}
use Rattle.std.proofs.lemmas.List.{get_or-set_same, get_or-set_other}
use Rattle.page_pool.specs.Pool.{Pool, count_at}
use Rattle.page_delta.specs.Totals.{total}
use Rattle.page_delta.specs.Delta.{Pages}
use Rattle.page_delta.specs.Nodes.{node_at, level_in, look, entry_and_rest, pairs_from, pages_below}
use Rattle.page_delta.specs.Shared.{slots_in, IsShared, IsPlaced, IsClosed, IsCounted}
use Rattle.page_delta.specs.Roots.{root_at, map_below, roots, AreSound, IsHeld}
use Rattle.page_delta.specs.declared.entry.Entry.{Entry}
use Rattle.page_delta.specs.declared.node.Node.{Node}
use Rattle.page_delta.specs.declared.roots.Root.{Root}
use Rattle.page_delta.proofs.Sums.{total-moved, present, total-present}
use Rattle.page_delta.proofs.Sharing.{cases-option, some-live, not-some, one, shared-counts}
use Rattle.page_delta.proofs.Looks.{child-live}
use Rattle.page_delta.proofs.Inserting.{high-live}
use Rattle.std.proofs.lemmas.Option.{same_Some}

pub pairs-congr : (n start : ℕ) (f g : ℕ → Option Entry) → ((k : ℕ) → f k ≡ g k) → pairs_from n start f ≡ pairs_from n start g
unfolding pairs_from
pairs-congr zero start f g same = refl
pairs-congr (suc n) start f g same = rw (same start) (ap (entry_and_rest start (g start)) (pairs-congr n (start + 1) f g same))

pub pages-same : (xs ys : List (Option Node)) (a b : ℕ) → ((q : ℕ) → look 3 ys (Some b) q ≡ look 3 xs (Some a) q) → pages_below ys b ≡ pages_below xs a
unfolding pages_below
pages-same xs ys a b same = pairs-congr (2 ^ 20) 0 (look 3 ys (Some b)) (look 3 xs (Some a)) same

-- with the slots that the nodes themselves hold
pub shared-self : (xs : List (Option Node)) (counts hands loose : ℕ → ℕ) → IsShared xs counts hands loose → IsShared xs (λ slot. total (slots_in slot) xs) hands (λ slot. 0)
shared-self xs counts hands loose s = record {
  steps = s.steps;
  tall = s.tall;
  wide = s.wide;
  flat = s.flat;
  alive = s.alive;
  counted = s.counted;
  held = λ slot. omega arith;
}

pub shared-with : (xs : List (Option Node)) (ids : List (Option Root)) (pool : Pool) (loose : ℕ → ℕ) → AreSound xs ids → IsHeld xs pool loose → IsShared xs (count_at pool) (λ key. total (roots key) ids) loose
shared-with xs ids pool loose k h =
    shared-counts xs (λ slot. total (slots_in slot) xs) (count_at pool) (λ key. total (roots key) ids) (λ slot. 0) loose k.shared (λ slot. let c = h.counts slot in omega arith)

pub held-of : (xs : List (Option Node)) (pool : Pool) (hands loose : ℕ → ℕ) → IsShared xs (count_at pool) hands loose → IsCounted pool → IsHeld xs pool loose
held-of xs pool hands loose s counted = record { counts = s.held; counted = counted }

pub kept-closed : (xs : List (Option Node)) (ids : List (Option Root)) → AreSound xs ids → IsClosed xs
kept-closed xs ids k key d child e = child-live xs (λ slot. total (slots_in slot) xs) (λ m. total (roots m) ids) (λ slot. 0) key d child k.shared e

pub kept-live : (xs : List (Option Node)) (ids : List (Option Root)) (id : ℕ) (root : Root) → AreSound xs ids → root_at ids id ≡ Some root → IsSome (node_at xs root.node)
kept-live xs ids id root k e = high-live (node_at xs root.node) (let top = k.tops id root e in omega arith)

-- what an id has after a change of nodes and ids
pub record Follows (xs ys : List (Option Node)) (before now : Root) : Type 0 where
  pub pages : now.pages ≡ before.pages
  pub top : level_in (node_at ys now.node) ≡ 3
  pub looks : (q : ℕ) → look 3 ys (Some now.node) q ≡ look 3 xs (Some before.node) q

pub kept-next : (xs ys : List (Option Node)) (ids ids' : List (Option Root)) (counts loose : ℕ → ℕ) → AreSound xs ids → IsShared ys counts (λ key. total (roots key) ids') loose
    → ((id : ℕ) (now : Root) → root_at ids' id ≡ Some now → (before : Root) × (root_at ids id ≡ Some before) × Follows xs ys before now) → IsPlaced ys → count_by is_some ys ≤ 2 ^ 26 → count_by is_some ids' ≤ 2 ^ 31 → AreSound ys ids'
kept-next xs ys ids ids' counts loose k s follows placed few few_ids = record {
  shared = shared-self ys counts (λ key. total (roots key) ids') loose s;
  placed = placed;
  tops = λ id root e. (follows id root e).2.top;
  sizes = λ id root e.
      let f = follows id root e in
      f.2.pages ∙ k.sizes id f.0 f.1 ∙ ap (λ (p : Pages). length p) (sym (pages-same xs ys f.0.node root.node f.2.looks));
  few_nodes = few;
  few_ids = few_ids;
}

pub follows-map : (xs ys : List (Option Node)) (before now : Root) → Follows xs ys before now → map_below ys (Some now) ≡ map_below xs (Some before)
follows-map xs ys before now f = ap (λ (p : Pages). Some p) (pages-same xs ys before.node now.node f.looks)

pub id-below : (ids : List (Option Root)) (id : ℕ) → IsSome (root_at ids id) → id < length ids
id-below [] id live = absurd (not-some {X = Root} None refl live)
id-below (x ∷ xs) zero live = omega arith
id-below (x ∷ xs) (suc id) live = let rest = id-below xs id live in omega arith

-- an id has another root
module _ (ids : List (Option Root)) (id : ℕ) (before now : Root) (is : root_at ids id ≡ Some before) where
  abbrev pub replaced : List (Option Root)
  replaced = set ids id (Some now)

  pub replaced-here : root_at replaced id ≡ Some now
  replaced-here = get_or-set_same ids id (Some now) None (id-below ids id (some-live (root_at ids id) before is))

  pub replaced-there : (other : ℕ) → other ≢ id → root_at replaced other ≡ root_at ids other
  replaced-there other ne = get_or-set_other ids id other (Some now) None ne

  pub replaced-total : (m : ℕ) → total (roots m) replaced + one before.node m ≡ total (roots m) ids + one now.node m
  replaced-total m =
      let moved = total-moved (roots m) refl ids replaced id (λ k ne. ap (roots m) (replaced-there k ne)) in
      let a : roots m (root_at ids id) ≡ one before.node m = ap (roots m) is in
      let b : roots m (root_at replaced id) ≡ one now.node m = ap (roots m) replaced-here in
      omega arith

  pub replaced-len : count_by is_some replaced ≡ count_by is_some ids
  replaced-len =
      let moved = total-moved (present 1) refl ids replaced id (λ k ne. ap (present 1) (replaced-there k ne)) in
      let a : present 1 (root_at ids id) ≡ 1 = ap (present 1) is in
      let b : present 1 (root_at replaced id) ≡ 1 = ap (present 1) replaced-here in
      let c = total-present ids in let d = total-present replaced in
      omega arith

-- what all other ids have stays
abbrev OthersFollow : List (Option Node) → List (Option Node) → List (Option Root) → ℕ → Type 0
OthersFollow xs ys ids id = (other : ℕ) (root : Root) → other ≢ id → root_at ids other ≡ Some root → Follows xs ys root root

-- the ids are the same but for one
pub follows-replaced : (xs ys : List (Option Node)) (ids : List (Option Root)) (id : ℕ) (before now : Root) (is : root_at ids id ≡ Some before) → AreSound xs ids → Follows xs ys before now → OthersFollow xs ys ids id
    → (other : ℕ) (root : Root) → root_at (set ids id (Some now)) other ≡ Some root → (was : Root) × (root_at ids other ≡ Some was) × Follows xs ys was root
follows-replaced xs ys ids id before now is k mine rest other root e = elim (cases_eq other id) [
  | inl same ↦
      let eq : now ≡ root = same_Some now root (sym (replaced-here ids id before now is) ∙ ap (λ i. root_at (set ids id (Some now)) i) (sym same) ∙ e) in
      (before, ap (λ i. root_at ids i) same ∙ is, subst (λ r. Follows xs ys before r) eq mine)
  | inr ne ↦
      let old : root_at ids other ≡ Some root = sym (replaced-there ids id before now is other ne) ∙ e in
      (root, old, rest other root ne old)
]

pub maps-replaced : (xs ys : List (Option Node)) (ids : List (Option Root)) (id : ℕ) (before now : Root) (is : root_at ids id ≡ Some before) → AreSound xs ids → Follows xs ys before now → OthersFollow xs ys ids id
    → (other : ℕ) → map_below ys (root_at (set ids id (Some now)) other) ≡ map_below xs (root_at ids other)
maps-replaced xs ys ids id before now is k mine rest other = elim (cases_eq other id) [
  | inl same ↦ ap (map_below ys) (ap (λ i. root_at (set ids id (Some now)) i) same ∙ replaced-here ids id before now is) ∙ follows-map xs ys before now mine ∙ sym (ap (map_below xs) (ap (λ i. root_at ids i) same ∙ is))
  | inr ne ↦ ap (map_below ys) (replaced-there ids id before now is other ne) ∙ elim (cases-option (root_at ids other)) [
    | inl gone ↦ ap (map_below ys) gone ∙ sym (ap (map_below xs) gone)
    | inr here ↦ ap (map_below ys) here.1 ∙ follows-map xs ys here.0 here.0 (rest other here.0 ne here.1) ∙ sym (ap (map_below xs) here.1)
  ]
]
