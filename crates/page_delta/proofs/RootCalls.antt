-- Ids made and dropped.
use Rattle.std.proofs.Common.{[], ◌≡◌, ◌≢◌, inl, inr, ℕ, zero, suc, ◌+◌, ◌/◌, ◌%◌, ◌^◌, ◌≤◌, List, length, set, Option, Some, None, IsSome, is_some, count_by, cond, eqb, refl, sym, ap, subst, ◌∙◌, arith}
use Rattle.std.proofs.lemmas.Bool.{cases_eq, eq-eqb, ne_eqb}
use Rattle.page_pool.specs.Pool.{Pool, count_at}
use Rattle.page_delta.specs.Totals.{total}
use Rattle.page_delta.specs.Delta.{Pages}
use Rattle.page_delta.specs.Nodes.{node_at, child_in, count_in, level_in, names, node_with_count, empty_node, look, pages_below}
use Rattle.page_delta.specs.Shared.{slots_in, IsShared, KeepsPlaces, SameLooks, Shrinks}
use Rattle.page_delta.specs.Roots.{root_at, map_below, roots, AreSound, IsHeld, AddsRoot}
use Rattle.page_delta.specs.declared.node.Node.{Node}
use Rattle.page_delta.specs.declared.roots.Root.{Root}
use Rattle.page_delta.proofs.Sums.{total-has, total-moved, total-same, total-none, total-place, present, total-present}
use Rattle.page_delta.proofs.Sharing.{some-none, not-some, cases-option, some-live, one, one-same, one-other, shared-as, shared-insert, shared-recounted, slots-recounted, level-recounted}
use Rattle.page_delta.proofs.Looks.{looks-recounted, looks-insert}
use Rattle.page_delta.proofs.Counting.{recounted-at, recounted-same, len-recounted}
use Rattle.page_delta.proofs.Places.{placed-next, places-put, places-recounted, places-shrink}
use Rattle.page_delta.proofs.Owning.{stands-empty, IsEmpty, is_empty, names-child}
use Rattle.page_delta.proofs.Inserting.{high-live, counted-live}
use Rattle.page_delta.proofs.Releasing.{looks-shrink}
use Rattle.page_delta.proofs.Rooted.{Follows, follows-map, kept-live, kept-next, pages-same, shared-self, shared-with}
use Rattle.std.proofs.lemmas.Option.{same_Some}
use Rattle.page_delta.proofs.Changes.{Puts}
use Rattle.page_delta.proofs.Walks.{pairs-none}

pub pages-none : (xs : List (Option Node)) (root : ℕ) → ((q : ℕ) → look 3 xs (Some root) q ≡ None) → pages_below xs root ≡ []
unfolding pages_below
pages-none xs root none = pairs-none (2 ^ 20) 0 (look 3 xs (Some root)) none

-- what an insert at a free key did, by the id that is answered
pub record Added (ids ids' : List (Option Root)) (id : ℕ) (root : Root) : Type 0 where
  pub gone : root_at ids id ≡ None
  pub here : root_at ids' id ≡ Some root
  pub rest : (other : ℕ) → other ≢ id → root_at ids' other ≡ root_at ids other

pub added-at : (ids mid ids' : List (Option Root)) (key id : ℕ) (root : Root) → key ≡ id → mid ≡ ids → root_at mid key ≡ None
    → root_at ids' key ≡ Some root → ((other : ℕ) → other ≢ key → root_at ids' other ≡ root_at mid other) → Added ids ids' id root
added-at ids mid ids' key id root e same gone here rest =
    subst (λ i. Added ids ids' i root) e
    (subst (λ (m : List (Option Root)). Added m ids' key root) same record { gone = gone; here = here; rest = rest })

-- a new id
module _ (ids ids' : List (Option Root)) (id : ℕ) (root : Root) (a : Added ids ids' id root) where
  pub added-total : (m : ℕ) → total (roots m) ids' ≡ total (roots m) ids + one root.node m
  added-total m =
      let moved = total-moved (roots m) refl ids ids' id (λ k ne. ap (roots m) (a.rest k ne)) in
      let old : roots m (root_at ids id) ≡ 0 = ap (roots m) a.gone in
      let b : roots m (root_at ids' id) ≡ one root.node m = ap (roots m) a.here in
      omega arith

  pub added-len : count_by is_some ids' ≡ count_by is_some ids + 1
  added-len =
      let moved = total-moved (present 1) refl ids ids' id (λ k ne. ap (present 1) (a.rest k ne)) in
      let old : present 1 (root_at ids id) ≡ 0 = ap (present 1) a.gone in
      let b : present 1 (root_at ids' id) ≡ 1 = ap (present 1) a.here in
      let c = total-present ids in let d = total-present ids' in
      omega arith

  -- its tree is three levels tall, with its pages counted, and those of the other ids stay
  pub record NewRoot (xs ys : List (Option Node)) : Type 0 where
    pub kept : AreSound xs ids
    pub looks : SameLooks xs ys
    pub levels : (m : ℕ) → IsSome (node_at xs m) → level_in (node_at ys m) ≡ level_in (node_at xs m)
    pub top : level_in (node_at ys root.node) ≡ 3
    pub size : root.pages ≡ length (pages_below ys root.node)

  module _ (xs ys : List (Option Node)) (n : NewRoot xs ys) where
    map_same : (other : ℕ) (r : Root) → root_at ids other ≡ Some r → pages_below ys r.node ≡ pages_below xs r.node
    map_same other r e = pages-same xs ys r.node r.node (λ q. n.looks 3 r.node q (kept-live xs ids other r n.kept e))

    fields : (other : ℕ) (r : Root) → root_at ids' other ≡ Some r
        → (level_in (node_at ys r.node) ≡ 3) × (r.pages ≡ length (pages_below ys r.node))
    fields other r e = elim (cases_eq other id) [
      | inl same ↦
          let eq : root ≡ r = same_Some root r (sym a.here ∙ ap (λ i. root_at ids' i) (sym same) ∙ e) in
          subst (λ (r : Root). (level_in (node_at ys r.node) ≡ 3) × (r.pages ≡ length (pages_below ys r.node))) eq (n.top, n.size)
      | inr ne ↦
          let old : root_at ids other ≡ Some r = sym (a.rest other ne) ∙ e in (
            n.levels r.node (kept-live xs ids other r n.kept old) ∙ n.kept.tops other r old,
            n.kept.sizes other r old
                ∙ ap (λ (p : Pages). length p) (sym (map_same other r old)),
          )
    ]

    pub kept-added : (counts loose : ℕ → ℕ) → IsShared ys counts (λ key. total (roots key) ids + one root.node key) loose
        → KeepsPlaces xs ys → count_by is_some ys ≤ 2 ^ 26 → count_by is_some ids + 1 ≤ 2 ^ 31 → AreSound ys ids'
    kept-added counts loose s places few few_ids = record {
      shared = shared-self ys counts (λ key. total (roots key) ids') loose
          (shared-as ys counts (λ key. total (roots key) ids + one root.node key) (λ key. total (roots key) ids') loose loose s
          (λ m. sym (added-total m)) (λ slot. refl));
      placed = placed-next xs ys n.kept.placed places;
      tops = λ other r e. (fields other r e).0;
      sizes = λ other r e. (fields other r e).1;
      few_nodes = few;
      few_ids = (let len = added-len in omega arith);
    }

    pub adds-root : (pages : Pages) → pages_below ys root.node ≡ pages → ((slot : ℕ) → total (slots_in slot) ys ≡ total (slots_in slot) xs)
        → AddsRoot xs ys ids ids' id pages
    adds-root pages map_is held = record {
      fresh = a.gone;
      here = ap (map_below ys) a.here ∙ ap (λ (p : Pages). Some p) map_is;
      others = λ other ne. ap (map_below ys) (a.rest other ne) ∙ elim (cases-option (root_at ids other)) [
        | inl none ↦ ap (map_below ys) none ∙ sym (ap (map_below xs) none)
        | inr some ↦ ap (map_below ys) some.1 ∙ ap (λ (p : Pages). Some p) (map_same other some.0 some.1) ∙ sym (ap (map_below xs) some.1)
      ];
      held = held;
    }

-- an empty node is put at a fresh key
pub record PutsEmpty (xs ys : List (Option Node)) (key : ℕ) (node : Node) (level : ℕ) : Type 0 where
  pub flat : level ≤ 3
  pub empty : IsEmpty node level
  pub puts : Puts xs ys key node

-- where the memory was made room in before
pub puts-empty : (xs mid ys : List (Option Node)) (key : ℕ) (node : Node) (level : ℕ) → level ≤ 3 → mid ≡ xs → node ≡ empty_node level
    → node_at mid key ≡ None → node_at ys key ≡ Some node → ((m : ℕ) → m ≢ key → node_at ys m ≡ node_at mid m)
    → PutsEmpty xs ys key node level
puts-empty xs mid ys key node level flat same is gone here rest = record {
  flat = flat;
  empty = subst (λ n. IsEmpty n level) (sym is) (is_empty level);
  puts = record {
    gone = sym (ap (λ (n : List (Option Node)). node_at n key) same) ∙ gone;
    here = here;
    rest = λ m ne. rest m ne ∙ ap (λ (n : List (Option Node)). node_at n m) same;
  };
}

module _ (xs ys : List (Option Node)) (key : ℕ) (node : Node) (level : ℕ) (p : PutsEmpty xs ys key node level) where
  pub shared-empty : (counts hands loose : ℕ → ℕ) → IsShared xs counts hands loose → IsShared ys counts (λ m. hands m + one key m) loose
  shared-empty counts hands loose s =
      shared-insert xs ys counts hands loose key node
      (shared-as xs counts hands (λ m. hands m + names m (Some node)) loose (λ slot. loose slot + slots_in slot (Some node)) s
      (λ m. let z = p.empty.names_none m in omega arith) (λ slot. let z = p.empty.slots_none slot in omega arith))
      p.puts (stands-empty xs node level p.empty p.flat)

  pub looks-empty : (q : ℕ) → look 3 ys (Some key) q ≡ None
  looks-empty q = ap (λ (o : Option ℕ). look 2 ys o q) (ap (λ o. child_in o ((q / 32768) % 32)) p.puts.here ∙ p.empty.child ((q / 32768) % 32))

  pub level-empty : level_in (node_at ys key) ≡ level
  level-empty = ap level_in p.puts.here ∙ p.empty.level_is

  pub held-empty : (slot : ℕ) → total (slots_in slot) ys ≡ total (slots_in slot) xs
  held-empty slot =
      let moved = total-moved (slots_in slot) refl xs ys key (λ k ne. ap (slots_in slot) (p.puts.rest k ne)) in
      let a : slots_in slot (node_at xs key) ≡ 0 = ap (slots_in slot) p.puts.gone in
      let b : slots_in slot (node_at ys key) ≡ 0 = ap (slots_in slot) p.puts.here ∙ p.empty.slots_none slot in
      omega arith

  pub places-empty : KeepsPlaces xs ys
  places-empty = places-put xs ys key node p.empty.entry p.puts.here p.puts.rest

  pub level-rest : (m : ℕ) → IsSome (node_at xs m) → level_in (node_at ys m) ≡ level_in (node_at xs m)
  level-rest m live = ap level_in (p.puts.rest m (λ e. not-some (node_at xs m) (ap (λ i. node_at xs i) e ∙ p.puts.gone) live))

  pub looks-rest : (counts hands loose : ℕ → ℕ) → IsShared xs counts hands loose → SameLooks xs ys
  looks-rest counts hands loose s = looks-insert xs ys counts hands loose key s p.puts.gone p.puts.rest

-- an id has an empty tree
pub root-empty : (ids ids' : List (Option Root)) (id : ℕ) (root : Root) (xs ys : List (Option Node)) (node : Node)
    (a : Added ids ids' id root) → AreSound xs ids → PutsEmpty xs ys root.node node 3 → root.pages ≡ 0 → NewRoot ids ids' id root a xs ys
root-empty ids ids' id root xs ys node a k p none = record {
  kept = k;
  looks = looks-rest xs ys root.node node 3 p (λ slot. total (slots_in slot) xs) (λ key. total (roots key) ids) (λ slot. 0) k.shared;
  levels = level-rest xs ys root.node node 3 p;
  top = level-empty xs ys root.node node 3 p;
  size = none ∙ ap (λ (ps : Pages). length ps) (sym (pages-none ys root.node (looks-empty xs ys root.node node 3 p)));
}

-- a node is counted once more
module _ (xs : List (Option Node)) (key : ℕ) (live : IsSome (node_at xs key)) where
  abbrev pub raised : List (Option Node)
  raised = set xs key (node_with_count (node_at xs key) (count_in (node_at xs key) + 1))

  raised_now : ℕ → ℕ
  raised_now m = cond (eqb m key) (count_in (node_at xs key) + 1) (count_in (node_at xs m))

  raised_at : (m : ℕ) → node_at raised m ≡ node_with_count (node_at xs m) (raised_now m)
  unfolding raised_now
  raised_at m = recounted-at xs xs (λ i. count_in (node_at xs i)) key (count_in (node_at xs key) + 1)
      (λ i. sym (recounted-same (node_at xs i))) live m

  pub shared-raise : (counts hands loose : ℕ → ℕ) → IsShared xs counts hands loose → IsShared raised counts (λ m. hands m + one key m) loose
  unfolding raised_now
  shared-raise counts hands loose s =
      shared-recounted xs raised counts hands (λ m. hands m + one key m) loose raised_now s raised_at
      (λ m here. elim (cases_eq m key) [
        | inl e ↦
            let pick : raised_now m ≡ count_in (node_at xs key) + 1 = rw (eq-eqb m key e) refl in
            let same : count_in (node_at xs m) ≡ count_in (node_at xs key) = ap (λ i. count_in (node_at xs i)) e in
            let o = one-same key m e in
            omega arith
        | inr ne ↦
            let pick : raised_now m ≡ count_in (node_at xs m) = rw (ne_eqb m key ne) refl in
            let o = one-other key m ne in
            omega arith
      ])
      (λ m none.
      let count = s.counted m in let z : count_in (node_at xs m) ≡ 0 = ap count_in none in
      let o = one-other key m (λ e. not-some (node_at xs key) (ap (λ i. node_at xs i) (sym e) ∙ none) live) in omega arith)
      (λ m here. elim (cases_eq m key) [
        | inl e ↦ let pick : raised_now m ≡ count_in (node_at xs key) + 1 = rw (eq-eqb m key e) refl in omega arith
        | inr ne ↦ let pick : raised_now m ≡ count_in (node_at xs m) = rw (ne_eqb m key ne) refl in let pos = s.alive m here in
            omega arith
      ])

  pub looks-raise : SameLooks xs raised
  looks-raise = looks-recounted xs raised raised_now raised_at

  pub places-raise : KeepsPlaces xs raised
  places-raise = places-recounted xs raised raised_now raised_at

  pub len-raise : count_by is_some raised ≡ count_by is_some xs
  len-raise = len-recounted xs raised raised_now raised_at

  pub level-raise : (m : ℕ) → level_in (node_at raised m) ≡ level_in (node_at xs m)
  level-raise m = ap level_in (raised_at m) ∙ level-recounted (node_at xs m) (raised_now m)

  pub held-raise : (slot : ℕ) → total (slots_in slot) raised ≡ total (slots_in slot) xs
  held-raise slot = total-same (slots_in slot) refl xs raised
      (λ k. ap (slots_in slot) (raised_at k) ∙ slots-recounted slot (node_at xs k) (raised_now k))

pub pages-raised : (xs : List (Option Node)) (key : ℕ) (live : IsSome (node_at xs key))
    → pages_below (raised xs key live) key ≡ pages_below xs key
pages-raised xs key live = pages-same xs (raised xs key live) key key (λ q. looks-raise xs key live 3 key q live)

-- an id has the tree of another
pub root-raised : (ids ids' : List (Option Root)) (id from : ℕ) (root : Root) (xs : List (Option Node))
    (live : IsSome (node_at xs root.node)) (a : Added ids ids' id root) → AreSound xs ids → root_at ids from ≡ Some root
    → NewRoot ids ids' id root a xs (raised xs root.node live)
root-raised ids ids' id from root xs live a k is = record {
  kept = k;
  looks = looks-raise xs root.node live;
  levels = λ m here. level-raise xs root.node live m;
  top = level-raise xs root.node live root.node ∙ k.tops from root is;
  size = k.sizes from root is ∙ ap (λ (ps : Pages). length ps) (sym (pages-raised xs root.node live));
}

-- an id is dropped
module _ (ids ids' : List (Option Root)) (id : ℕ) (root : Root) (was : root_at ids id ≡ Some root) (gone : root_at ids' id ≡ None)
    (rest : (other : ℕ) → other ≢ id → root_at ids' other ≡ root_at ids other) where
  pub dropped-total : (m : ℕ) → total (roots m) ids ≡ total (roots m) ids' + one root.node m
  dropped-total m =
      let moved = total-moved (roots m) refl ids ids' id (λ k ne. ap (roots m) (rest k ne)) in
      let a : roots m (root_at ids id) ≡ one root.node m = ap (roots m) was in
      let b : roots m (root_at ids' id) ≡ 0 = ap (roots m) gone in
      omega arith

  pub given-dropped : (xs : List (Option Node)) (pool : Pool) → AreSound xs ids → IsHeld xs pool (λ s. 0) → IsShared xs (count_at pool) (λ m. total (roots m) ids' + one root.node m) (λ s. 0)
  given-dropped xs pool k h =
      shared-as xs (count_at pool) (λ m. total (roots m) ids) (λ m. total (roots m) ids' + one root.node m) (λ s. 0) (λ s. 0)
      (shared-with xs ids pool (λ s. 0) k h) dropped-total (λ slot. refl)

  pub dropped-len : count_by is_some ids' ≤ count_by is_some ids
  dropped-len =
      let moved = total-moved (present 1) refl ids ids' id (λ k ne. ap (present 1) (rest k ne)) in
      let b : present 1 (root_at ids' id) ≡ 0 = ap (present 1) gone in
      let c = total-present ids in let d = total-present ids' in
      omega arith

  module _ (xs ys : List (Option Node)) (k : AreSound xs ids) (shrinks : Shrinks xs ys) (counts loose : ℕ → ℕ)
      (s : IsShared ys counts (λ key. total (roots key) ids') loose) where
    still : (other : ℕ) (r : Root) → root_at ids' other ≡ Some r → IsSome (node_at ys r.node)
    still other r e =
        let count = s.counted r.node in
        let has = total-has (roots r.node) refl ids' other in
        let mine : roots r.node (root_at ids' other) ≡ one r.node r.node = ap (roots r.node) e in
        let one_is = one-same r.node r.node refl in
        counted-live (node_at ys r.node) (omega arith)

    follows : (other : ℕ) (r : Root) → root_at ids' other ≡ Some r
        → (before : Root) × (root_at ids other ≡ Some before) × Follows xs ys before r
    follows other r e =
        let ne : other ≢ id = λ same. some-none r (sym e ∙ ap (λ i. root_at ids' i) same ∙ gone) in
        let old : root_at ids other ≡ Some r = sym (rest other ne) ∙ e in
        let here = still other r e in (
          r,
          old,
          record {
            pages = refl;
            top = shrinks.level r.node here ∙ k.tops other r old;
            looks = λ q. looks-shrink xs ys counts (λ key. total (roots key) ids') loose shrinks s 3 r.node q here;
          },
        )

    pub kept-dropped : count_by is_some ys ≤ 2 ^ 26 → AreSound ys ids'
    kept-dropped few = kept-next xs ys ids ids' counts loose k s follows (placed-next xs ys k.placed (places-shrink xs ys shrinks)) few
        (let len = dropped-len in omega (arith, k.few_ids))

    pub maps-dropped : (other : ℕ) → other ≢ id → map_below ys (root_at ids' other) ≡ map_below xs (root_at ids other)
    maps-dropped other ne = elim (cases-option (root_at ids' other)) [
      | inl none ↦ ap (map_below ys) none ∙ sym (ap (map_below xs) (sym (rest other ne) ∙ none))
      | inr some ↦
          let f = follows other some.0 some.1 in
          ap (map_below ys) some.1 ∙ follows-map xs ys f.0 some.0 f.2 ∙ sym (ap (map_below xs) f.1)
    ]

-- where no id is live, there is no node: each would be named by one a level above it
no-node : (xs : List (Option Node)) (counts loose : ℕ → ℕ) (s : IsShared xs counts (λ m. 0) loose) (steps key : ℕ)
    → IsSome (node_at xs key) → 4 ≤ level_in (node_at xs key) + steps → ⊥
no-node xs counts loose s zero key live high = (let low = s.flat key in omega arith)
no-node xs counts loose s (suc steps) key live high =
    let pos = s.alive key live in
    let count = s.counted key in
    let parent = total-place (names key) refl xs (omega arith) in
    let d = names-child key (node_at xs parent.0) parent.1 in
    let step = s.steps parent.0 d.0 key d.1 in
    no-node xs counts loose s steps parent.0 (high-live (node_at xs parent.0) (omega arith)) (omega arith)

pub none-held : (xs : List (Option Node)) (ids : List (Option Root)) (counts loose : ℕ → ℕ)
    → IsShared xs counts (λ key. total (roots key) ids) loose → ((id : ℕ) → root_at ids id ≡ None) → (slot : ℕ)
    → total (slots_in slot) xs ≡ 0
none-held xs ids counts loose s dead slot =
    let free = shared-as xs counts (λ key. total (roots key) ids) (λ m. 0) loose loose s
    (λ m. total-none (roots m) refl ids (λ i. ap (roots m) (dead i))) (λ slot. refl) in
    total-none (slots_in slot) refl xs (λ i. elim (cases-option (node_at xs i)) [
      | inl gone ↦ ap (slots_in slot) gone
      | inr here ↦ absurd (no-node xs counts loose free 4 i (some-live (node_at xs i) here.0 here.1) (omega arith))
    ])
