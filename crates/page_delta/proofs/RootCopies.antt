-- An id gets a root of its own.
use Rattle.std.proofs.Common.{◌≡◌, ◌≢◌, inl, inr, ℕ, ◌+◌, ◌^◌, ◌<◌, ◌≤◌, List, set, Option, Some, None, IsSome, is_some, count_by, refl, sym, ap, subst, ◌∙◌, arith}
use Rattle.page_pool.specs.Pool.{Pool}
use Rattle.page_delta.specs.Totals.{total}
use Rattle.page_delta.specs.Nodes.{node_at, count_in, level_in, names, node_with_count, look}
use Rattle.page_delta.specs.Shared.{IsShared, KeepsPlaces, SameLooks, Stands}
use Rattle.page_delta.specs.Roots.{root_at, map_below, roots, AreSound, IsHeld}
use Rattle.page_delta.specs.declared.node.Node.{Node}
use Rattle.page_delta.specs.declared.roots.Root.{Root}
use Rattle.page_delta.proofs.Sums.{total-has, total-le, present, total-present, total-present32}
use Rattle.page_delta.proofs.Sharing.{not-some, one, one-same, one-other, shared-as, level-recounted}
use Rattle.page_delta.proofs.Looks.{looks-recounted}
use Rattle.page_delta.proofs.Counting.{count-recounted, recounted-live}
use Rattle.page_delta.proofs.Copies.{names-width}
use Rattle.page_delta.proofs.Places.{places-trans, placed-next, places-copied, places-recounted}
use Rattle.page_delta.proofs.Releasing.{lowered, lowered_now, lowered_at, shared-lower, len-lower}
use Rattle.page_delta.proofs.Rooted.{Follows, kept-live, kept-next, shared-with, follows-replaced, maps-replaced, replaced-total, replaced-len}
use Rattle.std.proofs.lemmas.Bool.{cases_eq}

pub same-root : (a b : Root) (o : Option Root) → o ≡ Some a → o ≡ Some b → a ≡ b
same-root a b o p q = (let both : Some a ≡ Some b = sym p ∙ q in cc)

-- ids are few
roots-le : (key : ℕ) (o : Option Root) → roots key o ≤ present 1 o
roots-le key None = omega arith
roots-le key (Some root) = one-le root.node key
  where
    one-le : (a b : ℕ) → one a b ≤ 1
    one-le a b = elim (cases_eq a b) [
      | inl e ↦ let o = one-same a b (sym e) in
          omega arith
      | inr ne ↦ let o = one-other a b (λ e. ne (sym e)) in omega arith
    ]

pub few-roots : (xs : List (Option Node)) (ids : List (Option Root)) (key : ℕ) → AreSound xs ids → total (roots key) ids ≤ 2 ^ 31
few-roots xs ids key k =
    let all = total-le (roots key) refl (present 1) ids (λ i. roots-le key (root_at ids i)) in
    let len = total-present ids in let few = k.few_ids in omega arith

pub stands-kept : (xs : List (Option Node)) (ids : List (Option Root)) (pool : Pool) (loose : ℕ → ℕ) → AreSound xs ids → IsHeld xs pool loose
    → ((slot : ℕ) → loose slot ≤ 1) → Stands xs pool
stands-kept xs ids pool loose k h few = record {
  hands = λ key. total (roots key) ids;
  loose = loose;
  shared = shared-with xs ids pool loose k h;
  few_hands = λ key. let a = few-roots xs ids key k in omega arith;
  few_loose = λ slot. let a = few slot in omega arith;
  few = k.few_nodes;
  counted = h.counted;
}

pub few-kept : (xs : List (Option Node)) (ids : List (Option Root)) (key : ℕ) → AreSound xs ids → count_in (node_at xs key) + 1 < 2 ^ 64
few-kept xs ids key k =
    let a = few-roots xs ids key k in
    let all = total-le (names key) refl (present 32) xs (λ i. names-width key (node_at xs i) (k.shared.wide i)) in
    let b = total-present32 xs in let c = total-present xs in let few = k.few_nodes in
    let count = k.shared.counted key in
    omega arith

pub root-counted : (xs : List (Option Node)) (ids : List (Option Root)) (id : ℕ) (root : Root) → AreSound xs ids → root_at ids id ≡ Some root
    → 0 < count_in (node_at xs root.node)
root-counted xs ids id root k is =
    let count = k.shared.counted root.node in
    let has = total-has (roots root.node) refl ids id in
    let mine : roots root.node (root_at ids id) ≡ one root.node root.node = ap (roots root.node) is in
    let one_is = one-same root.node root.node refl in
    omega arith

-- the root of an id was copied, since others have it
pub record CopiesRoot (xs mid : List (Option Node)) (ids : List (Option Root)) (id own : ℕ) (before again : Root) : Type 0 where
  pub kept : AreSound xs ids
  pub is : root_at ids id ≡ Some before
  pub again_is : root_at ids id ≡ Some again
  pub many : 1 < count_in (node_at xs before.node)
  pub gone : node_at xs own ≡ None
  pub copied : node_at mid own ≡ node_with_count (node_at xs before.node) 1
  pub rest : (m : ℕ) → m ≢ own → node_at mid m ≡ node_with_count (node_at xs m) (count_in (node_at xs m) + names m (node_at xs before.node))
  pub looks : SameLooks xs mid
  pub alike : (level q : ℕ) → look level mid (Some own) q ≡ look level xs (Some before.node) q

pub many-counted : (xs : List (Option Node)) (ids : List (Option Root)) (id count : ℕ) (root : Root) → AreSound xs ids
    → root_at ids id ≡ Some root
    → count_in (node_at xs root.node) ≡ count → count ≢ 1 → 1 < count_in (node_at xs root.node)
many-counted xs ids id count root k is same ne = let pos = root-counted xs ids id root k is in omega arith

module _ (xs mid : List (Option Node)) (ids : List (Option Root)) (id own : ℕ) (before again : Root)
    (w : CopiesRoot xs mid ids id own before again) where
  abbrev now : Root
  now = record { node = own; pages = again.pages }

  pub live : IsSome (node_at xs before.node)
  live = kept-live xs ids id before w.kept w.is

  apart : (m : ℕ) → IsSome (node_at xs m) → m ≢ own
  apart m here e = not-some (node_at xs m) (ap (λ i. node_at xs i) e ∙ w.gone) here

  pub live_mid : (m : ℕ) → IsSome (node_at xs m) → IsSome (node_at mid m)
  live_mid m here = subst (λ (o : Option Node). IsSome o) (sym (w.rest m (apart m here)))
      (recounted-live (node_at xs m) (count_in (node_at xs m) + names m (node_at xs before.node)) here)

  level_mid : (m : ℕ) → IsSome (node_at xs m) → level_in (node_at mid m) ≡ level_in (node_at xs m)
  level_mid m here = ap level_in (w.rest m (apart m here))
      ∙ level-recounted (node_at xs m) (count_in (node_at xs m) + names m (node_at xs before.node))

  mid_many : 1 < count_in (node_at mid before.node)
  mid_many =
      let count : count_in (node_at mid before.node) ≡ count_in (node_at xs before.node) + names before.node
      (node_at xs before.node) = ap count_in (w.rest before.node (apart before.node live))
      ∙ count-recounted (node_at xs before.node) (count_in (node_at xs before.node) + names before.node (node_at xs before.node))
      live in
      omega (arith, w.many)

  pub root-some : 0 < count_in (node_at mid before.node)
  root-some = omega (arith, mid_many)

  abbrev zs : List (Option Node)
  zs = lowered mid before.node (live_mid before.node live)

  zs_at : (m : ℕ) → node_at zs m ≡ node_with_count (node_at mid m) (lowered_now mid before.node (live_mid before.node live) m)
  zs_at m = lowered_at mid before.node (live_mid before.node live) m

  looks_zs : SameLooks mid zs
  looks_zs = looks-recounted mid zs (lowered_now mid before.node (live_mid before.node live)) zs_at

  pub shared-own : (counts loose : ℕ → ℕ) → IsShared mid counts (λ m. total (roots m) ids + one own m) loose
      → IsShared zs counts (λ m. total (roots m) (set ids id (Some (record { node = own; pages = again.pages })))) loose
  shared-own counts loose t =
      shared-lower mid before.node (live_mid before.node live) counts (λ m. total (roots m) (set ids id (Some now))) loose mid_many
      (shared-as mid counts (λ m. total (roots m) ids + one own m)
      (λ m. total (roots m) (set ids id (Some now)) + one before.node m) loose loose t
      (λ m. sym (replaced-total ids id before now w.is m)) (λ slot. refl))

  mine : Follows xs zs before now
  mine = record {
    pages = ap (λ (r : Root). r.pages) (same-root again before (root_at ids id) w.again_is w.is);
    top = ap level_in (zs_at own) ∙ level-recounted (node_at mid own) (lowered_now mid before.node (live_mid before.node live) own)
        ∙ ap level_in w.copied ∙ level-recounted (node_at xs before.node) 1 ∙ w.kept.tops id before w.is;
    looks = λ q. looks_zs 3 own q (subst (λ (o : Option Node). IsSome o) (sym w.copied) (recounted-live (node_at xs before.node) 1 live))
        ∙ w.alike 3 q;
  }

  same_rest : (other : ℕ) (root : Root) → other ≢ id → root_at ids other ≡ Some root → Follows xs zs root root
  same_rest other root ne e =
      let here = kept-live xs ids other root w.kept e in
      record {
        pages = refl;
        top = ap level_in (zs_at root.node) ∙ level-recounted (node_at mid root.node)
            (lowered_now mid before.node (live_mid before.node live) root.node) ∙ level_mid root.node here ∙ w.kept.tops other root e;
        looks = λ q. looks_zs 3 root.node q (live_mid root.node here) ∙ w.looks 3 root.node q here;
      }

  pub places-own : KeepsPlaces xs (lowered mid before.node (live_mid before.node live))
  places-own =
      places-trans xs mid zs
      (places-copied xs mid (λ m. count_in (node_at xs m) + names m (node_at xs before.node)) own before.node w.copied w.rest)
      (places-recounted mid zs (lowered_now mid before.node (live_mid before.node live)) zs_at)

  pub kept-own : (counts loose : ℕ → ℕ) → IsShared mid counts (λ m. total (roots m) ids + one own m) loose → count_by is_some mid ≤ 2 ^ 26
      → AreSound zs (set ids id (Some (record { node = own; pages = again.pages })))
  kept-own counts loose t few =
      kept-next xs zs ids (set ids id (Some now)) counts loose w.kept (shared-own counts loose t)
      (follows-replaced xs zs ids id before now w.is w.kept mine same_rest) (placed-next xs zs w.kept.placed places-own)
      (let len = len-lower mid before.node (live_mid before.node live) in omega arith)
      (let len = replaced-len ids id before now w.is in omega (arith, w.kept.few_ids))

  pub maps-own : (other : ℕ) → map_below zs (root_at (set ids id (Some (record { node = own; pages = again.pages }))) other) ≡ map_below xs
      (root_at ids other)
  maps-own = maps-replaced xs zs ids id before now w.is w.kept mine same_rest
