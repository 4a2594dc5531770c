-- What keeping the entries of a map does to what a contract sees.
use Rattle.std.proofs.Common.{◌≡◌, inl, inr, ℕ, ◌+◌, ◌^◌, ◌≤◌, List, length, Option, Some, None, is_some, count_by, refl, sym, ap, ◌∙◌, arith}
use Rattle.std.proofs.lemmas.Bool.{cases_lt}
use Rattle.page_pool.specs.Pool.{Pool, count_at}
use Rattle.page_delta.specs.Totals.{total}
use Rattle.page_delta.specs.Delta.{Pages, find, pages_in, pages_after, if_after, KeepsAfter, SameReads}
use Rattle.page_delta.specs.Nodes.{once, pages_below}
use Rattle.page_delta.specs.Shared.{IsShared, KeepsBytes}
use Rattle.page_delta.specs.Roots.{root_at, map_below, roots, AreSound, IsHeld, KeepsTree, HasNewer, KeepsRoot}
use Rattle.page_delta.specs.declared.node.Node.{Node}
use Rattle.page_delta.specs.declared.roots.Root.{Root}
use Rattle.page_delta.proofs.Sharing.{cases-option, some-live, shared-as}
use Rattle.page_delta.proofs.Lookups.{find-below, find-past}
use Rattle.page_delta.proofs.Walks.{part-whole, sizes-after}
use Rattle.page_delta.proofs.Filling.{stays-looks}
use Rattle.page_delta.proofs.Places.{placed-next}
use Rattle.page_delta.proofs.Rooted.{Follows, shared-with, held-of, kept-live, kept-next, follows-map}
use Rattle.page_delta.proofs.RootCalls.{Added, kept-added}
use Rattle.page_delta.proofs.Seen.{seen, map-seen, live-seen, reads-same}

-- trees were added, and those of the ids stay
module _ (xs ys : List (Option Node)) (ids : List (Option Root)) (pool pool1 : Pool) (kept : Option ℕ) (k : AreSound xs ids)
    (h : IsHeld xs pool (λ s. 0)) (tree : KeepsTree xs ys pool pool1 kept) where
  abbrev hands : ℕ → ℕ
  hands key = total (roots key) ids

  before : IsShared xs (count_at pool) hands (λ s. 0)
  before = shared-with xs ids pool (λ s. 0) k h

  shared : IsShared ys (count_at pool1) (λ m. hands m + once m kept) (λ s. 0)
  shared = tree.shared hands (λ s. 0) before

  pub held-tree : IsHeld ys pool1 (λ s. 0)
  held-tree = held-of ys pool1 (λ m. hands m + once m kept) (λ s. 0) shared tree.counted

  follows : (other : ℕ) (r : Root) → root_at ids other ≡ Some r → Follows xs ys r r
  follows other r is =
      let live = kept-live xs ids other r k is in
      record {
        pages = refl;
        top = tree.stays.level r.node live ∙ k.tops other r is;
        looks = λ q. stays-looks xs ys (count_at pool) hands (λ s. 0) before tree.stays 3 r.node q live;
      }

  pub maps-tree : (other : ℕ) → map_below ys (root_at ids other) ≡ map_below xs (root_at ids other)
  maps-tree other = elim (cases-option (root_at ids other)) [
    | inl gone ↦ ap (map_below ys) gone ∙ sym (ap (map_below xs) gone)
    | inr here ↦ ap (map_below ys) here.1 ∙ follows-map xs ys here.0 here.0 (follows other here.0 here.1) ∙ sym (ap (map_below xs) here.1)
  ]

  pub kept-tree : kept ≡ None → AreSound ys ids
  kept-tree none =
      kept-next xs ys ids ids (count_at pool1) (λ s. 0) k
      (shared-as ys (count_at pool1) (λ m. hands m + once m kept) hands (λ s. 0) (λ s. 0) shared
      (λ m. let z : once m kept ≡ 0 = ap (once m) none in omega arith) (λ slot. refl))
      (λ other r is. (r, is, follows other r is)) (placed-next xs ys k.placed tree.places) tree.few k.few_ids

-- an id has the kept tree
module _ (xs ys : List (Option Node)) (ids ids' : List (Option Root)) (pool pool1 : Pool) (id fresh b : ℕ) (from root : Root)
    (k : AreSound xs ids) (h : IsHeld xs pool (λ s. 0)) (is : root_at ids id ≡ Some from)
    (tree : KeepsTree xs ys pool pool1 (Some root.node)) (newer : HasNewer xs ys from.node 3 b (Some root)) (a : Added ids ids' fresh root)
    (few : count_by is_some ids + 1 ≤ 2 ^ 31) where
  size : root.pages ≡ length (pages_below ys root.node)
  size =
      newer.pages 0 ∙ ap (λ (ps : Pages). length (pages_after b ps)) (part-whole xs from.node)
      ∙ sym (sizes-after b xs ys from.node root.node newer.looks)

  pub kept-newer : AreSound ys ids'
  kept-newer =
      let before = shared-with xs ids pool (λ s. 0) k h in
      let hands = λ (key : ℕ). total (roots key) ids in
      kept-added ids ids' fresh root a xs ys
      (record {
        kept = k;
        looks = stays-looks xs ys (count_at pool) hands (λ s. 0) before tree.stays;
        levels = tree.stays.level;
        top = newer.level_is root refl;
        size = size;
      })
      (count_at pool1) (λ s. 0) (tree.shared hands (λ s. 0) before) tree.places tree.few few

  entry : (q : ℕ) → find q (pages_below ys root.node) ≡ if_after b (find q (pages_below xs from.node))
  entry q = elim (cases_lt q (2 ^ 20)) [
    | inl low ↦ find-below ys root.node q low ∙ newer.looks q ∙ ap (if_after b) (sym (find-below xs from.node q low))
    | inr high ↦ find-past ys root.node q (omega arith) ∙ ap (if_after b) (sym (find-past xs from.node q (omega arith)))
  ]

  pub keeps-root : KeepsRoot xs ys ids ids' id fresh b
  keeps-root = record {
    fresh = a.gone;
    live = some-live (root_at ids' fresh) root a.here;
    entries = λ q.
        ap (λ (r : Option Root). find q (pages_in (map_below ys r))) a.here ∙ entry q
        ∙ ap (λ (r : Option Root). if_after b (find q (pages_in (map_below xs r)))) (sym is);
    others = λ other ne. ap (map_below ys) (a.rest other ne) ∙ maps-tree xs ys ids pool pool1 (Some root.node) k h tree other;
  }

module _ (n n' : List (Option Node)) (ids ids' : List (Option Root)) (pool pool' : Pool) (held : IsHeld n' pool' (λ s. 0))
    (bytes : KeepsBytes pool pool') where
  pub keeps : (id kept b : ℕ) → KeepsRoot n n' ids ids' id kept b → KeepsAfter pool pool' (seen n ids) (seen n' ids') id kept b
  keeps id kept b r = record {
    fresh = map-seen n ids kept ∙ ap (map_below n) r.fresh;
    live = live-seen n' ids' kept r.live;
    entries = λ q.
        ap (λ (m : Option Pages). find q (pages_in m)) (map-seen n' ids' kept) ∙ r.entries q
        ∙ ap (λ (m : Option Pages). if_after b (find q (pages_in m))) (sym (map-seen n ids id));
    others = λ other ne. map-seen n' ids' other ∙ r.others other ne ∙ sym (map-seen n ids other);
    elsewhere = λ other place ne.
        reads-same n n' ids ids' pool pool' (λ s. 0) other place
        (ap (λ (m : Option Pages). find place (pages_in m)) (r.others other ne)) held (λ e found still. (bytes e.slot still).1);
  }

  pub undone : ((other : ℕ) → map_below n' (root_at ids' other) ≡ map_below n (root_at ids other))
      → SameReads pool pool' (seen n ids) (seen n' ids')
  undone same = record {
    maps = λ other. map-seen n' ids' other ∙ same other ∙ sym (map-seen n ids other);
    elsewhere = λ other place.
        reads-same n n' ids ids' pool pool' (λ s. 0) other place (ap (λ (m : Option Pages). find place (pages_in m)) (same other)) held
        (λ e found still. (bytes e.slot still).1);
  }
