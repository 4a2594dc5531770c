-- What a contract sees of nodes and ids.
use Rattle.std.proofs.Common.{◌≡◌, ◌≢◌, inl, inr, ℕ, zero, suc, ◌+◌, ◌/◌, ◌%◌, ◌^◌, ◌<◌, ◌≤◌, List, [], ◌∷◌, map, get_or, Option, Some, None, IsSome, is_some, count_by, refl, sym, ap, subst, ◌∙◌, arith}
use Rattle.std.proofs.lemmas.Bool.{cases_eq, cases_lt, ne_eqb}
use Rattle.page_pool.specs.Pool.{Pool, Page, count_at, bytes_at, used_in, IsLive as IsLiveSlot}
use Rattle.page_delta.specs.Totals.{total}
use Rattle.page_delta.specs.Delta.{Deltas, Pages, map_of, IsLive, pages_in, pages_of, find, read_of, reads, uses_in, RiseFrom, Holds, Adds, IsOwn}
use Rattle.page_delta.specs.Nodes.{node_at, child_in, entry_in, leaf_of, look, pages_below}
use Rattle.page_delta.specs.Shared.{slots_in}
use Rattle.page_delta.specs.Roots.{root_at, map_below, AreSound, IsHeld, AddsRoot, PutsAt}
use Rattle.page_delta.specs.declared.entry.Entry.{Entry}
use Rattle.page_delta.specs.declared.node.Node.{Node}
use Rattle.page_delta.specs.declared.roots.Root.{Root}
use Rattle.page_delta.proofs.Sums.{total-has}
use Rattle.page_delta.proofs.Sharing.{some-none, cases-option, some-live}
use Rattle.page_delta.proofs.Copies.{entry-used}
use Rattle.page_delta.proofs.Places.{once-placed, places-nodes}
use Rattle.page_delta.proofs.Lookups.{find-below, find-past, below-rises}
use Rattle.page_delta.proofs.Pools.{live-of-count}
use Rattle.page_delta.proofs.Reached.{reached}

pub get-map : {X Y : Type 0} (f : Option X → Option Y) → f None ≡ None → (xs : List (Option X)) (k : ℕ)
    → get_or (map f xs) k None ≡ f (get_or xs k None)
get-map f none [] k = sym none
get-map f none (x ∷ xs) zero = refl
get-map f none (x ∷ xs) (suc k) = get-map f none xs k

pub total-leaves : (slot : ℕ) (xs : List (Option Node)) → total (uses_in slot) (map leaf_of xs) ≡ total (slots_in slot) xs
total-leaves slot [] = refl
total-leaves slot (x ∷ xs) = ap (λ n. uses_in slot (leaf_of x) + n) (total-leaves slot xs)

abbrev pub seen : List (Option Node) → List (Option Root) → Deltas
seen nodes ids = record { maps = map (map_below nodes) ids; leaves = map leaf_of nodes; nodes = count_by is_some nodes }

pub map-seen : (nodes : List (Option Node)) (ids : List (Option Root)) (id : ℕ)
    → map_of (seen nodes ids) id ≡ map_below nodes (root_at ids id)
map-seen nodes ids id = get-map (map_below nodes) refl ids id

map-some : (nodes : List (Option Node)) (o : Option Root) → IsSome (map_below nodes o) → IsSome o
map-some nodes None live = live
map-some nodes (Some r) live = refl

some-map : (nodes : List (Option Node)) (o : Option Root) → IsSome o → IsSome (map_below nodes o)
some-map nodes None live = live
some-map nodes (Some r) live = refl

-- a live id has a root
pub seen-live : (nodes : List (Option Node)) (ids : List (Option Root)) (id : ℕ) → IsLive (seen nodes ids) id → IsSome (root_at ids id)
seen-live nodes ids id live = map-some nodes (root_at ids id) (subst (λ (o : Option Pages). IsSome o) (map-seen nodes ids id) live)

pub live-seen : (nodes : List (Option Node)) (ids : List (Option Root)) (id : ℕ) → IsSome (root_at ids id) → IsLive (seen nodes ids) id
live-seen nodes ids id live = subst (λ (o : Option Pages). IsSome o) (sym (map-seen nodes ids id)) (some-map nodes (root_at ids id) live)

pub held-seen : (nodes : List (Option Node)) (ids : List (Option Root)) (pool : Pool) → Holds pool (seen nodes ids)
    → IsHeld nodes pool (λ slot. 0)
held-seen nodes ids pool h = record {
  counts = λ slot. let a = h.counts slot in let b = total-leaves slot nodes in
      let same = places-nodes slot (map leaf_of nodes) (h.once slot) in omega arith;
  counted = h.live;
}

-- where a contract sees these nodes and ids as `deltas`
pub held-viewed : (nodes : List (Option Node)) (ids : List (Option Root)) (pool : Pool) {deltas : Deltas} → seen nodes ids ≡ deltas → Holds pool deltas → IsHeld nodes pool (λ slot. 0)
held-viewed nodes ids pool is h = held-seen nodes ids pool (subst (λ d. Holds pool d) (sym is) h)

pub seen-adds : (n n' : List (Option Node)) (ids ids' : List (Option Root)) (id : ℕ) (pages : Pages) → AddsRoot n n' ids ids' id pages
    → Adds (seen n ids) (seen n' ids') id pages
seen-adds n n' ids ids' id pages a = record {
  fresh = map-seen n ids id ∙ ap (map_below n) a.fresh;
  here = map-seen n' ids' id ∙ a.here;
  others = λ other ne. map-seen n' ids' other ∙ a.others other ne ∙ sym (map-seen n ids other);
}

-- what a tree has at a page stands in a node
pub at-leaf : (nodes : List (Option Node)) (level : ℕ) (o : Option ℕ) (q : ℕ) (e : Entry) → look level nodes o q ≡ Some e
    → (k : ℕ) × (entry_in (node_at nodes k) (q % 32) ≡ Some e)
at-leaf nodes level None q e is = absurd (some-none e (sym is))
at-leaf nodes zero (Some k) q e is = (k, is)
at-leaf nodes (suc level) (Some k) q e is = at-leaf nodes level (child_in (node_at nodes k) ((q / 32 ^ suc level) % 32)) q e is

-- what the map of a root has, is held
pub find-held : (nodes : List (Option Node)) (ids : List (Option Root)) (pool : Pool) (loose : ℕ → ℕ) (o : Option Root) (q : ℕ) (e : Entry)
    → IsHeld nodes pool loose → find q (pages_in (map_below nodes o)) ≡ Some e → 0 < count_at pool e.slot
find-held nodes ids pool loose None q e h is = absurd (some-none e (sym is))
find-held nodes ids pool loose (Some r) q e h is = elim (cases_lt q (2 ^ 20)) [
  | inl low ↦
      let at = at-leaf nodes 3 (Some r.node) q e (sym (find-below nodes r.node q low) ∙ is) in
      let used = entry-used (node_at nodes at.0) (q % 32) e at.1 in
      let has = total-has (slots_in e.slot) refl nodes at.0 in
      let c = h.counts e.slot in
      omega arith
  | inr high ↦ absurd (some-none e (sym is ∙ find-past nodes r.node q (omega arith)))
]

seen-once : (nodes : List (Option Node)) (ids : List (Option Root)) → AreSound nodes ids → (slot node : ℕ)
    → uses_in slot (get_or (map leaf_of nodes) node None) ≤ 1
seen-once nodes ids k slot node = let once = once-placed nodes k.placed slot node in
    let same = ap (uses_in slot) (get-map leaf_of refl nodes node) in omega arith

pub seen-held : (nodes : List (Option Node)) (ids : List (Option Root)) (pool : Pool) → AreSound nodes ids → IsHeld nodes pool (λ slot. 0)
    → Holds pool (seen nodes ids)
seen-held nodes ids pool k h = record {
  counts = λ slot. let a = h.counts slot in let b = total-leaves slot nodes in
      let same = places-nodes slot (map leaf_of nodes) (seen-once nodes ids k slot) in omega arith;
  once = seen-once nodes ids k;
  live = h.counted;
  found = λ id page entry is.
      live-of-count pool entry.slot (find-held nodes ids pool (λ slot. 0) (root_at ids id) page entry h
      (ap (λ (m : Option Pages). find page (pages_in m)) (sym (map-seen nodes ids id)) ∙ is));
  used = λ slot live.
      let some = h.counted slot live in
      let count = h.counts slot in
      let r = reached nodes ids k slot (omega arith) in
      record {
        id = r.id;
        page = r.page;
        entry = r.entry;
        found = ap (λ (m : Option Pages). find r.page (pages_in m)) (map-seen nodes ids r.id) ∙ r.found;
        is = r.is;
      };
}

-- maps that are as before read as before, where what is counted has its bytes
pub reads-same : (n n' : List (Option Node)) (ids ids' : List (Option Root)) (pool pool' : Pool) (loose : ℕ → ℕ) (id q : ℕ)
    → find q (pages_in (map_below n' (root_at ids' id))) ≡ find q (pages_in (map_below n (root_at ids id))) → IsHeld n' pool' loose
    → ((e : Entry) → find q (pages_in (map_below n (root_at ids id))) ≡ Some e → 0 < count_at pool' e.slot
    → bytes_at pool' e.slot ≡ bytes_at pool e.slot) → reads pool' (seen n' ids') id q ≡ reads pool (seen n ids) id q
reads-same n n' ids ids' pool pool' loose id q same h keeps =
    ap (λ (m : Option Pages). read_of pool' (find q (pages_in m))) (map-seen n' ids' id)
    ∙ ap (λ (o : Option Entry). read_of pool' o) same
    ∙ go (find q (pages_in (map_below n (root_at ids id)))) refl
    ∙ sym (ap (λ (m : Option Pages). read_of pool (find q (pages_in m))) (map-seen n ids id))
  where
    go : (o : Option Entry) → find q (pages_in (map_below n (root_at ids id))) ≡ o → read_of pool' o ≡ read_of pool o
    go None is = refl
    go (Some e) is =
        let count = find-held n' ids' pool' loose (root_at ids' id) q e h (same ∙ is) in
        ap (λ (b : List ℕ). let r : Option (List ℕ × ℕ) = Some (b, e.stamp) in r) (keeps e is count)

none-used : (pages : List (Option Page)) → ((k : ℕ) → get_or pages k None ≡ None) → used_in pages ≡ 0
none-used [] none = refl
none-used (None ∷ rest) none = none-used rest (λ k. none (suc k))
none-used (Some p ∷ rest) none = absurd (some-none p (none 0))

pub unused : (pool : Pool) → ((slot : ℕ) → IsLiveSlot pool slot → 0 < count_at pool slot) → ((slot : ℕ) → count_at pool slot ≡ 0)
    → used_in pool.slots ≡ 0
unused pool counted none = none-used pool.slots (λ k. elim (cases-option (get_or pool.slots k None)) [
  | inl none ↦ none
  | inr some ↦ absurd (let pos = counted k (some-live (get_or pool.slots k None) some.0 some.1) in let z = none k in omega arith)
])

-- no id is live
pub all-dead : (nodes : List (Option Node)) (ids : List (Option Root)) → ((id : ℕ) → map_of (seen nodes ids) id ≡ None) → (id : ℕ)
    → root_at ids id ≡ None
all-dead nodes ids none id = elim (cases-option (root_at ids id)) [
  | inl gone ↦ gone
  | inr some ↦ absurd (some-none (pages_below nodes some.0.node)
      (sym (ap (map_below nodes) some.1) ∙ sym (map-seen nodes ids id) ∙ none id))
]

pub get-found : (nodes : List (Option Node)) (ids : List (Option Root)) (id : ℕ) (root : Root) (page : ℕ) → root_at ids id ≡ Some root
    → page < 2 ^ 20 → find page (pages_of (seen nodes ids) id) ≡ look 3 nodes (Some root.node) page
get-found nodes ids id root page is low = ap (λ (m : Option Pages). find page (pages_in m))
    (map-seen nodes ids id ∙ ap (map_below nodes) is) ∙ find-below nodes root.node page low

pub get-past : (nodes : List (Option Node)) (ids : List (Option Root)) (id : ℕ) (root : Root) (page : ℕ) → root_at ids id ≡ Some root
    → 2 ^ 20 ≤ page → find page (pages_of (seen nodes ids) id) ≡ None
get-past nodes ids id root page is high = ap (λ (m : Option Pages). find page (pages_in m))
    (map-seen nodes ids id ∙ ap (map_below nodes) is) ∙ find-past nodes root.node page high

pub seen-held-same : (n n' : List (Option Node)) (ids ids' : List (Option Root)) (pool : Pool) → Holds pool (seen n ids) → AreSound n' ids'
    → ((slot : ℕ) → total (slots_in slot) n' ≡ total (slots_in slot) n) → Holds pool (seen n' ids')
seen-held-same n n' ids ids' pool h k same =
    let h0 = held-seen n ids pool h in
    seen-held n' ids' pool k (record { counts = λ slot. let c = h0.counts slot in let e = same slot in omega arith; counted = h0.counted })

pub seen-unchanged : (n n' : List (Option Node)) (ids ids' : List (Option Root)) (pool : Pool) → n' ≡ n → ids' ≡ ids
    → Holds pool (seen n ids) → Holds pool (seen n' ids')
seen-unchanged n n' ids ids' pool same same_ids h = rw (same, same_ids) h

-- the map of an id rises
pub seen-rising : (nodes : List (Option Node)) (ids : List (Option Root)) (id : ℕ) (root : Root) → root_at ids id ≡ Some root
    → RiseFrom 0 (pages_of (seen nodes ids) id)
seen-rising nodes ids id root is = subst (λ (m : Option Pages). RiseFrom 0 (pages_in m))
    (sym (map-seen nodes ids id ∙ ap (map_below nodes) is)) (below-rises nodes root.node)

-- a page that was put is the map's own, where no other page had its slot
pub own-put : (n n' : List (Option Node)) (ids ids' : List (Option Root)) (id page : ℕ) (entry : Entry) → PutsAt n n' ids ids' id page entry
    → ((other place : ℕ) (e : Entry) → find place (pages_in (map_below n (root_at ids other))) ≡ Some e → (other ≡ id → place ≡ page → ⊥)
    → e.slot ≢ entry.slot)
    → find page (pages_in (map_below n' (root_at ids' id))) ≡ Some entry → IsOwn (seen n' ids') id page
own-put n n' ids ids' id page entry p alone here = record {
  entry = entry;
  found = at id page ∙ here;
  only = λ other place e has same. elim (cases_eq other id) [
    | inl a ↦ elim (cases_eq place page) [
      | inl b ↦ (a, b)
      | inr far ↦
          let test = ne_eqb place page far in
          let before : find place (pages_in (map_below n (root_at ids id))) ≡ Some e = sym (p.found place ∙ rw test refl)
          ∙ sym (at id place) ∙ ap (λ i. find place (pages_of (seen n' ids') i)) (sym a) ∙ has in
          absurd (alone id place e before (λ _ b. far b) same)
    ]
    | inr ne ↦
        let before = ap (λ (m : Option Pages). find place (pages_in m)) (sym (p.others other ne)) ∙ sym (at other place) ∙ has in
        absurd (alone other place e before (λ a _. ne a) same)
  ];
}
  where
    at : (i q : ℕ) → find q (pages_of (seen n' ids') i) ≡ find q (pages_in (map_below n' (root_at ids' i)))
    at i q = ap (λ (m : Option Pages). find q (pages_in m)) (map-seen n' ids' i)
