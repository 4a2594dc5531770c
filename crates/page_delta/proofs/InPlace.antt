-- A page that no other map has is written where it stands.
use Rattle.std.proofs.Common.{◌≡◌, ◌≢◌, inl, inr, ℕ, suc, ◌+◌, ◌/◌, ◌%◌, ◌^◌, ◌<◌, ◌≤◌, List, set, Option, Some, None, IsSome, is_some, count_by, refl, sym, ap, subst, ◌∙◌, arith}
use Rattle.std.proofs.lemmas.Bool.{cases_eq, cases_lt, eq-eqb, ne_eqb}
use Rattle.std.proofs.lemmas.List.{get_or-set_same, get_or-set_other}
use Rattle.page_pool.specs.Pool.{Pool, Page, page_at, count_at, bytes_at, count_in as count_of, bytes_in, with_bytes, IsLive}
use Rattle.page_delta.specs.Totals.{total}
use Rattle.page_delta.specs.Delta.{Pages, find, pages_in, read_of, uses, Sets}
use Rattle.page_delta.specs.Nodes.{node_at, child_in, entry_in, count_in, level_in, look, with_entry}
use Rattle.page_delta.specs.Shared.{slots_in, StandsAt, IsShared, KeepsLevels, Owned, Differs}
use Rattle.page_delta.specs.Roots.{root_at, map_below, roots, AreSound, IsHeld, PutsOwn, PutsAt, IsOwnPlace}
use Rattle.page_delta.specs.declared.entry.Entry.{Entry}
use Rattle.page_delta.specs.declared.node.Node.{Node}
use Rattle.page_delta.specs.declared.roots.Root.{Root}
use Rattle.page_delta.proofs.Sums.{total-has}
use Rattle.page_delta.proofs.Sharing.{some-none, cases-option, some-live, one, one-same, one-other, shared-counts}
use Rattle.page_delta.proofs.Counting.{live-below}
use Rattle.page_delta.proofs.Copies.{entry-used}
use Rattle.page_delta.proofs.Places.{stands-found}
use Rattle.page_delta.proofs.Looks.{digits}
use Rattle.page_delta.proofs.Inserting.{Descends, inserted-differs, inserted-levels, inserted-placed, inserted-shared}
use Rattle.page_delta.proofs.Lookups.{find-below, find-past}
use Rattle.page_delta.proofs.Pools.{live-of-count, page-same}
use Rattle.page_delta.proofs.Puts.{alone}
use Rattle.page_delta.proofs.Rooted.{kept-live}
use Rattle.page_delta.proofs.RootPuts.{kept-same, puts-same}
use Rattle.page_delta.proofs.Seen.{seen, map-seen, live-seen, at-leaf, reads-same, own-put}

-- a child that is there and counted once is own
owned-child : (xs : List (Option Node)) (parent d child : ℕ) → child_in (node_at xs parent) d ≡ Some child
    → count_in (node_at xs child) ≡ 1 → Owned xs xs parent d child
owned-child xs parent d child is once = record {
  child_is = is;
  own = once;
  count = refl;
  levels = λ m live. (live, refl);
  above = λ m high ne. refl;
  looks = λ level m q live. refl;
  places = λ slot place at. at;
}

pub placed-live : (xs : List (Option Node)) (pool : Pool) (leaf digit : ℕ) (entry : Entry) → IsHeld xs pool (λ s. 0)
    → entry_in (node_at xs leaf) digit ≡ Some entry → IsLive pool entry.slot
placed-live xs pool leaf digit entry h is =
    let used = entry-used (node_at xs leaf) digit entry is in
    let has = total-has (slots_in entry.slot) refl xs leaf in
    let count = h.counts entry.slot in
    live-of-count pool entry.slot (omega arith)

-- the node with an entry at a digit, if there is a node
abbrev entry_to : Option Node → ℕ → Entry → Option Node
entry_to None d e = None
entry_to (Some n) d e = Some (with_entry n d e)

module _ (xs : List (Option Node)) (ids : List (Option Root)) (pool : Pool) (id page leaf slot : ℕ) (k : AreSound xs ids)
    (h : IsHeld xs pool (λ s. 0)) (low : page < 2 ^ 20) (o : IsOwnPlace xs ids pool id page leaf slot) where
  abbrev hands : ℕ → ℕ
  hands key = total (roots key) ids

  abbrev c0 : ℕ → ℕ
  c0 s = total (slots_in s) xs

  abbrev z : ℕ → ℕ
  z s = 0

  top : level_in (node_at xs o.root.node) ≡ 3
  top = k.tops id o.root o.root_is

  upper_own : Owned xs xs o.root.node ((page / 32768) % 32) o.leaf_is.upper
  upper_own = owned-child xs o.root.node ((page / 32768) % 32) o.leaf_is.upper o.leaf_is.upper_is o.leaf_is.own_upper

  lower_own : Owned xs xs o.leaf_is.upper ((page / 1024) % 32) o.leaf_is.lower
  lower_own = owned-child xs o.leaf_is.upper ((page / 1024) % 32) o.leaf_is.lower o.leaf_is.lower_is o.leaf_is.own_lower

  leaf_own : Owned xs xs o.leaf_is.lower ((page / 32) % 32) leaf
  leaf_own = owned-child xs o.leaf_is.lower ((page / 32) % 32) leaf o.leaf_is.leaf_is o.leaf_is.own_leaf

  look_is : look 3 xs (Some o.root.node) page ≡ Some o.entry
  look_is =
      ap (λ (c : Option ℕ). look 2 xs c page) o.leaf_is.upper_is
      ∙ ap (λ (c : Option ℕ). look 1 xs c page) o.leaf_is.lower_is
      ∙ ap (λ (c : Option ℕ). look 0 xs c page) o.leaf_is.leaf_is
      ∙ o.entry_is

  -- what the leaf names when an entry has come to the place
  module _ (ys : List (Option Node)) (entry : Entry)
      (now : (n : Node) → node_at xs leaf ≡ Some n → node_at ys leaf ≡ Some (with_entry n (page % 32) entry))
      (rest : (m : ℕ) → m ≢ leaf → node_at ys m ≡ node_at xs m) where
    descends : Descends xs xs xs xs ys o.root.node page entry
    descends = record {
      upper = o.leaf_is.upper;
      lower = o.leaf_is.lower;
      leaf = leaf;
      to_upper = upper_own;
      to_lower = lower_own;
      to_leaf = leaf_own;
      top = top;
      hands = hands;
      loose = z;
      counts1 = c0;
      counts2 = c0;
      counts3 = c0;
      shared1 = k.shared;
      shared2 = k.shared;
      shared3 = k.shared;
      now = now;
      rest = rest;
    }

    shared_now : IsShared ys (λ s. c0 s + uses s (Some entry)) hands (λ s. 0 + uses s (look 3 xs (Some o.root.node) page))
    shared_now =
        inserted-shared xs xs xs xs ys o.root.node page entry descends
        (λ s. c0 s + uses s (Some entry)) hands z (shared-counts xs c0 (λ s. c0 s + uses s (Some entry)) hands z
        (λ s. 0 + uses s (Some entry)) k.shared (λ s. omega arith))

    slots_now : (s : ℕ) → total (slots_in s) ys + uses s (Some o.entry) ≡ total (slots_in s) xs + uses s (Some entry)
    slots_now s = let held = shared_now.held s in let before = ap (uses s) look_is in omega arith

    differs : Differs 3 xs ys o.root.node page entry
    differs = inserted-differs xs xs xs xs ys o.root.node page entry descends

    levels : KeepsLevels xs ys
    levels = inserted-levels xs xs xs xs ys o.root.node page entry descends

  abbrev other_entry : Entry
  other_entry = record { slot = suc slot; stamp = 0 }

  -- the nodes with another slot at the place: no leaf has the slot
  abbrev freed : List (Option Node)
  freed = set xs leaf (entry_to (node_at xs leaf) (page % 32) other_entry)

  freed_now : (n : Node) → node_at xs leaf ≡ Some n → node_at freed leaf ≡ Some (with_entry n (page % 32) other_entry)
  freed_now n is =
      get_or-set_same xs leaf (entry_to (node_at xs leaf) (page % 32) other_entry) None
      (live-below xs leaf (some-live (node_at xs leaf) n is))
      ∙ ap (λ i. entry_to i (page % 32) other_entry) is

  freed_rest : (m : ℕ) → m ≢ leaf → node_at freed m ≡ node_at xs m
  freed_rest m ne = get_or-set_other xs leaf m (entry_to (node_at xs leaf) (page % 32) other_entry) None ne

  freed_differs : Differs 3 xs freed o.root.node page other_entry
  freed_differs = differs freed other_entry freed_now freed_rest

  unused : total (slots_in slot) freed ≡ 0
  unused =
      let moved = slots_now freed other_entry freed_now freed_rest slot in
      let mine : uses slot (Some o.entry) ≡ 1 = one-same o.entry.slot slot (sym o.slot_is) in
      let other : uses slot (Some other_entry) ≡ 0 = one-other (suc slot) slot (λ e. omega arith) in
      let counts = h.counts slot in
      let once = o.once in
      omega arith

  -- no other page of any map has the slot
  only_here : (other q : ℕ) (e : Entry) → find q (pages_in (map_below xs (root_at ids other))) ≡ Some e → (other ≡ id → q ≡ page → ⊥)
      → e.slot ≢ slot
  only_here other q e is other_place same = elim (cases-option (root_at ids other)) [
    | inl gone ↦ some-none e (sym is ∙ ap (λ (r : Option Root). find q (pages_in (map_below xs r))) gone)
    | inr r ↦ elim (cases_lt q (2 ^ 20)) [
      | inl small ↦ found_not r.0 r.1 small (sym (find-below xs r.0.node q small)
          ∙ sym (ap (λ (m : Option Root). find q (pages_in (map_below xs m))) r.1) ∙ is)
      | inr large ↦ some-none e (sym is ∙ ap (λ (m : Option Root). find q (pages_in (map_below xs m))) r.1
          ∙ find-past xs r.0.node q (omega arith))
    ]
  ]
    where
      looked : (r : Root) → root_at ids other ≡ Some r → q < 2 ^ 20 → look 3 freed (Some r.node) q ≡ look 3 xs (Some r.node) q
      looked r r_is small = elim (cases_eq other id) [
        | inl eq ↦
            let both : Some r ≡ Some o.root = sym r_is ∙ ap (λ i. root_at ids i) eq ∙ o.root_is in
            let root : o.root ≡ r = cc in
            subst (λ (i : Root). look 3 freed (Some i.node) q ≡ look 3 xs (Some i.node) q) root
            (freed_differs.apart q (λ agrees. other_place eq (sym (digits page q low small agrees))))
        | inr ne ↦ freed_differs.others r.node q (k.tops other r r_is) (kept-live xs ids other r k r_is)
            (alone xs ids id other o.root r k o.root_is r_is o.leaf_is.own_root ne)
      ]

      found_not : (r : Root) → root_at ids other ≡ Some r → q < 2 ^ 20 → look 3 xs (Some r.node) q ≡ Some e → ⊥
      found_not r r_is small found =
          let at = at-leaf freed 3 (Some r.node) q e (looked r r_is small ∙ found) in
          let used = entry-used (node_at freed at.0) (q % 32) e at.1 in
          let has = total-has (slots_in e.slot) refl freed at.0 in
          let none : total (slots_in e.slot) freed ≡ 0 = ap (λ s. total (slots_in s) freed) same ∙ unused in
          omega arith

  module _ (ys : List (Option Node)) (entry : Entry) (bytes : List ℕ) (is : entry.slot ≡ slot)
      (now : (n : Node) → node_at xs leaf ≡ Some n → node_at ys leaf ≡ Some (with_entry n (page % 32) entry))
      (rest : (m : ℕ) → m ≢ leaf → node_at ys m ≡ node_at xs m) (few : count_by is_some ys ≤ 2 ^ 26) where
    same_slots : (s : ℕ) → total (slots_in s) ys ≡ total (slots_in s) xs
    same_slots s =
        let moved = slots_now ys entry now rest s in
        let same : uses s (Some o.entry) ≡ uses s (Some entry) = ap (λ i. one i s) (o.slot_is ∙ sym is) in
        omega arith

    puts : PutsOwn xs ys ids ids (λ s. c0 s + uses s (Some entry)) id page entry (Some o.entry)
    puts = record {
      mid = xs;
      root = o.root.node;
      live = some-live (root_at ids id) o.root o.root_is;
      rooted = λ r r_is. (let both : Some r ≡ Some o.root = sym r_is ∙ o.root_is in let same : r ≡ o.root = cc in
          ap (λ (i : Root). i.node) same);
      kept = k;
      own = o.leaf_is.own_root;
      maps = λ other. refl;
      before_is = look_is;
      differs = differs ys entry now rest;
      levels = levels ys entry now rest;
      placed = inserted-placed xs xs xs xs ys o.root.node page entry (descends ys entry now rest) k.placed
          (subst (λ s. StandsAt xs s (page % 32)) (o.slot_is ∙ sym is) (stands-found xs leaf (page % 32) o.entry k.placed o.entry_is));
      shared = subst (λ (e : Option Entry). IsShared ys (λ s. c0 s + uses s (Some entry)) hands (λ s. 0 + uses s e)) look_is
          (shared_now ys entry now rest);
      few = few;
    }

    pub kept-in-place : AreSound ys ids
    kept-in-place = kept-same puts low

    put : PutsAt xs ys ids ids id page entry
    put = puts-same puts low

    page_here : page_at (with_bytes pool slot bytes) slot ≡ Some (record { count = count_at pool slot; bytes = bytes })
    page_here =
        page-same pool slot (Some (record { count = count_at pool slot; bytes = bytes })) slot
        (live-of-count pool slot (let once = o.once in omega arith)) refl

    page_there : (s : ℕ) → s ≢ slot → page_at (with_bytes pool slot bytes) s ≡ page_at pool s
    page_there s ne = get_or-set_other pool.slots slot s (Some (record { count = count_at pool slot; bytes = bytes })) None ne

    same_count : (s : ℕ) → count_at (with_bytes pool slot bytes) s ≡ count_at pool s
    same_count s = elim (cases_eq s slot) [
      | inl e ↦ ap (λ i. count_at (with_bytes pool slot bytes) i) e ∙ ap count_of page_here ∙ ap (λ i. count_at pool i) (sym e)
      | inr ne ↦ ap count_of (page_there s ne)
    ]

    pub held-in-place : IsHeld ys (with_bytes pool slot bytes) (λ s. 0)
    held-in-place = record {
      counts = λ s. let count = same_count s in let before = h.counts s in let slots = same_slots s in omega arith;
      counted = λ s live. elim (cases_eq s slot) [
        | inl e ↦ let count = same_count s in let mine : count_at pool s ≡ count_at pool slot = ap (λ i. count_at pool i) e in
            let once = o.once in omega arith
        | inr ne ↦ let count = same_count s in let pos = h.counted s (subst (λ (p : Option Page). IsSome p) (page_there s ne) live) in
            omega arith
      ];
    }

    bytes_there : (s : ℕ) → s ≢ slot → bytes_at (with_bytes pool slot bytes) s ≡ bytes_at pool s
    bytes_there s ne = ap bytes_in (page_there s ne)

    pub sets-in-place : Sets pool (with_bytes pool slot bytes) (seen xs ids) (seen ys ids) id page bytes entry.stamp
    sets-in-place =
        let at : find page (pages_in (map_below ys (root_at ids id))) ≡ Some entry = put.found page ∙ rw (eq-eqb page page refl) refl in
        let end : Pool = with_bytes pool slot bytes in
        record {
          live = live-seen ys ids id put.live;
          written =
              ap (λ (m : Option Pages). read_of end (find page (pages_in m))) (map-seen ys ids id)
              ∙ ap (λ (i : Option Entry). read_of end i) at
              ∙ ap (λ (b : List ℕ). let r : Option (List ℕ × ℕ) = Some (b, entry.stamp) in r)
              (ap (λ i. bytes_at end i) is ∙ ap bytes_in page_here);
          rest = λ other ne.
              reads-same xs ys ids ids pool end (λ s. 0) id other (put.found other ∙ rw (ne_eqb other page ne) refl) held-in-place
              (λ e has still. bytes_there e.slot (only_here id other e has (λ same at_page. ne at_page)));
          entries = λ other ne.
              ap (λ (m : Option Pages). find other (pages_in m)) (map-seen ys ids id) ∙ put.found other ∙ rw (ne_eqb other page ne) refl
              ∙ sym (ap (λ (m : Option Pages). find other (pages_in m)) (map-seen xs ids id));
          others = λ other ne. map-seen ys ids other ∙ put.others other ne ∙ sym (map-seen xs ids other);
          elsewhere = λ other place ne.
              reads-same xs ys ids ids pool end (λ s. 0) other place
              (ap (λ (m : Option Pages). find place (pages_in m)) (put.others other ne)) held-in-place
              (λ e has still. bytes_there e.slot (only_here other place e has (λ same at_page. ne same)));
          own = own-put xs ys ids ids id page entry put (λ other place e has far same. only_here other place e has far (same ∙ is)) at;
        }
