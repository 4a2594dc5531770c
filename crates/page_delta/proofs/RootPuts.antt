-- An entry comes to a page of an id's map: what the ids and the slots are then.
use Rattle.std.proofs.Common.{◌≡◌, inl, inr, ℕ, ◌+◌, ◌-◌, ◌^◌, ◌<◌, List, length, set, Option, Some, None, IsSome, cond, eqb, refl, sym, ap, subst, ◌∙◌, arith}
use Rattle.std.proofs.lemmas.List.{set-get_or}
use Rattle.page_pool.specs.Pool.{Pool, count_at, IsLive}
use Rattle.page_delta.specs.Delta.{Pages, find, pages_in, uses}
use Rattle.page_delta.specs.Nodes.{node_at, count_in, look, pages_below}
use Rattle.page_delta.specs.Shared.{IsShared, IsCounted, Differs}
use Rattle.page_delta.specs.Roots.{root_at, map_below, AreSound, IsHeld, PutsOwn, PutsAt}
use Rattle.page_delta.specs.declared.entry.Entry.{Entry}
use Rattle.page_delta.specs.declared.node.Node.{Node}
use Rattle.page_delta.specs.declared.roots.Root.{Root}
use Rattle.page_delta.proofs.Sharing.{not-some, cases-option, some-live, one-same, one-other}
use Rattle.page_delta.proofs.Pools.{live-of-count, Recounts}
use Rattle.page_delta.proofs.Rooted.{replaced-here}
use Rattle.page_delta.proofs.Lookups.{one_of, pages-most}
use Rattle.page_delta.proofs.Puts.{put-found, put-length, kept-placed, map-placed}
use Rattle.std.proofs.lemmas.Bool.{cases_eq}

pub the-root : (ids : List (Option Root)) (id : ℕ) → IsSome (root_at ids id) → (r : Root) × (root_at ids id ≡ Some r)
the-root ids id live = elim (cases-option (root_at ids id)) [ inl gone ↦ absurd (not-some (root_at ids id) gone live) | inr here ↦ here ]

module _ {n0 n2 : List (Option Node)} {ids0 ids1 : List (Option Root)} {counts : ℕ → ℕ} {id page : ℕ} {entry : Entry} {before : Option Entry} (p : PutsOwn n0 n2 ids0 ids1 counts id page entry before) (low : page < 2 ^ 20) (r : Root) (is : root_at ids1 id ≡ Some r) where
  own_r : count_in (node_at p.mid r.node) ≡ 1
  own_r = ap (λ i. count_in (node_at p.mid i)) (p.rooted r is) ∙ p.own

  d_r : Differs 3 p.mid n2 r.node page entry
  d_r = subst (λ i. Differs 3 p.mid n2 i page entry) (sym (p.rooted r is)) p.differs

  length_r : length (pages_below n2 r.node) + one_of before ≡ r.pages + 1
  length_r =
      let len = put-length p.mid n2 ids1 id page r entry p.kept is own_r d_r p.levels low in
      let at : one_of (look 3 p.mid (Some r.node) page) ≡ one_of before = ap (λ i. one_of (look 3 p.mid (Some i) page)) (p.rooted r is) ∙ ap one_of p.before_is in
      let size = p.kept.sizes id r is in
      omega arith

  found_r : (q : ℕ) → find q (pages_below n2 r.node) ≡ cond (eqb q page) (Some entry) (find q (pages_in (map_below n0 (root_at ids0 id))))
  found_r q =
      put-found p.mid n2 ids1 id page r entry p.kept is own_r d_r p.levels low q
      ∙ ap (λ (m : Option Pages). cond (eqb q page) (Some entry) (find q (pages_in m))) (sym (ap (map_below p.mid) is) ∙ p.maps id)

  module _ (pages : ℕ) (size : pages ≡ length (pages_below n2 r.node)) where
    kept-put : AreSound n2 (set ids1 id (Some (record { node = r.node; pages = pages })))
    kept-put = kept-placed p.mid n2 ids1 id page r entry p.kept is own_r d_r p.levels low pages size counts (λ slot. 0 + uses slot before) p.shared p.placed p.few

    puts-at : PutsAt n0 n2 ids0 (set ids1 id (Some (record { node = r.node; pages = pages }))) id page entry
    puts-at =
        let here = replaced-here ids1 id r (record { node = r.node; pages = pages }) is in
        record {
          live = some-live (root_at (set ids1 id (Some (record { node = r.node; pages = pages }))) id) (record { node = r.node; pages = pages }) here;
          found = λ q. ap (λ (o : Option Root). find q (pages_in (map_below n2 o))) here ∙ found_r q;
          others = λ other ne. map-placed p.mid n2 ids1 id page r entry p.kept is own_r d_r p.levels low pages size other ne ∙ p.maps other;
        }

  set_back : set ids1 id (Some r) ≡ ids1
  set_back = ap (λ (o : Option Root). set ids1 id o) (sym is) ∙ set-get_or ids1 id None

  module _ (e : Entry) (was : before ≡ Some e) where
    same_size : r.pages ≡ length (pages_below n2 r.node)
    same_size = let len = length_r in let one_is : one_of before ≡ 1 = ap one_of was in omega arith

    kept_same : AreSound n2 ids1
    kept_same = subst (λ (i : List (Option Root)). AreSound n2 i) set_back (kept-put r.pages same_size)

    puts_same : PutsAt n0 n2 ids0 ids1 id page entry
    puts_same = subst (λ (i : List (Option Root)). PutsAt n0 n2 ids0 i id page entry) set_back (puts-at r.pages same_size)

  module _ (was : before ≡ None) where
    more_size : r.pages + 1 ≡ length (pages_below n2 r.node)
    more_size = let len = length_r in let zero_is : one_of before ≡ 0 = ap one_of was in omega arith

    pub more_fits : r.pages + 1 < 2 ^ 32
    more_fits = let size = more_size in let most = pages-most n2 r.node in omega arith

    pub kept-more : AreSound n2 (set ids1 id (Some (record { node = r.node; pages = r.pages + 1 })))
    kept-more = kept-put (r.pages + 1) more_size

    pub puts-more : PutsAt n0 n2 ids0 (set ids1 id (Some (record { node = r.node; pages = r.pages + 1 }))) id page entry
    puts-more = puts-at (r.pages + 1) more_size

-- where the page had an entry, the ids are the same
module _ {n0 n2 : List (Option Node)} {ids0 ids1 : List (Option Root)} {counts : ℕ → ℕ} {id page : ℕ} {entry before : Entry} (p : PutsOwn n0 n2 ids0 ids1 counts id page entry (Some before)) (low : page < 2 ^ 20) where
  pub kept-same : AreSound n2 ids1
  kept-same = let r = the-root ids1 id p.live in kept_same p low r.0 r.1 before refl

  pub puts-same : PutsAt n0 n2 ids0 ids1 id page entry
  puts-same = let r = the-root ids1 id p.live in puts_same p low r.0 r.1 before refl

-- the slot of the entry before is released
pub used-live : (n : List (Option Node)) (pool : Pool) (hands : ℕ → ℕ) (before : Entry) → IsShared n (count_at pool) hands (λ slot. 0 + uses slot (Some before)) → IsLive pool before.slot
used-live n pool hands before s =
    let c = s.held before.slot in let one_is = one-same before.slot before.slot refl in live-of-count pool before.slot (omega arith)

pub held-released : (n : List (Option Node)) (pool pool' : Pool) (hands : ℕ → ℕ) (before : Entry) → IsShared n (count_at pool) hands (λ slot. 0 + uses slot (Some before)) → Recounts pool pool' before.slot (count_at pool before.slot - 1) → IsHeld n pool' (λ slot. 0)
held-released n pool pool' hands before s r = record {
  counts = λ slot. let c = s.held slot in elim (cases_eq slot before.slot) [
    | inl e ↦
        let one_is = one-same before.slot slot e in
        let a : count_at pool' slot ≡ count_at pool before.slot - 1 = ap (λ i. count_at pool' i) e ∙ r.mine in
        let b : count_at pool slot ≡ count_at pool before.slot = ap (λ i. count_at pool i) e in
        omega arith
    | inr ne ↦ let zero_is = one-other before.slot slot ne in let a = r.others slot ne in omega arith
  ];
  counted = r.counted;
}

pub held-unused : (n : List (Option Node)) (pool : Pool) (hands : ℕ → ℕ) (o : Option Entry) → o ≡ None → IsShared n (count_at pool) hands (λ slot. 0 + uses slot o) → IsCounted pool → IsHeld n pool (λ slot. 0)
held-unused n pool hands o gone s counted = record {
  counts = λ slot. let c = s.held slot in let z : uses slot o ≡ 0 = ap (uses slot) gone in omega arith;
  counted = counted;
}
