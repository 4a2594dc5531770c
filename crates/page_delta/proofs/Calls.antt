-- What a call of `Deltas` does to what a contract sees.
use Rattle.std.proofs.Common.{◌≡◌, ◌≢◌, inl, inr, ℕ, zero, suc, ◌<◌, List, [], ◌∷◌, ◌++◌, length, replicate, get_or, Option, Some, None, IsSome, refl, sym, ap, subst, ◌∙◌, arith}
use Rattle.std.proofs.lemmas.Bool.{cases_eq, eq-eqb, ne_eqb}
use Rattle.std.proofs.lemmas.List.{get_or-set_same, get_or-set_other}
use Rattle.page_pool.specs.Pool.{Pool, Page, page_at, count_at, bytes_at, count_in as count_of, bytes_in, with_room, with_new}
use Rattle.page_delta.specs.Delta.{Pages, pages_in, find, read_of, uses, Sets, Drops}
use Rattle.page_delta.specs.Shared.{KeepsBytes}
use Rattle.page_delta.specs.Roots.{root_at, map_below, IsHeld, PutsAt}
use Rattle.page_delta.specs.declared.entry.Entry.{Entry}
use Rattle.page_delta.specs.declared.node.Node.{Node}
use Rattle.page_delta.specs.declared.roots.Root.{Root}
use Rattle.page_delta.proofs.Sharing.{one-same, one-other}
use Rattle.page_delta.proofs.Seen.{seen, map-seen, live-seen, reads-same, find-held, own-put}

room-more : (slots : List (Option Page)) (n k : ℕ) → get_or (slots ++ replicate n None) k None ≡ get_or slots k None
room-more [] zero k = refl
room-more [] (suc n) zero = refl
room-more [] (suc n) (suc k) = room-more [] n k
room-more (x ∷ xs) n zero = refl
room-more (x ∷ xs) n (suc k) = room-more xs n k

-- a page in a slot that was free
module _ (pool mid now : Pool) (slot n : ℕ) (bytes : List ℕ) (room : mid ≡ with_room pool n) (free : page_at mid slot ≡ None) (within : slot < length mid.slots) (put : now ≡ with_new mid slot bytes) where
  mid_at : (k : ℕ) → page_at mid k ≡ page_at pool k
  mid_at k = ap (λ (p : Pool). page_at p k) room ∙ room-more pool.slots n k

  now_here : page_at now slot ≡ Some (record { count = 1; bytes = bytes })
  now_here = ap (λ (p : Pool). page_at p slot) put ∙ get_or-set_same mid.slots slot (Some (record { count = 1; bytes = bytes })) None within

  now_there : (k : ℕ) → k ≢ slot → page_at now k ≡ page_at pool k
  now_there k ne = ap (λ (p : Pool). page_at p k) put ∙ get_or-set_other mid.slots slot k (Some (record { count = 1; bytes = bytes })) None ne ∙ mid_at k

  pub slot-free : count_at pool slot ≡ 0
  slot-free = ap count_of (sym (mid_at slot) ∙ free)

  pub new-bytes : bytes_at now slot ≡ bytes
  new-bytes = ap bytes_in now_here

  -- a slot that was counted is another one
  pub old-bytes : (k : ℕ) → 0 < count_at pool k → bytes_at now k ≡ bytes_at pool k
  old-bytes k some = ap bytes_in (now_there k (λ e. let z : count_at pool k ≡ 0 = ap count_of (sym (mid_at k) ∙ ap (λ i. page_at mid i) e ∙ free) in omega arith))

  pub held-new : (nodes : List (Option Node)) (entry : Entry) → entry.slot ≡ slot → IsHeld nodes pool (λ s. 0) → IsHeld nodes now (λ s. uses s (Some entry))
  held-new nodes entry is h = record {
    counts = λ s. elim (cases_eq s slot) [
      | inl e ↦
          let one_is : uses s (Some entry) ≡ 1 = one-same entry.slot s (e ∙ sym is) in
          let z : count_at pool s ≡ 0 = ap count_of (sym (mid_at s) ∙ ap (λ i. page_at mid i) e ∙ free) in
          let c = h.counts s in
          let here : count_at now s ≡ 1 = ap count_of (ap (λ i. page_at now i) e ∙ now_here) in
          omega arith
      | inr ne ↦
          let zero_is : uses s (Some entry) ≡ 0 = one-other entry.slot s (λ e. ne (e ∙ is)) in
          let c = h.counts s in
          let there : count_at now s ≡ count_at pool s = ap count_of (now_there s ne) in
          omega arith
    ];
    counted = λ s live. elim (cases_eq s slot) [
      | inl e ↦ let here : count_at now s ≡ 1 = ap count_of (ap (λ i. page_at now i) e ∙ now_here) in omega arith
      | inr ne ↦
          let there : count_at now s ≡ count_at pool s = ap count_of (now_there s ne) in
          let pos = h.counted s (subst (λ (o : Option Page). IsSome o) (now_there s ne) live) in
          omega arith
    ];
  }

  pub sets : (n0 n1 : List (Option Node)) (ids0 ids1 : List (Option Root)) (end : Pool) (id page stamp : ℕ) (entry : Entry) → entry.slot ≡ slot → entry.stamp ≡ stamp
      → IsHeld n0 pool (λ s. 0) → IsHeld n1 end (λ s. 0) → PutsAt n0 n1 ids0 ids1 id page entry → KeepsBytes now end → Sets pool end (seen n0 ids0) (seen n1 ids1) id page bytes stamp
  sets n0 n1 ids0 ids1 end id page stamp entry is is_stamp h0 h1 p keeps =
      let kept : (k : ℕ) → 0 < count_at pool k → 0 < count_at end k → bytes_at end k ≡ bytes_at pool k = λ k some still. (keeps k still).1 ∙ old-bytes k some in
      let at : find page (pages_in (map_below n1 (root_at ids1 id))) ≡ Some entry = p.found page ∙ rw (eq-eqb page page refl) refl in
      record {
        live = live-seen n1 ids1 id p.live;
        written =
            ap (λ (m : Option Pages). read_of end (find page (pages_in m))) (map-seen n1 ids1 id) ∙ ap (λ (o : Option Entry). read_of end o) at
            ∙ ap (λ (b : List ℕ). let r : Option (List ℕ × ℕ) = Some (b, entry.stamp) in r) (ap (λ i. bytes_at end i) is ∙ (keeps slot (subst (λ i. 0 < count_at end i) is (find-held n1 ids1 end (λ s. 0) (root_at ids1 id) page entry h1 at))).1 ∙ new-bytes)
            ∙ ap (λ s. let r : Option (List ℕ × ℕ) = Some (bytes, s) in r) is_stamp;
        rest = λ other ne.
            reads-same n0 n1 ids0 ids1 pool end (λ s. 0) id other (p.found other ∙ rw (ne_eqb other page ne) refl) h1
            (λ e has still. kept e.slot (find-held n0 ids0 pool (λ s. 0) (root_at ids0 id) other e h0 has) still);
        entries = λ other ne.
            ap (λ (m : Option Pages). find other (pages_in m)) (map-seen n1 ids1 id) ∙ p.found other ∙ rw (ne_eqb other page ne) refl
            ∙ sym (ap (λ (m : Option Pages). find other (pages_in m)) (map-seen n0 ids0 id));
        others = λ other ne. map-seen n1 ids1 other ∙ p.others other ne ∙ sym (map-seen n0 ids0 other);
        elsewhere = λ other place ne.
            reads-same n0 n1 ids0 ids1 pool end (λ s. 0) other place (ap (λ (m : Option Pages). find place (pages_in m)) (p.others other ne)) h1
            (λ e has still. kept e.slot (find-held n0 ids0 pool (λ s. 0) (root_at ids0 other) place e h0 has) still);
        own = own-put n0 n1 ids0 ids1 id page entry p
            (λ other place e has _ same.
            let some = find-held n0 ids0 pool (λ s. 0) (root_at ids0 other) place e h0 has in
            let none : count_at pool e.slot ≡ 0 = ap (λ i. count_at pool i) (same ∙ is) ∙ slot-free in
            omega arith) at;
      }

pub drops : (n0 n1 : List (Option Node)) (ids0 ids1 : List (Option Root)) (pool end : Pool) (id : ℕ) → IsHeld n1 end (λ s. 0) → root_at ids1 id ≡ None
    → ((other : ℕ) → other ≢ id → map_below n1 (root_at ids1 other) ≡ map_below n0 (root_at ids0 other)) → KeepsBytes pool end → Drops pool end (seen n0 ids0) (seen n1 ids1) id
drops n0 n1 ids0 ids1 pool end id h1 gone others keeps = record {
  dead = map-seen n1 ids1 id ∙ ap (map_below n1) gone;
  others = λ other ne. map-seen n1 ids1 other ∙ others other ne ∙ sym (map-seen n0 ids0 other);
  elsewhere = λ other place ne.
      reads-same n0 n1 ids0 ids1 pool end (λ s. 0) other place (ap (λ (m : Option Pages). find place (pages_in m)) (others other ne)) h1 (λ e has still. (keeps e.slot still).1);
}
