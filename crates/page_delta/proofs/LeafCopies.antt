-- A leaf has the entries of another whose stamp is above a bound.
use Rattle.std.proofs.Common.{◌≡◌, ◌≢◌, inl, inr, ℕ, ◌+◌, ◌*◌, ◌%◌, ◌^◌, ◌<◌, ◌≤◌, List, [], ◌∷◌, length, get_or, set, replicate, Bool, true, false, nat_lt, cond, Option, Some, None, is_some, count_by, refl, sym, ap, ◌∙◌, arith, length-set}
use Rattle.std.proofs.lemmas.Bool.{cases_eq, cases_lt, ltb-true, lt-ltb}
use Rattle.std.proofs.lemmas.List.{get_or-set_same, get_or-set_other}
use Rattle.page_pool.specs.Pool.{Pool, count_at, IsLive}
use Rattle.page_delta.specs.Delta.{Pages, pages_after, if_after}
use Rattle.page_delta.specs.Nodes.{node_at, entry_in, level_in, names, with_entry, look, leaf_part, part}
use Rattle.page_delta.specs.Shared.{slots_in, KeepsPlaces, IsNewer, Stands, IsCounted, KeepsBytes}
use Rattle.page_delta.specs.Roots.{KeepsTree, HasNewer}
use Rattle.page_delta.specs.declared.entry.Entry.{Entry}
use Rattle.page_delta.specs.declared.node.Node.{Node}
use Rattle.page_delta.specs.declared.node.Node.TheVariants.{Leaf}
use Rattle.page_delta.specs.declared.roots.Root.{Root}
use Rattle.page_delta.proofs.Sharing.{some-none, shared-as, shared-counts, shared-insert}
use Rattle.page_delta.proofs.Copies.{entry-live}
use Rattle.page_delta.proofs.Owning.{empty-place}
use Rattle.page_delta.proofs.Walks.{leaf-start, leaf-none, leaf-old, leaf-new, leaf-whole, length-append}
use Rattle.page_delta.proofs.Filling.{stays-but, stays-self}

pub newer-start : (b : ℕ) (node leaf : Node) → leaf ≡ Leaf 1 (replicate 32 None) → IsNewer b node leaf 0 0
newer-start b node leaf is = record {
  entries = replicate 32 None;
  is = is;
  wide = refl;
  has = λ d low. absurd (omega arith);
  rest = λ d past. empty-place 32 d;
  few = omega arith;
  counted = λ p. sym (ap (λ (ps : Pages). length (pages_after b ps)) (leaf-start (Some node) p));
  none = λ z d. empty-place 32 d;
}

-- a place with nothing, or nothing new
newer-skip : (b : ℕ) (node leaf : Node) (pages d : ℕ) → IsNewer b node leaf pages d → if_after b (entry_in (Some node) d) ≡ None
    → ((p : ℕ) → pages_after b (leaf_part (Some node) p (d + 1)) ≡ pages_after b (leaf_part (Some node) p d))
    → IsNewer b node leaf pages (d + 1)
newer-skip b node leaf pages d n none same = record {
  entries = n.entries;
  is = n.is;
  wide = n.wide;
  has = λ e low. elim (cases_eq e d) [
    | inl at ↦ n.rest e (omega arith) ∙ sym (ap (λ i. if_after b (entry_in (Some node) i)) at ∙ none)
    | inr far ↦ n.has e (omega arith)
  ];
  rest = λ e past. n.rest e (omega arith);
  few = let few = n.few in omega arith;
  counted = λ p. n.counted p ∙ sym (ap (λ (ps : List ℕ). length ps) (same p));
  none = n.none;
}

pub newer-pass : (b : ℕ) (node leaf : Node) (pages d : ℕ) → IsNewer b node leaf pages d → d < 32 → entry_in (Some node) d ≡ None
    → IsNewer b node leaf pages (d + 1)
newer-pass b node leaf pages d n low is = newer-skip b node leaf pages d n (ap (if_after b) is) (λ p. leaf-none b (Some node) p d low is)

pub newer-old : (b : ℕ) (node leaf : Node) (pages d : ℕ) (e : Entry) → IsNewer b node leaf pages d → d < 32
    → entry_in (Some node) d ≡ Some e → e.stamp ≤ b → IsNewer b node leaf pages (d + 1)
newer-old b node leaf pages d e n low is old =
    newer-skip b node leaf pages d n (ap (if_after b) is ∙ test (nat_lt b e.stamp) refl) (λ p. leaf-old b (Some node) p d e low is old)
  where
    test : (t : Bool) → nat_lt b e.stamp ≡ t → cond t (Some e) None ≡ None
    test true h = absurd (let low = ltb-true b e.stamp h in omega arith)
    test false h = refl

pub newer-take : (b : ℕ) (node leaf : Node) (pages d : ℕ) (e : Entry) → IsNewer b node leaf pages d → d < 32
    → entry_in (Some node) d ≡ Some e → b < e.stamp → IsNewer b node (with_entry leaf d e) (pages + 1) (d + 1)
newer-take b node leaf pages d e n low is new =
    let wide = n.wide in
    let inside : d < length n.entries = omega arith in
    record {
      entries = set n.entries d (Some e);
      is = ap (λ (l : Node). with_entry l d e) n.is;
      wide = length-set n.entries d (Some e) ∙ n.wide;
      has = λ i small. elim (cases_eq i d) [
        | inl at ↦
            ap (λ k. get_or (set n.entries d (Some e)) k None) at ∙ get_or-set_same n.entries d (Some e) None inside
            ∙ sym (ap (λ k. if_after b (entry_in (Some node) k)) at ∙ ap (if_after b) is
            ∙ ap (λ (t : Bool). cond t (Some e) None) (lt-ltb b e.stamp new))
        | inr far ↦ get_or-set_other n.entries d i (Some e) None far ∙ n.has i (omega arith)
      ];
      rest = λ i past. get_or-set_other n.entries d i (Some e) None (λ at. omega arith) ∙ n.rest i (omega arith);
      few = let few = n.few in omega arith;
      counted = λ p.
          let mine = n.counted p in
          let all = ap (λ (ps : List ℕ). length ps) (leaf-new b (Some node) p d e low is new)
          ∙ length-append (pages_after b (leaf_part (Some node) p d)) ((p * 32 + d) ∷ []) in
          omega arith;
      none = λ z. absurd (omega arith);
    }

after-some : (b : ℕ) (o : Option Entry) (e : Entry) → if_after b o ≡ Some e → o ≡ Some e
after-some b None e is = absurd (some-none e (sym is))
after-some b (Some x) e is = go (nat_lt b x.stamp) is
  where
    go : (t : Bool) → cond t (Some x) None ≡ Some e → Some x ≡ Some e
    go true same = same
    go false same = absurd (some-none e (sym same))

module _ (xs : List (Option Node)) (from b : ℕ) (src leaf : Node) (pages : ℕ) (here : node_at xs from ≡ Some src)
    (n : IsNewer b src leaf pages 32) where
  -- its entries are those of the other, at the same places
  pub newer-entry : (d : ℕ) (e : Entry) → entry_in (Some leaf) d ≡ Some e → entry_in (node_at xs from) d ≡ Some e
  newer-entry d e is =
      let mine : get_or n.entries d None ≡ Some e = sym (ap (λ (l : Node). entry_in (Some l) d) n.is) ∙ is in
      ap (λ o. entry_in o d) here ∙ elim (cases_lt d 32) [
        | inl low ↦ after-some b (entry_in (Some src) d) e (sym (n.has d low) ∙ mine)
        | inr past ↦ absurd (some-none e (sym mine ∙ n.rest d past))
      ]

  pub newer-live : (pool : Pool) → Stands xs pool → (d : ℕ) (e : Entry) → entry_in (Some leaf) d ≡ Some e → IsLive pool e.slot
  newer-live pool st d e is = entry-live xs pool st.hands st.loose from d e st.shared (newer-entry d e is)

  newer-sizes : (p : ℕ) → pages ≡ length (pages_after b (part 0 xs (Some from) p 32))
  newer-sizes p = n.counted p
      ∙ sym (ap (λ (ps : Pages). length (pages_after b ps)) (leaf-whole xs from p 32 ∙ ap (λ (o : Option Node). leaf_part o p 32) here))

  newer-has : (q : ℕ) → get_or n.entries (q % 32) None ≡ if_after b (look 0 xs (Some from) q)
  newer-has q = n.has (q % 32) (omega arith) ∙ sym (ap (λ o. if_after b (entry_in o (q % 32))) here)

  pub newer-none : (ys : List (Option Node)) → pages ≡ 0 → HasNewer xs ys from 0 b None
  newer-none ys none = record {
    level_is = λ r e. absurd (some-none r (sym e));
    looks = λ q. sym (n.none none (q % 32)) ∙ newer-has q;
    pages = λ p. sym none ∙ newer-sizes p;
    some = λ r e below. absurd (some-none r (sym e));
  }

  -- the leaf is put at a fresh key, and its slots are counted
  module _ (ys : List (Option Node)) (pool pool1 : Pool) (key : ℕ) (gone : node_at xs key ≡ None) (put : node_at ys key ≡ Some leaf)
      (rest : (m : ℕ) → m ≢ key → node_at ys m ≡ node_at xs m) where
    put_leaf : node_at ys key ≡ Some (Leaf 1 n.entries)
    put_leaf = put ∙ ap (λ (l : Node). Some l) n.is

    pub tree-newer : ((slot : ℕ) → count_at pool1 slot ≡ count_at pool slot + slots_in slot (Some leaf)) → count_by is_some ys ≤ 2 ^ 26
        → IsCounted pool1 → KeepsBytes pool pool1 → KeepsTree xs ys pool pool1 (Some key)
    tree-newer counts few counted keeps = record {
      shared = λ hands loose s.
          let slots : (slot : ℕ) → count_at pool1 slot ≡ count_at pool slot + slots_in slot (Some (Leaf 1 n.entries)) = λ slot. counts slot
          ∙ ap (λ (l : Node). count_at pool slot + slots_in slot (Some l)) n.is in
          shared-insert xs ys (count_at pool1) hands loose key (Leaf 1 n.entries)
          (shared-counts xs (count_at pool) (count_at pool1) (λ m. hands m + names m (Some (Leaf 1 n.entries))) loose
          (λ slot. loose slot + slots_in slot (Some (Leaf 1 n.entries)))
          (shared-as xs (count_at pool) hands (λ m. hands m + names m (Some (Leaf 1 n.entries))) loose loose s (λ m. omega arith)
          (λ slot. refl)) (λ slot. let c = slots slot in omega arith))
          record { gone = gone; here = put_leaf; rest = rest }
          record { once = refl; step = λ d c e. absurd (some-none c (sym e)); high = λ c l kids e. absurd (let no : ⊥ = cc in no); wide = n.wide; flat = omega arith };
      stays = stays-but xs xs ys key gone (stays-self xs) rest;
      places = moved;
      few = few;
      counted = counted;
      keeps = keeps;
    }
      where
        moved : KeepsPlaces xs ys
        moved slot place at k d e is same = elim (cases_eq k key) [
          | inl eq ↦ at from d e (newer-entry d e (sym (ap (λ o. entry_in o d) (ap (λ i. node_at ys i) eq ∙ put)) ∙ is)) same
          | inr ne ↦ at k d e (sym (ap (λ o. entry_in o d) (rest k ne)) ∙ is) same
        ]

    pub newer-some : (root : Root) → root.node ≡ key → root.pages ≡ pages → pages ≢ 0 → HasNewer xs ys from 0 b (Some root)
    newer-some root is size some = record {
      level_is = λ r e. (let same : root ≡ r = cc in ap (λ (i : Root). level_in (node_at ys i.node)) (sym same)
          ∙ ap (λ i. level_in (node_at ys i)) is ∙ ap level_in put_leaf);
      looks = λ q. ap (λ i. look 0 ys (Some i) q) is ∙ ap (λ o. entry_in o (q % 32)) put_leaf ∙ newer-has q;
      pages = λ p. size ∙ newer-sizes p;
      some = λ r e below. (let same : root ≡ r = cc in let s : root.pages ≡ r.pages = ap (λ (i : Root). i.pages) same in omega arith);
    }
