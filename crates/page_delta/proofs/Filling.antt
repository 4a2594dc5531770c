-- A tree is built of the entries of another whose stamp is above a bound.
use Rattle.std.proofs.Common.{◌≡◌, ◌≢◌, inl, inr, ℕ, zero, suc, ◌+◌, ◌-◌, ◌*◌, ◌/◌, ◌%◌, ◌^◌, ◌<◌, ◌≤◌, List, ◌++◌, length, get_or, set, replicate, Option, Some, None, IsSome, is_some, count_by, refl, sym, ap, subst, ◌∙◌, arith, length-set}
use Rattle.std.proofs.lemmas.Bool.{cases_eq, ne_eqb}
use Rattle.std.proofs.lemmas.List.{get_or-set_same, get_or-set_other, ext_get_or}
use Rattle.page_pool.specs.Pool.{Pool, count_at}
use Rattle.page_delta.specs.Delta.{Pages, pages_after, if_after}
use Rattle.page_delta.specs.Nodes.{node_at, child_in, entry_in, level_in, names, once, empty_node, look, part}
use Rattle.page_delta.specs.Shared.{IsShared, KeepsPlaces, SameLooks, Stands, Stays, Shrinks, IsCounted, KeepsBytes}
use Rattle.page_delta.specs.Roots.{KeepsTree, HasNewer, node_of, size_of, hung}
use Rattle.page_delta.specs.declared.node.Node.{Node}
use Rattle.page_delta.specs.declared.node.Node.TheVariants.{Branch}
use Rattle.page_delta.specs.declared.roots.Root.{Root}
use Rattle.page_delta.proofs.Sums.{total-place}
use Rattle.page_delta.proofs.Sharing.{some-none, not-some, some-live, named, fresh-not-named, one-same, one-other, shared-as, shared-link}
use Rattle.page_delta.proofs.Looks.{look-agree, look-option, child-live}
use Rattle.page_delta.proofs.Pools.{keeps-trans}
use Rattle.page_delta.proofs.Owning.{IsEmpty, empty-place, names-child, branch-of}
use Rattle.page_delta.proofs.RootCalls.{PutsEmpty, shared-empty, places-empty}
use Rattle.page_delta.proofs.Inserting.{high-live, counted-live}
use Rattle.page_delta.proofs.Places.{places-trans, places-shrink}
use Rattle.page_delta.proofs.Walks.{part-start, part-after, part-pass, part-same, length-append}

-- so many places of a branch have kept trees
pub record Filling (xs cur : List (Option Node)) (pool0 pool : Pool) (from node level b pages digit : ℕ) : Type 0 where
  pub count : ℕ
  pub kids : List (Option ℕ)
  pub is : node_at cur node ≡ Some (Branch count level kids)
  pub long : length kids ≡ 32
  pub fresh : node_at xs node ≡ None
  pub rest : (d : ℕ) → digit ≤ d → get_or kids d None ≡ None
  pub none : pages ≡ 0 → (d : ℕ) → get_or kids d None ≡ None
  pub looks : (d q : ℕ) → d < digit → look (level - 1) cur (get_or kids d None) q ≡ if_after b
      (look (level - 1) xs (child_in (node_at xs from) d) q)
  pub counted : (p : ℕ) → pages ≡ length (pages_after b (part level xs (Some from) p digit))
  pub tree : KeepsTree xs cur pool0 pool (Some node)

pub stays-trans : (xs ys zs : List (Option Node)) → Stays xs ys → Stays ys zs → Stays xs zs
stays-trans xs ys zs a b = record {
  live = λ m here. b.live m (a.live m here);
  level = λ m here. b.level m (a.live m here) ∙ a.level m here;
  child = λ m d here. b.child m d (a.live m here) ∙ a.child m d here;
  entry = λ m d here. b.entry m d (a.live m here) ∙ a.entry m d here;
}

-- only a node that was not there has changed
pub stays-but : (xs mid ys : List (Option Node)) (key : ℕ) → node_at xs key ≡ None → Stays xs mid
    → ((m : ℕ) → m ≢ key → node_at ys m ≡ node_at mid m) → Stays xs ys
stays-but xs mid ys key gone a rest =
    let same : (m : ℕ) → IsSome (node_at xs m) → node_at ys m ≡ node_at mid m = λ m here. rest m
    (λ e. not-some (node_at xs m) (ap (λ i. node_at xs i) e ∙ gone) here) in
    record {
      live = λ m here. subst (λ (o : Option Node). IsSome o) (sym (same m here)) (a.live m here);
      level = λ m here. ap level_in (same m here) ∙ a.level m here;
      child = λ m d here. ap (λ o. child_in o d) (same m here) ∙ a.child m d here;
      entry = λ m d here. ap (λ o. entry_in o d) (same m here) ∙ a.entry m d here;
    }

pub stays-self : (xs : List (Option Node)) → Stays xs xs
stays-self xs = record { live = λ m here. here; level = λ m here. refl; child = λ m d here. refl; entry = λ m d here. refl }

pub stays-looks : (xs ys : List (Option Node)) (counts hands loose : ℕ → ℕ) → IsShared xs counts hands loose → Stays xs ys → SameLooks xs ys
stays-looks xs ys counts hands loose s a level m q live =
    look-agree (λ i. IsSome (node_at xs i)) xs ys (λ i here d. (a.child i d here, a.entry i d here))
    (λ i d t here e. child-live xs counts hands loose i d t s e) level m q live

-- what was there before a tree was built is there when that is released
module _ (xs mid ys : List (Option Node)) (counts counts' hands loose loose' : ℕ → ℕ) (s : IsShared xs counts hands loose)
    (t : IsShared ys counts' hands loose') (a : Stays xs mid) (shrinks : Shrinks mid ys) where
  still-live : (steps m : ℕ) → IsSome (node_at xs m) → 4 ≤ level_in (node_at xs m) + steps → IsSome (node_at ys m)
  still-live zero m here high = absurd (let flat = s.flat m in omega arith)
  still-live (suc steps) m here high = elim (cases_eq (hands m) 0) [
    | inl none ↦
        let pos = s.alive m here in
        let count = s.counted m in
        let at = total-place (names m) refl xs (omega arith) in
        let d = names-child m (node_at xs at.0) at.1 in
        let step = s.steps at.0 d.0 m d.1 in
        let up = high-live (node_at xs at.0) (omega arith) in
        let parent = still-live steps at.0 up (omega arith) in
        let name = named ys at.0 d.0 m (shrinks.child at.0 d.0 parent ∙ a.child at.0 d.0 up ∙ d.1) in
        let now = t.counted m in
        counted-live (node_at ys m) (omega arith)
    | inr some ↦ let now = t.counted m in counted-live (node_at ys m) (omega arith)
  ]

  pub stays-released : Stays xs ys
  stays-released =
      let live : (m : ℕ) → IsSome (node_at xs m) → IsSome (node_at ys m) = λ m here. still-live 4 m here (omega arith) in
      record {
        live = live;
        level = λ m here. shrinks.level m (live m here) ∙ a.level m here;
        child = λ m d here. shrinks.child m d (live m here) ∙ a.child m d here;
        entry = λ m d here. shrinks.entry m d (live m here) ∙ a.entry m d here;
      }

-- a branch stays, but for its count
branch-stays : (cur mid : List (Option Node)) (node c level : ℕ) (kids : List (Option ℕ)) (counts hands loose : ℕ → ℕ) → Stays cur mid
    → IsShared mid counts hands loose
    → node_at cur node ≡ Some (Branch c level kids) → 0 < level → length kids ≡ 32
    → (now : ℕ) × (node_at mid node ≡ Some (Branch now level kids))
branch-stays cur mid node c level kids counts hands loose a s is above long =
    let here = some-live (node_at cur node) (Branch c level kids) is in
    let level_is : level_in (node_at mid node) ≡ level = a.level node here ∙ ap level_in is in
    let br = branch-of (node_at mid node) (omega arith) in
    let l_is : br.1 ≡ level = sym (ap level_in br.3) ∙ level_is in
    let wide : length br.2 ≡ 32 = s.wide node (Branch br.0 br.1 br.2) br.3 in
    let same : br.2 ≡ kids = ext_get_or None br.2 kids (omega arith)
    (λ d below. sym (ap (λ o. child_in o d) br.3) ∙ a.child node d here ∙ ap (λ o. child_in o d) is) in
    (br.0, br.3 ∙ ap (λ l. Some (Branch br.0 l br.2)) l_is ∙ ap (λ (ks : List (Option ℕ)). Some (Branch br.0 level ks)) same)

-- trees below the level of a node that changes do not meet it
looks-below : (xs ys : List (Option Node)) (counts hands loose : ℕ → ℕ) (node level : ℕ) → IsShared xs counts hands loose
    → level_in (node_at xs node) ≡ level → ((m : ℕ) → m ≢ node → node_at ys m ≡ node_at xs m)
    → (l m q : ℕ) → level_in (node_at xs m) < level → look l ys (Some m) q ≡ look l xs (Some m) q
looks-below xs ys counts hands loose node level s is rest l m q low =
    look-agree (λ i. level_in (node_at xs i) < level) xs ys
    (λ i below d. let same = rest i (λ e. let eq = ap (λ k. level_in (node_at xs k)) e in omega arith) in
    (ap (λ o. child_in o d) same, ap (λ o. entry_in o d) same))
    (λ i d t below e. let step = s.steps i d t e in omega arith) l m q low

-- one tree after another is added
tree-joined : (xs mid ys : List (Option Node)) (pool0 pool1 pool2 : Pool) (first second kept : Option ℕ) → KeepsTree xs mid pool0 pool1 first → KeepsTree mid ys pool1 pool2 second
    → ((hands loose : ℕ → ℕ) → IsShared xs (count_at pool0) hands loose → IsShared ys (count_at pool2) (λ m. hands m + once m kept) loose) → KeepsTree xs ys pool0 pool2 kept
tree-joined xs mid ys pool0 pool1 pool2 first second kept a b shared = record {
  shared = shared;
  stays = stays-trans xs mid ys a.stays b.stays;
  places = places-trans xs mid ys a.places b.places;
  few = b.few;
  counted = b.counted;
  keeps = keeps-trans pool0 pool1 pool2 a.keeps b.keeps;
}

pub tree-next : (xs mid ys : List (Option Node)) (pool0 pool1 pool2 : Pool) (kept : Option ℕ) → KeepsTree xs mid pool0 pool1 None
    → KeepsTree mid ys pool1 pool2 kept → KeepsTree xs ys pool0 pool2 kept
tree-next xs mid ys pool0 pool1 pool2 kept a b = tree-joined xs mid ys pool0 pool1 pool2 None kept kept a b (λ hands loose s.
    b.shared hands loose (shared-as mid (count_at pool1) (λ m. hands m + once m None) hands loose loose (a.shared hands loose s) (λ m. omega arith) (λ slot. refl)))

-- nothing was added since
pub tree-after : (xs mid ys : List (Option Node)) (pool0 pool1 pool2 : Pool) (kept : Option ℕ) → KeepsTree xs mid pool0 pool1 kept
    → KeepsTree mid ys pool1 pool2 None → KeepsTree xs ys pool0 pool2 kept
tree-after xs mid ys pool0 pool1 pool2 kept a b = tree-joined xs mid ys pool0 pool1 pool2 kept None kept a b (λ hands loose s.
    shared-as ys (count_at pool2) (λ m. hands m + once m kept + once m None) (λ m. hands m + once m kept) loose loose
    (b.shared (λ m. hands m + once m kept) loose (a.shared hands loose s)) (λ m. omega arith) (λ slot. refl))

-- a tree that was added is released
pub tree-released : (xs mid ys : List (Option Node)) (pool0 pool1 pool2 : Pool) (node : ℕ) (hands loose : ℕ → ℕ)
    → IsShared xs (count_at pool0) hands loose → KeepsTree xs mid pool0 pool1 (Some node)
    → ((hands loose : ℕ → ℕ) → IsShared mid (count_at pool1) (λ m. hands m + once m (Some node)) loose
    → IsShared ys (count_at pool2) hands loose)
    → Shrinks mid ys → count_by is_some ys ≤ 2 ^ 26 → IsCounted pool2 → KeepsBytes pool1 pool2 → KeepsTree xs ys pool0 pool2 None
tree-released xs mid ys pool0 pool1 pool2 node hands loose s a back shrinks few counted keeps = record {
  shared = λ h l t. shared-as ys (count_at pool2) h (λ m. h m + once m None) l l (back h l (a.shared h l t)) (λ m. omega arith)
      (λ slot. refl);
  stays = stays-released xs mid ys (count_at pool0) (count_at pool2) hands loose loose s
      (back hands loose (a.shared hands loose s)) a.stays shrinks;
  places = places-trans xs mid ys a.places (places-shrink mid ys shrinks);
  few = few;
  counted = counted;
  keeps = keeps-trans pool0 pool1 pool2 a.keeps keeps;
}

-- an empty node is put at a fresh key
module _ (xs ys : List (Option Node)) (pool : Pool) (key : ℕ) (node : Node) (level : ℕ) (e : PutsEmpty xs ys key node level)
    (few : count_by is_some ys ≤ 2 ^ 26) (counted : IsCounted pool) where
  pub tree-empty : KeepsTree xs ys pool pool (Some key)
  tree-empty = record {
    shared = λ hands loose s. shared-empty xs ys key node level e (count_at pool) hands loose s;
    stays = stays-but xs xs ys key e.puts.gone (stays-self xs) e.puts.rest;
    places = places-empty xs ys key node level e;
    few = few;
    counted = counted;
    keeps = λ s live. (live, refl);
  }

  pub fill-start : (from b : ℕ) → 0 < level → node ≡ empty_node level → Filling xs ys pool pool from key level b 0 0
  fill-start from b above is = record {
    count = 1;
    kids = replicate 32 None;
    is = e.puts.here ∙ ap (λ (n : Node). Some n) (is ∙ branch level above);
    long = refl;
    fresh = e.puts.gone;
    rest = λ d past. empty-place 32 d;
    none = λ z d. empty-place 32 d;
    looks = λ d q small. absurd (omega arith);
    counted = λ p. sym (ap (λ (ps : Pages). length (pages_after b ps)) (part-start level xs (Some from) p));
    tree = tree-empty;
  }
    where
      branch : (l : ℕ) → 0 < l → empty_node l ≡ Branch 1 l (replicate 32 None)
      branch l above = rw (ne_eqb l 0 (λ e. omega arith)) refl

look-step : (level : ℕ) (nodes : List (Option Node)) (key q : ℕ) → 0 < level
    → look level nodes (Some key) q ≡ look (level - 1) nodes (child_in (node_at nodes key) ((q / 32 ^ level) % 32)) q
look-step zero nodes key q above = absurd (omega arith)
look-step (suc n) nodes key q above = ap (λ l. look l nodes (child_in (node_at nodes key) ((q / 32 ^ suc n) % 32)) q)
    (let e : n ≡ suc n - 1 = omega arith in e)

-- a child is there, on its level, among nodes that stand
pub stands-filled : (xs cur : List (Option Node)) (pool0 pool : Pool) (from node level b pages digit : ℕ) → Stands xs pool0
    → Filling xs cur pool0 pool from node level b pages digit → Stands cur pool
stands-filled xs cur pool0 pool from node level b pages digit st f = record {
  hands = λ m. st.hands m + once m (Some node);
  loose = st.loose;
  shared = f.tree.shared st.hands st.loose st.shared;
  few_hands = λ m. elim (cases_eq m node) [
    | inl e ↦
        let one_is : once m (Some node) ≡ 1 = one-same node m e in
        let none : st.hands m ≡ 0 = ap st.hands e ∙ (fresh-not-named xs (count_at pool0) st.hands st.loose node st.shared f.fresh).0 in
        omega arith
    | inr ne ↦ let zero_is : once m (Some node) ≡ 0 = one-other node m ne in let few = st.few_hands m in omega arith
  ];
  few_loose = st.few_loose;
  few = f.tree.few;
  counted = f.tree.counted;
}

pub fill-pass : (xs cur : List (Option Node)) (pool0 pool : Pool) (from node level b pages digit : ℕ)
    → Filling xs cur pool0 pool from node level b pages digit → 0 < level → level ≤ 3 → digit < 32 → child_in (node_at xs from) digit ≡ None
    → Filling xs cur pool0 pool from node level b pages (digit + 1)
fill-pass xs cur pool0 pool from node level b pages digit f above high low child = record {
  count = f.count;
  kids = f.kids;
  is = f.is;
  long = f.long;
  fresh = f.fresh;
  rest = λ d past. f.rest d (omega arith);
  none = f.none;
  looks = λ d q small. elim (cases_eq d digit) [
    | inl e ↦
        ap (λ i. look (level - 1) cur (get_or f.kids i None) q) e
        ∙ ap (λ (o : Option ℕ). look (level - 1) cur o q) (f.rest digit (omega arith))
        ∙ sym (ap (λ i. if_after b (look (level - 1) xs (child_in (node_at xs from) i) q)) e
        ∙ ap (λ (o : Option ℕ). if_after b (look (level - 1) xs o q)) child)
    | inr ne ↦ f.looks d q (omega arith)
  ];
  counted = λ p. f.counted p ∙ sym (ap (λ (ps : List ℕ). length ps) (part-pass b level xs from p digit above high low child));
  tree = f.tree;
}

-- the tree of a child is kept, and hung
module _ (xs cur mid new : List (Option Node)) (pool0 pool pool1 : Pool) (from node level b pages digit t : ℕ) (kept : Option Root)
    (hands0 loose0 : ℕ → ℕ) (s : IsShared xs (count_at pool0) hands0 loose0) (f : Filling xs cur pool0 pool from node level b pages digit)
    (above : 0 < level) (high : level ≤ 3) (low : digit < 32) (child : child_in (node_at xs from) digit ≡ Some t)
    (k : KeepsTree cur mid pool pool1 (node_of kept)) (h : HasNewer cur mid t (level - 1) b kept) where
  abbrev hands1 : ℕ → ℕ
  hands1 m = hands0 m + once m (Some node)

  abbrev hands2 : ℕ → ℕ
  hands2 m = hands0 m + once m (Some node) + once m (node_of kept)

  sc : IsShared cur (count_at pool) hands1 loose0
  sc = f.tree.shared hands0 loose0 s

  sm : IsShared mid (count_at pool1) hands2 loose0
  sm = k.shared hands1 loose0 sc

  held : (now : ℕ) × (node_at mid node ≡ Some (Branch now level f.kids))
  held = branch-stays cur mid node f.count level f.kids (count_at pool1) hands2 loose0 k.stays sm f.is above f.long

  same_t : (l q : ℕ) → look l cur (Some t) q ≡ look l xs (Some t) q
  same_t l q = stays-looks xs cur (count_at pool0) hands0 loose0 s f.tree.stays l t q
      (child-live xs (count_at pool0) hands0 loose0 from digit t s child)

  pub fill-sizes : (p : ℕ) → pages + size_of kept ≡ length (pages_after b (part level xs (Some from) p (digit + 1)))
  fill-sizes p =
      let mine = f.counted p in
      let theirs = h.pages (p * 32 + digit) ∙ ap (λ (ps : Pages). length (pages_after b ps))
      (part-same (level - 1) cur xs t (p * 32 + digit) 32 (λ q. same_t (level - 1) q)) in
      let all = ap (λ (ps : List ℕ). length ps) (part-after b level xs from p digit above high low
      ∙ ap (λ (o : Option ℕ). pages_after b (part level xs (Some from) p digit) ++ pages_after b
      (part (level - 1) xs o (p * 32 + digit) 32)) child)
      ∙ length-append (pages_after b (part level xs (Some from) p digit))
      (pages_after b (part (level - 1) xs (Some t) (p * 32 + digit) 32)) in
      omega arith

  node_level : level_in (node_at mid node) ≡ level
  node_level = ap level_in held.1

  module _ (rest : (m : ℕ) → m ≢ node → node_at new m ≡ node_at mid m) (few : count_by is_some new ≤ 2 ^ 26) where
    below_same : (l m q : ℕ) → level_in (node_at mid m) < level → look l new (Some m) q ≡ look l mid (Some m) q
    below_same l m q = looks-below mid new (count_at pool1) hands2 loose0 node level sm node_level rest l m q

    old_kid : (d q : ℕ) → look (level - 1) new (get_or f.kids d None) q ≡ look (level - 1) cur (get_or f.kids d None) q
    old_kid d q = look-option (level - 1) cur new q (get_or f.kids d None) (λ c e.
        let step = sm.steps node d c (ap (λ o. child_in o d) held.1 ∙ e) in
        let l = node_level in
        below_same (level - 1) c q (omega arith) ∙ stays-looks cur mid (count_at pool) hands1 loose0 sc k.stays (level - 1) c q
        (child-live cur (count_at pool) hands1 loose0 node d c sc (ap (λ o. child_in o d) f.is ∙ e)))

    kept_same : (q : ℕ) → look (level - 1) new (node_of kept) q ≡ look (level - 1) mid (node_of kept) q
    kept_same q = go kept refl
      where
        go : (o : Option Root) → kept ≡ o → look (level - 1) new (node_of o) q ≡ look (level - 1) mid (node_of o) q
        go None e = refl
        go (Some r) e = below_same (level - 1) r.node q (let l = h.level_is r e in omega arith)

    moved : (kids' : List (Option ℕ)) (now : ℕ) → node_at new node ≡ Some (Branch now level kids') → KeepsPlaces mid new
    moved kids' now is slot place at key d entry e same = elim (cases_eq key node) [
      | inl eq ↦ absurd (some-none entry (sym e ∙ ap (λ o. entry_in o d) (ap (λ i. node_at new i) eq ∙ is)))
      | inr ne ↦ at key d entry (sym (ap (λ o. entry_in o d) (rest key ne)) ∙ e) same
    ]

    module _ (now : ℕ) (kids' : List (Option ℕ)) (is : node_at new node ≡ Some (Branch now level kids')) (long : length kids' ≡ 32)
        (at : get_or kids' digit None ≡ node_of kept) (off : (d : ℕ) → d ≢ digit → get_or kids' d None ≡ get_or f.kids d None)
        (shared : (hands loose : ℕ → ℕ) → IsShared xs (count_at pool0) hands loose
        → IsShared new (count_at pool1) (λ m. hands m + once m (Some node)) loose) where
      empty_kids : pages + size_of kept ≡ 0 → (d : ℕ) → get_or kids' d None ≡ None
      empty_kids z d = elim (cases_eq d digit) [
        | inl e ↦ ap (λ i. get_or kids' i None) e ∙ at ∙ go kept refl
        | inr ne ↦ off d ne
            ∙ f.none (omega arith) d
      ]
        where
          go : (o : Option Root) → kept ≡ o → node_of o ≡ None
          go None e = refl
          go (Some r) e = absurd (let pos = h.some r e (omega arith) in let size : size_of kept ≡ r.pages = ap size_of e in omega arith)

      filled : Filling xs new pool0 pool1 from node level b (pages + size_of kept) (digit + 1)
      filled = record {
        count = now;
        kids = kids';
        is = is;
        long = long;
        fresh = f.fresh;
        rest = λ d past. off d (λ e. omega arith) ∙ f.rest d (omega arith);
        none = empty_kids;
        looks = λ d q small. elim (cases_eq d digit) [
          | inl e ↦
              ap (λ i. look (level - 1) new (get_or kids' i None) q) e ∙ ap (λ (o : Option ℕ). look (level - 1) new o q) at ∙ kept_same q
              ∙ h.looks q
              ∙ ap (if_after b) (same_t (level - 1) q ∙ ap (λ (o : Option ℕ). look (level - 1) xs o q) (sym child)
              ∙ ap (λ i. look (level - 1) xs (child_in (node_at xs from) i) q) (sym e))
          | inr ne ↦ ap (λ (o : Option ℕ). look (level - 1) new o q) (off d ne) ∙ old_kid d q ∙ f.looks d q (omega arith)
        ];
        counted = fill-sizes;
        tree = record {
          shared = shared;
          stays = stays-but xs mid new node f.fresh (stays-trans xs cur mid f.tree.stays k.stays) rest;
          places = places-trans xs mid new (places-trans xs cur mid f.tree.places k.places) (moved kids' now is);
          few = few;
          counted = k.counted;
          keeps = keeps-trans pool0 pool pool1 f.tree.keeps k.keeps;
        };
      }

    pub fill-turn : ((n : Node) → node_at mid node ≡ Some n → node_at new node ≡ Some (hung n digit (node_of kept)))
        → (node_of kept ≡ None → new ≡ mid) → Filling xs new pool0 pool1 from node level b (pages + size_of kept) (digit + 1)
    fill-turn hangs none = go kept refl
      where
        hung_is : (o : Option Root) → kept ≡ o → node_at new node ≡ Some (hung (Branch held.0 level f.kids) digit (node_of o))
        hung_is o e = hangs (Branch held.0 level f.kids) held.1
            ∙ ap (λ (i : Option Root). Some (hung (Branch held.0 level f.kids) digit (node_of i))) e

        go : (o : Option Root) → kept ≡ o → Filling xs new pool0 pool1 from node level b (pages + size_of kept) (digit + 1)
        go None e =
            filled held.0 f.kids (hung_is None e) f.long (f.rest digit (omega arith) ∙ sym (ap node_of e)) (λ d ne. refl)
            (λ hands loose sx.
            let same = subst (λ (o : Option ℕ). IsShared mid (count_at pool1) (λ m. hands m + once m (Some node) + once m o) loose)
            (ap node_of e) (k.shared (λ m. hands m + once m (Some node)) loose (f.tree.shared hands loose sx)) in
            subst (λ (ys : List (Option Node)). IsShared ys (count_at pool1) (λ m. hands m + once m (Some node)) loose)
            (sym (none (ap node_of e)))
            (shared-as mid (count_at pool1) (λ m. hands m + once m (Some node) + once m None)
            (λ m. hands m + once m (Some node)) loose loose same (λ m. omega arith) (λ slot. refl)))
        go (Some r) e =
            let long = f.long in
            let inside : digit < length f.kids = omega arith in
            filled held.0 (set f.kids digit (Some r.node)) (hung_is (Some r) e) (length-set f.kids digit (Some r.node) ∙ f.long)
            (get_or-set_same f.kids digit (Some r.node) None inside ∙ sym (ap node_of e))
            (λ d ne. get_or-set_other f.kids digit d (Some r.node) None ne)
            (λ hands loose sx.
            let same = subst (λ (o : Option ℕ). IsShared mid (count_at pool1) (λ m. hands m + once m (Some node) + once m o) loose)
            (ap node_of e) (k.shared (λ m. hands m + once m (Some node)) loose (f.tree.shared hands loose sx)) in
            let l = h.level_is r e in
            shared-as new (count_at pool1) (λ m. hands m + once m (Some node) + once m (get_or f.kids digit None))
            (λ m. hands m + once m (Some node)) loose loose
            (shared-link mid new (count_at pool1) (λ m. hands m + once m (Some node)) loose node held.0 level digit r.node f.kids same
            record { here = held.1; now = hung_is (Some r) e; rest = rest; below = inside } (omega arith))
            (λ m. let z : once m (get_or f.kids digit None) ≡ 0 = ap (once m) (f.rest digit (omega arith)) in omega arith) (λ slot. refl))

-- all places of a branch have kept trees
module _ (xs cur : List (Option Node)) (pool0 pool : Pool) (from node level b pages digit : ℕ)
    (f : Filling xs cur pool0 pool from node level b pages digit) (above : 0 < level) (all : 32 ≤ digit) (digits : digit ≤ 32) where
  looks-filled : (q : ℕ) → look level cur (Some node) q ≡ if_after b (look level xs (Some from) q)
  looks-filled q =
      look-step level cur node q above ∙ ap (λ (o : Option Node). look (level - 1) cur (child_in o ((q / 32 ^ level) % 32)) q) f.is
      ∙ f.looks ((q / 32 ^ level) % 32) q (omega arith)
      ∙ ap (if_after b) (sym (look-step level xs from q above))

  sizes-filled : (p : ℕ) → pages ≡ length (pages_after b (part level xs (Some from) p 32))
  sizes-filled p = let e : digit ≡ 32 = omega arith in f.counted p ∙ ap (λ d. length (pages_after b (part level xs (Some from) p d))) e

  pub newer-filled : (root : Root) → root.node ≡ node → root.pages ≡ pages → pages ≢ 0 → HasNewer xs cur from level b (Some root)
  newer-filled root is size some = record {
    level_is = λ r e. (let same : root ≡ r = cc in ap (λ (i : Root). level_in (node_at cur i.node)) (sym same)
        ∙ ap (λ i. level_in (node_at cur i)) is ∙ ap level_in f.is);
    looks = λ q. ap (λ i. look level cur (Some i) q) is ∙ looks-filled q;
    pages = λ p. size ∙ sizes-filled p;
    some = λ r e below. (let same : root ≡ r = cc in let s : root.pages ≡ r.pages = ap (λ (i : Root). i.pages) same in omega arith);
  }

  pub none-filled : (ys : List (Option Node)) → pages ≡ 0 → HasNewer xs ys from level b None
  none-filled ys none = record {
    level_is = λ r e. absurd (some-none r (sym e));
    looks = λ q.
        sym (sym (looks-filled q) ∙ look-step level cur node q above
        ∙ ap (λ (o : Option Node). look (level - 1) cur (child_in o ((q / 32 ^ level) % 32)) q) f.is
        ∙ ap (λ (o : Option ℕ). look (level - 1) cur o q) (f.none none ((q / 32 ^ level) % 32)));
    pages = λ p. sym none ∙ sizes-filled p;
    some = λ r e below. absurd (some-none r (sym e));
  }

-- where nothing is kept, an empty tree has it
pub newer-empty : (xs mid ys : List (Option Node)) (from b : ℕ) (node : Node) (root : Root) → IsEmpty node 3
    → node_at ys root.node ≡ Some node → root.pages ≡ 0 → HasNewer xs mid from 3 b None → HasNewer xs ys from 3 b (Some root)
newer-empty xs mid ys from b node root empty here size h = record {
  level_is = λ r e. (let same : root ≡ r = cc in ap (λ (i : Root). level_in (node_at ys i.node)) (sym same) ∙ ap level_in here
      ∙ empty.level_is);
  looks = λ q. ap (λ (o : Option ℕ). look 2 ys o q) (ap (λ o. child_in o ((q / 32768) % 32)) here ∙ empty.child ((q / 32768) % 32))
      ∙ h.looks q;
  pages = λ p. size ∙ h.pages p;
  some = λ r e below. absurd (omega arith);
}
