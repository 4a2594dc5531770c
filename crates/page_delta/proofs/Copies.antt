-- A node that is copied, and how large counts are.
use Rattle.std.proofs.Common.{◌≡◌, ℕ, zero, suc, ◌+◌, ◌/◌, ◌%◌, ◌^◌, ◌<◌, ◌≤◌, List, get_or, Option, Some, None, IsSome, refl, sym, ap, subst, ◌∙◌, arith}
use Rattle.page_pool.specs.Pool.{Pool, count_at, IsLive}
use Rattle.page_delta.specs.Delta.{uses}
use Rattle.page_delta.specs.Nodes.{node_at, child_in, entry_in, count_in, level_in, recount, node_with_count, once, names, width, look}
use Rattle.page_delta.specs.Shared.{slots_in, IsShared, Stands, SameLooks}
use Rattle.page_delta.specs.declared.entry.Entry.{Entry}
use Rattle.page_delta.specs.declared.node.Node.{Node}
use Rattle.page_delta.specs.declared.node.Node.TheVariants.{Branch, Leaf}
use Rattle.page_delta.proofs.Sums.{total-has, total-le, total-length, total-present, total-present32, present}
use Rattle.page_delta.proofs.Sharing.{some-none, one, one-same, shared-recounted, shared-counts, shared-insert, child-recounted, entry-recounted, level-recounted}
use Rattle.page_delta.proofs.Looks.{child-live, look-option, looks-recounted, looks-insert}
use Rattle.page_delta.proofs.Counting.{once-le, count-recounted}
use Rattle.page_delta.proofs.Pools.{uses-le, live-of-count}
use Rattle.page_delta.proofs.Changes.{NodeList, Raises, Puts}

pub names-width : (m : ℕ) (o : Option Node) → ((node : Node) → o ≡ Some node → width node ≡ 32) → names m o ≤ present 32 o
names-width m None wide = omega arith
names-width m (Some (Branch c l ks)) wide = let len = total-length (once m) ks (once-le m) in let w = wide (Branch c l ks) refl in omega arith
names-width m (Some (Leaf c es)) wide = omega arith

slots-width : (s : ℕ) (o : Option Node) → ((node : Node) → o ≡ Some node → width node ≡ 32) → slots_in s o ≤ present 32 o
slots-width s None wide = omega arith
slots-width s (Some (Branch c l ks)) wide = omega arith
slots-width s (Some (Leaf c es)) wide = let len = total-length (uses s) es (uses-le s) in let w = wide (Leaf c es) refl in omega arith

-- counts are small where nodes are few
pub few-counts : (xs : List (Option Node)) (pool : Pool) (s : Stands xs pool) (m : ℕ) → count_in (node_at xs m) + 32 < 2 ^ 64
few-counts xs pool s m =
    let all = total-le (names m) refl (present 32) xs (λ k. names-width m (node_at xs k) (s.shared.wide k)) in
    let a = total-present32 xs in let b = total-present xs in let few = s.few in let h = s.few_hands m in
    let count = s.shared.counted m in
    omega arith

pub few-slots : (xs : List (Option Node)) (pool : Pool) (s : Stands xs pool) (slot : ℕ) → count_at pool slot + 32 < 2 ^ 32
few-slots xs pool s slot =
    let all = total-le (slots_in slot) refl (present 32) xs (λ k. slots-width slot (node_at xs k) (s.shared.wide k)) in
    let a = total-present32 xs in let b = total-present xs in let few = s.few in let h = s.few_loose slot in
    let count = s.shared.held slot in
    omega arith

pub entry-used : (o : Option Node) (d : ℕ) (e : Entry) → entry_in o d ≡ Some e → 0 < slots_in e.slot o
entry-used None d e is = absurd (some-none e (sym is))
entry-used (Some (Branch c l ks)) d e is = absurd (some-none e (sym is))
entry-used (Some (Leaf c es)) d e is =
    let has = total-has (uses e.slot) refl es d in
    let here : uses e.slot (get_or es d None) ≡ one e.slot e.slot = ap (uses e.slot) is in
    let mine = one-same e.slot e.slot refl in omega arith

-- the slot of an entry is live
pub entry-live : (xs : List (Option Node)) (pool : Pool) (hands loose : ℕ → ℕ) (k d : ℕ) (e : Entry) → IsShared xs (count_at pool) hands loose → entry_in (node_at xs k) d ≡ Some e → IsLive pool e.slot
entry-live xs pool hands loose k d e s is =
    let used = entry-used (node_at xs k) d e is in
    let has = total-has (slots_in e.slot) refl xs k in
    let count = s.held e.slot in
    live-of-count pool e.slot (omega arith)

pub width-recount : (node : Node) (c : ℕ) → width (recount node c) ≡ width node
width-recount (Branch b l ks) c = refl
width-recount (Leaf b es) c = refl

tall-recount : (node : Node) (c b l : ℕ) (ks : List (Option ℕ)) → recount node c ≡ Branch b l ks → (before : ℕ) × (node ≡ Branch before l ks)
tall-recount (Branch a k js) c b l ks e =
    (a, (let el : k ≡ l = cc in let ek : js ≡ ks = cc in ap (λ (i : List (Option ℕ)). Branch a k i) ek ∙ ap (λ (n : ℕ). Branch a n ks) el))
tall-recount (Leaf a es) c b l ks e = absurd (let no : ⊥ = cc in no)

-- what the places of a node name is counted once more, and then the copy is put at a fresh key
pub record IsCopied (xs mid ys : NodeList) (counts counts' : ℕ → ℕ) (k fresh : ℕ) (node : Node) : Type 0 where
  pub is : node_at xs k ≡ Some node
  pub each : Raises xs mid (λ m. names m (Some (recount node 1)))
  pub slots : (slot : ℕ) → counts' slot ≡ counts slot + slots_in slot (Some (recount node 1))
  pub puts : Puts mid ys fresh (recount node 1)

module _ (xs mid ys : NodeList) (counts counts' hands loose : ℕ → ℕ) (k fresh : ℕ) (node : Node) (s : IsShared xs counts hands loose) (p : IsCopied xs mid ys counts counts' k fresh node) where
  raised : IsShared mid counts (λ m. hands m + names m (Some (recount node 1))) loose
  raised = shared-recounted xs mid counts hands (λ m. hands m + names m (Some (recount node 1))) loose (λ m. count_in (node_at xs m) + names m (Some (recount node 1))) s p.each (λ m live. omega arith) (λ m none.
      let count = s.counted m in
      let zero : count_in (node_at xs m) ≡ 0 = ap count_in none in
      let has = total-has (names m) refl xs k in
      let same : names m (node_at xs k) ≡ names m (Some (recount node 1)) = ap (names m) p.is ∙ names-copy m node in
      omega arith) (λ m live. let pos = s.alive m live in omega arith)
    where
      names-copy : (m : ℕ) (n : Node) → names m (Some n) ≡ names m (Some (recount n 1))
      names-copy m (Branch b l ks) = refl
      names-copy m (Leaf b es) = refl

  handed : IsShared mid counts' (λ m. hands m + names m (Some (recount node 1))) (λ slot. loose slot + slots_in slot (Some (recount node 1)))
  handed = shared-counts mid counts counts' (λ m. hands m + names m (Some (recount node 1))) loose (λ slot. loose slot + slots_in slot (Some (recount node 1))) raised (λ slot. let move = p.slots slot in omega arith)

  child_of : (d c : ℕ) → child_in (Some (recount node 1)) d ≡ Some c → child_in (node_at xs k) d ≡ Some c
  child_of d c e = ap (λ o. child_in o d) p.is ∙ sym (child-recounted (Some node) 1 d) ∙ e

  pub shared-copy : IsShared ys counts' (λ m. hands m + one fresh m) loose
  shared-copy = shared-insert mid ys counts' hands loose fresh (recount node 1) handed p.puts record {
    once = count-recounted (Some node) 1 refl;
    step = λ d c e. level-recounted (Some node) 1 ∙ ap level_in (sym p.is) ∙ s.steps k d c (child_of d c e) ∙ ap (λ n. n + 1) (sym (ap level_in (p.each c) ∙ level-recounted (node_at xs c) (count_in (node_at xs c) + names c (Some (recount node 1)))));
    high = λ count level kids e. let old = tall-recount node 1 count level kids e in s.tall k old.0 level kids (p.is ∙ ap (λ n. Some n) old.1);
    wide = width-recount node 1 ∙ s.wide k node p.is;
    flat = let same = level-recounted (Some node) 1 ∙ ap level_in (sym p.is) in let low = s.flat k in omega arith;
  }

  looks_raised : SameLooks xs mid
  looks_raised = looks-recounted xs mid (λ m. count_in (node_at xs m) + names m (Some (recount node 1))) p.each

  pub looks-copy : SameLooks xs ys
  looks-copy level m q live =
      looks-insert mid ys counts (λ m. hands m + names m (Some (recount node 1))) loose fresh raised p.puts.gone p.puts.rest level m q
      (subst (λ (o : Option Node). IsSome o) (sym (p.each m)) (alive (node_at xs m) (count_in (node_at xs m) + names m (Some (recount node 1))) live)) ∙ looks_raised level m q live
    where
      alive : (o : Option Node) (c : ℕ) → IsSome o → IsSome (node_with_count o c)
      alive None c l = l
      alive (Some n) c l = refl

  pub alike-copy : (level q : ℕ) → look level ys (Some fresh) q ≡ look level xs (Some k) q
  alike-copy zero q = ap (λ o. entry_in o (q % 32)) p.puts.here ∙ entry-recounted (Some node) 1 (q % 32) ∙ ap (λ o. entry_in o (q % 32)) (sym p.is)
  alike-copy (suc level) q =
      let digit = (q / 32 ^ suc level) % 32 in
      ap (λ (o : Option ℕ). look level ys o q) (ap (λ o. child_in o digit) p.puts.here ∙ child-recounted (Some node) 1 digit ∙ ap (λ o. child_in o digit) (sym p.is))
      ∙ look-option level xs ys q (child_in (node_at xs k) digit) (λ t e. looks-copy level t q (child-live xs counts hands loose k digit t s e))
