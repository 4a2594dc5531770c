-- A branch gets a child of its own: a new node, or a copy.
use Rattle.std.proofs.Common.{◌≡◌, ◌≢◌, ◌⊎◌, inl, inr, ℕ, zero, suc, ◌+◌, ◌-◌, ◌/◌, ◌%◌, ◌^◌, ◌<◌, ◌≤◌, List, [], ◌∷◌, length, replicate, get_or, set, Option, Some, None, IsSome, eqb, cond, refl, sym, ap, subst, ◌∙◌, arith}
use Rattle.std.proofs.lemmas.Bool.{cases_eq, cases_Bool, eq-eqb, eqb-true, eqb-false, ne_eqb}
use Rattle.std.proofs.lemmas.List.{get_or-set_same, get_or-set_other}
use Rattle.page_delta.specs.Totals.{total}
use Rattle.page_delta.specs.Nodes.{node_at, child_in, entry_in, count_in, level_in, node_with_count, once, names, width, look, with_child, empty_node}
use Rattle.page_delta.specs.Shared.{slots_in, IsShared, SameLooks, Owned}
use Rattle.page_delta.specs.declared.node.Node.{Node}
use Rattle.page_delta.specs.declared.node.Node.TheVariants.{Branch, Leaf}
use Rattle.page_delta.proofs.Sharing.{some-none, some-live, not-some, one, one-same, one-other, shared-recounted, shared-as, shared-insert, shared-link, level-recounted}
use Rattle.page_delta.proofs.Looks.{child-live, looks-recounted, looks-insert, looks-link}
use Rattle.page_delta.proofs.Places.{places-trans, places-put, places-copied, places-recounted}
use Rattle.page_delta.proofs.Counting.{recounted-at, recounted-same, count-recounted, recounted-live}
use Rattle.page_delta.proofs.Changes.{NodeList, SameBut, Puts, MayStand, SetsChild}

pub empty-place : {X : Type 0} (n d : ℕ) → get_or (replicate {A = Option X} n None) d None ≡ None
empty-place zero d = refl
empty-place (suc n) zero = refl
empty-place (suc n) (suc d) = empty-place n d

-- a new node has nothing
pub record IsEmpty (node : Node) (level : ℕ) : Type 0 where
  pub child : (d : ℕ) → child_in (Some node) d ≡ None
  pub entry : (d : ℕ) → entry_in (Some node) d ≡ None
  pub count : count_in (Some node) ≡ 1
  pub level_is : level_in (Some node) ≡ level
  pub names_none : (m : ℕ) → names m (Some node) ≡ 0
  pub slots_none : (s : ℕ) → slots_in s (Some node) ≡ 0
  pub tall : (c l : ℕ) (kids : List (Option ℕ)) → node ≡ Branch c l kids → 0 < l
  pub wide : width node ≡ 32

empty_leaf : IsEmpty (Leaf 1 (replicate 32 None)) 0
empty_leaf = record {
  child = λ d. refl;
  entry = λ d. empty-place 32 d;
  count = refl;
  level_is = refl;
  names_none = λ m. refl;
  slots_none = λ s. refl;
  tall = λ c l kids e. absurd (let no : ⊥ = cc in no);
  wide = refl;
}

empty_branch : (level : ℕ) → 0 < level → IsEmpty (Branch 1 level (replicate 32 None)) level
empty_branch level high = record {
  child = λ d. empty-place 32 d;
  entry = λ d. refl;
  count = refl;
  level_is = refl;
  names_none = λ m. refl;
  slots_none = λ s. refl;
  tall = λ c l kids e. (let eq : level ≡ l = cc in subst (λ n. 0 < n) eq high);
  wide = refl;
}

pub is_empty : (level : ℕ) → IsEmpty (empty_node level) level
is_empty level = elim (cases_Bool (eqb level 0)) [
  | inl h ↦ let zero_is : 0 ≡ level = sym (eqb-true level 0 h) in rw h (subst (λ l. IsEmpty (Leaf 1 (replicate 32 None)) l) zero_is empty_leaf)
  | inr h ↦ let ne : level ≢ 0 = eqb-false level 0 h in rw h (empty_branch level (omega arith))
]

pub stands-empty : (xs : NodeList) (node : Node) (level : ℕ) → IsEmpty node level → level ≤ 3 → MayStand xs node
stands-empty xs node level empty low = record {
  once = empty.count;
  step = λ d c is. absurd (some-none c (sym is ∙ empty.child d));
  high = empty.tall;
  wide = empty.wide;
  flat = omega (arith, empty.level_is);
}

pub branch-of : (o : Option Node) → 0 < level_in o → (c l : ℕ) × (kids : List (Option ℕ)) × (o ≡ Some (Branch c l kids))
branch-of None high = absurd (omega arith)
branch-of (Some (Branch c l kids)) high = (c, l, kids, refl)
branch-of (Some (Leaf c es)) high = absurd (omega arith)

-- a branch has no child at a digit, and is given a node that has nothing
pub record Sprouts (xs mid ys : NodeList) (parent d fresh level : ℕ) (node : Node) : Type 0 where
  pub empty : IsEmpty node level
  pub high : level_in (node_at xs parent) ≡ level + 1
  pub none : child_in (node_at xs parent) d ≡ None
  pub below : d < 32
  pub puts : Puts xs mid fresh node
  pub link : (n : Node) → node_at mid parent ≡ Some n → node_at ys parent ≡ Some (with_child n d fresh)
  pub rest : SameBut parent mid ys

module _ (xs mid ys : NodeList) (parent d fresh level : ℕ) (node : Node) (p : Sprouts xs mid ys parent d fresh level node) where
  branch : (c l : ℕ) × (kids : List (Option ℕ)) × (node_at xs parent ≡ Some (Branch c l kids))
  branch = branch-of (node_at xs parent) (omega (arith, p.high))

  apart : parent ≢ fresh
  apart = λ e. some-none (Branch branch.0 branch.1 branch.2) (sym branch.3 ∙ ap (λ i. node_at xs i) e ∙ p.puts.gone)

  mid_parent : node_at mid parent ≡ Some (Branch branch.0 branch.1 branch.2)
  mid_parent = p.puts.rest parent apart ∙ branch.3

  now_parent : node_at ys parent ≡ Some (Branch branch.0 branch.1 (set branch.2 d (Some fresh)))
  now_parent = p.link (Branch branch.0 branch.1 branch.2) mid_parent

  none_here : get_or branch.2 d None ≡ None
  none_here = sym (ap (λ o. child_in o d) branch.3) ∙ p.none

  level_at : branch.1 ≡ level + 1
  level_at = sym (ap level_in branch.3) ∙ p.high

  sets : (counts hands loose : ℕ → ℕ) → IsShared xs counts hands loose → SetsChild mid ys parent branch.0 branch.1 d fresh branch.2
  sets counts hands loose s = let wide = s.wide parent (Branch branch.0 branch.1 branch.2) branch.3 in record { here = mid_parent; now = now_parent; rest = p.rest; below = omega (arith, p.below) }

  pub shared-sprout : (counts hands loose : ℕ → ℕ) → IsShared xs counts hands loose → IsShared ys counts hands loose
  shared-sprout counts hands loose s =
      let with_none = shared-as xs counts hands (λ m. hands m + names m (Some node)) loose (λ slot. loose slot + slots_in slot (Some node)) s (λ m. let z = p.empty.names_none m in omega arith) (λ slot. let z = p.empty.slots_none slot in omega arith) in
      let put = shared-insert xs mid counts hands loose fresh node with_none p.puts (stands-empty xs node level p.empty (let low = s.flat parent in omega (arith, p.high))) in
      let linked = shared-link mid ys counts hands loose parent branch.0 branch.1 d fresh branch.2 put (sets counts hands loose s) (level_at ∙ ap (λ n. n + 1) (sym (ap level_in p.puts.here ∙ p.empty.level_is))) in
      shared-as ys counts (λ m. hands m + once m (get_or branch.2 d None)) hands loose loose linked (λ m. let z : once m (get_or branch.2 d None) ≡ 0 = ap (once m) none_here in omega arith) (λ slot. refl)

  look-empty : (l q : ℕ) → look l mid (Some fresh) q ≡ None
  look-empty zero q = ap (λ o. entry_in o (q % 32)) p.puts.here ∙ p.empty.entry (q % 32)
  look-empty (suc l) q = ap (λ (o : Option ℕ). look l mid o q) (ap (λ o. child_in o ((q / 32 ^ suc l) % 32)) p.puts.here ∙ p.empty.child ((q / 32 ^ suc l) % 32))

  dead : (m : ℕ) → IsSome (node_at xs m) → m ≢ fresh
  dead m live e = not-some (node_at xs m) (ap (λ i. node_at xs i) e ∙ p.puts.gone) live

  pub owned-sprout : (counts hands loose : ℕ → ℕ) → IsShared xs counts hands loose → Owned xs ys parent d fresh
  owned-sprout counts hands loose s =
      let child = sets counts hands loose s in
      record {
        child_is = ap (λ o. child_in o d) now_parent ∙ get_or-set_same branch.2 d (Some fresh) None child.below;
        own = ap count_in (p.rest fresh (λ e. apart (sym e)) ∙ p.puts.here) ∙ p.empty.count;
        count = ap count_in now_parent ∙ sym (ap count_in branch.3);
        levels = λ m live. elim (cases_eq m parent) [
          | inl e ↦ (some-live (node_at ys m) (Branch branch.0 branch.1 (set branch.2 d (Some fresh))) (ap (λ i. node_at ys i) e ∙ now_parent), ap level_in (ap (λ i. node_at ys i) e ∙ now_parent) ∙ sym (ap level_in (ap (λ i. node_at xs i) e ∙ branch.3)))
          | inr ne ↦ let same = p.rest m ne ∙ p.puts.rest m (dead m live) in (subst (λ (o : Option Node). IsSome o) (sym same) live, ap level_in same)
        ];
        above = λ m over ne. p.rest m ne ∙ p.puts.rest m (λ e. let zero_is : level_in (node_at xs m) ≡ 0 = ap level_in (ap (λ i. node_at xs i) e ∙ p.puts.gone) in omega (arith, p.high));
        looks = λ l m q live.
            looks-link mid ys parent branch.0 branch.1 d fresh branch.2 child (λ k page. look-empty k page ∙ sym (ap (λ (o : Option ℕ). look k mid o page) none_here)) l m q
            ∙ looks-insert xs mid counts hands loose fresh s p.puts.gone p.puts.rest l m q live;
        places = places-trans xs mid ys (places-put xs mid fresh node p.empty.entry p.puts.here p.puts.rest) (places-put mid ys parent (Branch branch.0 branch.1 (set branch.2 d (Some fresh))) (λ e. refl) now_parent p.rest);
      }

names-place : (m : ℕ) (os : List (Option ℕ)) → 0 < total (once m) os → (d : ℕ) × (get_or os d None ≡ Some m)
names-place m [] some = absurd (omega arith)
names-place m (None ∷ os) some = let r = names-place m os (omega arith) in (suc r.0, r.1)
names-place m (Some c ∷ os) some = elim (cases_eq m c) [
  | inl e ↦ (0, ap (λ i. Some i) (sym e))
  | inr ne ↦ let zero_is = one-other c m ne in let r = names-place m os (omega arith) in (suc r.0, r.1)
]

pub names-child : (m : ℕ) (o : Option Node) → 0 < names m o → (d : ℕ) × (child_in o d ≡ Some m)
names-child m None some = absurd (omega arith)
names-child m (Some (Branch c l kids)) some = names-place m kids some
names-child m (Some (Leaf c es)) some = absurd (omega arith)

zero-or : (n : ℕ) → (n ≡ 0) ⊎ (0 < n)
zero-or zero = inl refl
zero-or (suc n) = inr (omega arith)

-- a node isn't named by one that isn't a level above it
pub not-named : (xs : List (Option Node)) (counts hands loose : ℕ → ℕ) (k m : ℕ) → IsShared xs counts hands loose → level_in (node_at xs k) ≢ level_in (node_at xs m) + 1 → names m (node_at xs k) ≡ 0
not-named xs counts hands loose k m s ne = elim (zero-or (names m (node_at xs k))) [
  | inl e ↦ e
  | inr some ↦ let r = names-child m (node_at xs k) some in absurd (ne (s.steps k r.0 m r.1))
]

-- a child that others name too is copied, the branch names the copy, and the child is counted once less
pub record Splits (xs mid ys zs : NodeList) (parent d child fresh : ℕ) (counts hands loose : ℕ → ℕ) : Type 0 where
  pub shared : IsShared xs counts hands loose
  pub high : 0 < level_in (node_at xs parent)
  pub was : child_in (node_at xs parent) d ≡ Some child
  pub many : 1 < count_in (node_at xs child)
  pub below : d < 32
  pub gone : node_at xs fresh ≡ None
  pub copied : node_at mid fresh ≡ node_with_count (node_at xs child) 1
  pub rest : (m : ℕ) → m ≢ fresh → node_at mid m ≡ node_with_count (node_at xs m) (count_in (node_at xs m) + names m (node_at xs child))
  pub looks : SameLooks xs mid
  pub alike : (level q : ℕ) → look level mid (Some fresh) q ≡ look level xs (Some child) q
  pub link : (n : Node) → node_at mid parent ≡ Some n → node_at ys parent ≡ Some (with_child n d fresh)
  pub rest_link : SameBut parent mid ys
  pub lowered : zs ≡ set ys child (node_with_count (node_at ys child) (count_in (node_at ys child) - 1))

module _ (xs mid ys zs : NodeList) (parent d child fresh : ℕ) (counts hands loose : ℕ → ℕ) (p : Splits xs mid ys zs parent d child fresh counts hands loose) where
  step : level_in (node_at xs parent) ≡ level_in (node_at xs child) + 1
  step = p.shared.steps parent d child p.was

  live_child : IsSome (node_at xs child)
  live_child = child-live xs counts hands loose parent d child p.shared p.was

  same_above : (m : ℕ) → level_in (node_at xs parent) ≤ level_in (node_at xs m) → node_at mid m ≡ node_at xs m
  same_above m over =
      let zero_is = not-named xs counts hands loose child m p.shared (λ e. omega (arith, step)) in
      p.rest m (λ e. let z : level_in (node_at xs m) ≡ 0 = ap level_in (ap (λ i. node_at xs i) e ∙ p.gone) in omega arith)
      ∙ ap (λ n. node_with_count (node_at xs m) n) (let eq : count_in (node_at xs m) + names m (node_at xs child) ≡ count_in (node_at xs m) = omega arith in eq) ∙ recounted-same (node_at xs m)

  branch_s : (c l : ℕ) × (kids : List (Option ℕ)) × (node_at xs parent ≡ Some (Branch c l kids))
  branch_s = branch-of (node_at xs parent) p.high

  mid_branch : node_at mid parent ≡ Some (Branch branch_s.0 branch_s.1 branch_s.2)
  mid_branch = same_above parent (omega arith) ∙ branch_s.3

  ys_branch : node_at ys parent ≡ Some (Branch branch_s.0 branch_s.1 (set branch_s.2 d (Some fresh)))
  ys_branch = p.link (Branch branch_s.0 branch_s.1 branch_s.2) mid_branch

  child_here : get_or branch_s.2 d None ≡ Some child
  child_here = sym (ap (λ o. child_in o d) branch_s.3) ∙ p.was

  in_kids : d < length branch_s.2
  in_kids = let wide = p.shared.wide parent (Branch branch_s.0 branch_s.1 branch_s.2) branch_s.3 in omega (arith, p.below)

  sets_copy : SetsChild mid ys parent branch_s.0 branch_s.1 d fresh branch_s.2
  sets_copy = record { here = mid_branch; now = ys_branch; rest = p.rest_link; below = in_kids }

  child_apart : child ≢ parent
  child_apart = λ e. let eq = ap (λ i. level_in (node_at xs i)) e in omega (arith, step)

  child_not_fresh : child ≢ fresh
  child_not_fresh = λ e. not-some (node_at xs child) (ap (λ i. node_at xs i) e ∙ p.gone) live_child

  fresh_apart : fresh ≢ parent
  fresh_apart = λ e. some-none (Branch branch_s.0 branch_s.1 branch_s.2) (sym branch_s.3 ∙ ap (λ i. node_at xs i) (sym e) ∙ p.gone)

  mid_child : node_at mid child ≡ node_with_count (node_at xs child) (count_in (node_at xs child) + names child (node_at xs child))
  mid_child = p.rest child child_not_fresh

  live_ys : IsSome (node_at ys child)
  live_ys = subst (λ (o : Option Node). IsSome o) (sym (p.rest_link child child_apart ∙ mid_child)) (recounted-live (node_at xs child) (count_in (node_at xs child) + names child (node_at xs child)) live_child)

  zs_at : (m : ℕ) → node_at zs m ≡ node_with_count (node_at ys m) (cond (eqb m child) (count_in (node_at ys child) - 1) (count_in (node_at ys m)))
  zs_at m = ap (λ l. node_at l m) p.lowered ∙ recounted-at ys ys (λ i. count_in (node_at ys i)) child (count_in (node_at ys child) - 1) (λ i. sym (recounted-same (node_at ys i))) live_ys m

  zs_other : (m : ℕ) → m ≢ child → node_at zs m ≡ node_at ys m
  zs_other m ne = ap (λ l. node_at l m) p.lowered ∙ get_or-set_other ys child m (node_with_count (node_at ys child) (count_in (node_at ys child) - 1)) None ne

  count_ys : count_in (node_at ys child) ≡ count_in (node_at xs child) + names child (node_at xs child)
  count_ys = ap count_in (p.rest_link child child_apart ∙ mid_child) ∙ count-recounted (node_at xs child) (count_in (node_at xs child) + names child (node_at xs child)) live_child

  pub some_left : 0 < count_in (node_at ys child)
  some_left = let is = count_ys in omega (arith, p.many)

  pub shared-split : (counts' hands' loose' : ℕ → ℕ) → IsShared mid counts' (λ m. hands' m + one fresh m) loose' → IsShared zs counts' hands' loose'
  shared-split counts' hands' loose' t =
      let linked = shared-link mid ys counts' hands' loose' parent branch_s.0 branch_s.1 d fresh branch_s.2 t sets_copy (sym (ap level_in branch_s.3) ∙ step ∙ ap (λ n. n + 1) (sym (ap level_in p.copied ∙ level-recounted (node_at xs child) 1))) in
      let hand : (m : ℕ) → once m (get_or branch_s.2 d None) ≡ one child m = λ m. ap (once m) child_here in
      shared-recounted ys zs counts' (λ m. hands' m + once m (get_or branch_s.2 d None)) hands' loose' (λ m. cond (eqb m child) (count_in (node_at ys child) - 1) (count_in (node_at ys m))) linked zs_at
      (λ m live. elim (cases_eq m child) [
        | inl e ↦
            let pick : cond (eqb m child) (count_in (node_at ys child) - 1) (count_in (node_at ys m)) ≡ count_in (node_at ys child) - 1 = rw (eq-eqb m child e) refl in
            let same : count_in (node_at ys m) ≡ count_in (node_at ys child) = ap (λ i. count_in (node_at ys i)) e in
            let h = hand m in let o = one-same child m e in
            let count = linked.counted m in
            omega arith
        | inr ne ↦
            let pick : cond (eqb m child) (count_in (node_at ys child) - 1) (count_in (node_at ys m)) ≡ count_in (node_at ys m) = rw (ne_eqb m child ne) refl in
            let h = hand m in let o = one-other child m ne in
            omega arith
      ])
      (λ m none. let count = linked.counted m in let z : count_in (node_at ys m) ≡ 0 = ap count_in none in omega arith)
      (λ m live. elim (cases_eq m child) [
        | inl e ↦
            let pick : cond (eqb m child) (count_in (node_at ys child) - 1) (count_in (node_at ys m)) ≡ count_in (node_at ys child) - 1 = rw (eq-eqb m child e) refl in
            let more = count_ys in
            omega (arith, p.many)
        | inr ne ↦
            let pick : cond (eqb m child) (count_in (node_at ys child) - 1) (count_in (node_at ys m)) ≡ count_in (node_at ys m) = rw (ne_eqb m child ne) refl in
            let pos = linked.alive m live in
            omega arith
      ])

  level_mid : (m : ℕ) → IsSome (node_at xs m) → IsSome (node_at mid m) × (level_in (node_at mid m) ≡ level_in (node_at xs m))
  level_mid m live =
      let ne : m ≢ fresh = λ e. not-some (node_at xs m) (ap (λ i. node_at xs i) e ∙ p.gone) live in
      (subst (λ (o : Option Node). IsSome o) (sym (p.rest m ne)) (recounted-live (node_at xs m) (count_in (node_at xs m) + names m (node_at xs child)) live), ap level_in (p.rest m ne) ∙ level-recounted (node_at xs m) (count_in (node_at xs m) + names m (node_at xs child)))

  level_ys : (m : ℕ) → IsSome (node_at mid m) → IsSome (node_at ys m) × (level_in (node_at ys m) ≡ level_in (node_at mid m))
  level_ys m live = elim (cases_eq m parent) [
    | inl e ↦ (some-live (node_at ys m) (Branch branch_s.0 branch_s.1 (set branch_s.2 d (Some fresh))) (ap (λ i. node_at ys i) e ∙ ys_branch), ap level_in (ap (λ i. node_at ys i) e ∙ ys_branch) ∙ sym (ap level_in (ap (λ i. node_at mid i) e ∙ mid_branch)))
    | inr ne ↦ (subst (λ (o : Option Node). IsSome o) (sym (p.rest_link m ne)) live, ap level_in (p.rest_link m ne))
  ]

  level_zs : (m : ℕ) → IsSome (node_at ys m) → IsSome (node_at zs m) × (level_in (node_at zs m) ≡ level_in (node_at ys m))
  level_zs m live =
      let c = cond (eqb m child) (count_in (node_at ys child) - 1) (count_in (node_at ys m)) in
      (subst (λ (o : Option Node). IsSome o) (sym (zs_at m)) (recounted-live (node_at ys m) c live), ap level_in (zs_at m) ∙ level-recounted (node_at ys m) c)

  pub owned-split : Owned xs zs parent d fresh
  owned-split = record {
    child_is = ap (λ o. child_in o d) (zs_other parent (λ e. child_apart (sym e)) ∙ ys_branch) ∙ get_or-set_same branch_s.2 d (Some fresh) None in_kids;
    own = ap count_in (zs_other fresh (λ e. child_not_fresh (sym e)) ∙ p.rest_link fresh fresh_apart ∙ p.copied) ∙ count-recounted (node_at xs child) 1 live_child;
    count = ap count_in (zs_other parent (λ e. child_apart (sym e)) ∙ ys_branch) ∙ sym (ap count_in branch_s.3);
    levels = λ m live.
        let a = level_mid m live in let b = level_ys m a.0 in let c = level_zs m b.0 in
        (c.0, c.1 ∙ b.1 ∙ a.1);
    above = λ m over ne. zs_other m (λ e. let eq = ap (λ i. level_in (node_at xs i)) e in omega (arith, step)) ∙ p.rest_link m ne ∙ same_above m over;
    looks = λ l m q live.
        looks-recounted ys zs (λ i. cond (eqb i child) (count_in (node_at ys child) - 1) (count_in (node_at ys i))) zs_at l m q (level_ys m (level_mid m live).0).0
        ∙ looks-link mid ys parent branch_s.0 branch_s.1 d fresh branch_s.2 sets_copy (λ k page. p.alike k page ∙ sym (p.looks k child page live_child) ∙ sym (ap (λ (o : Option ℕ). look k mid o page) child_here)) l m q
        ∙ p.looks l m q live;
    places =
        places-trans xs mid zs
        (places-copied xs mid (λ m. count_in (node_at xs m) + names m (node_at xs child)) fresh child p.copied p.rest)
        (places-trans mid ys zs
        (places-put mid ys parent (Branch branch_s.0 branch_s.1 (set branch_s.2 d (Some fresh))) (λ e. refl) ys_branch p.rest_link)
        (places-recounted ys zs (λ m. cond (eqb m child) (count_in (node_at ys child) - 1) (count_in (node_at ys m))) zs_at));
  }
