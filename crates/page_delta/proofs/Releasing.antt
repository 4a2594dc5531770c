-- A node is counted once less, or removed with what only it has.
use Rattle.std.proofs.Common.{◌≡◌, ◌≢◌, inl, inr, ℕ, zero, suc, ◌+◌, ◌-◌, ◌<◌, ◌≤◌, List, [], ◌∷◌, length, drop, get_or, set, Option, Some, None, IsSome, is_some, count_by, cond, eqb, refl, sym, ap, subst, ◌∙◌, arith}
use Rattle.std.proofs.lemmas.Bool.{cases_eq, eq-eqb, ne_eqb}
use Rattle.page_delta.specs.Totals.{total}
use Rattle.page_delta.specs.Delta.{uses}
use Rattle.page_delta.specs.Nodes.{node_at, child_in, entry_in, count_in, level_in, node_with_count, once, names, look}
use Rattle.page_delta.specs.Shared.{slots_in, IsShared, Shrinks}
use Rattle.page_delta.specs.declared.entry.Entry.{Entry}
use Rattle.page_delta.specs.declared.node.Node.{Node}
use Rattle.page_delta.specs.declared.node.Node.TheVariants.{Branch, Leaf}
use Rattle.page_delta.proofs.Sums.{total-has}
use Rattle.page_delta.proofs.Sharing.{not-some, one-same, one-other, shared-recounted, shared-remove, shared-as}
use Rattle.page_delta.proofs.Looks.{look-agree, child-live}
use Rattle.page_delta.proofs.Counting.{recounted-at, recounted-same, len-recounted}
use Rattle.page_delta.proofs.Inserting.{counted-live}
use Rattle.page_delta.proofs.Changes.{SameBut}

-- a node in hand is there
pub in-hand : (xs : List (Option Node)) (counts hands loose : ℕ → ℕ) (k : ℕ) → IsShared xs counts (λ m. hands m + once m (Some k)) loose → (0 < count_in (node_at xs k)) × IsSome (node_at xs k)
in-hand xs counts hands loose k s =
    let count = s.counted k in
    let mine = one-same k k refl in
    let pos : 0 < count_in (node_at xs k) = omega arith in
    (pos, counted-live (node_at xs k) pos)

module _ (xs : List (Option Node)) (k : ℕ) (live : IsSome (node_at xs k)) where
  abbrev pub lowered : List (Option Node)
  lowered = set xs k (node_with_count (node_at xs k) (count_in (node_at xs k) - 1))

  pub lowered_now : ℕ → ℕ
  lowered_now m = cond (eqb m k) (count_in (node_at xs k) - 1) (count_in (node_at xs m))

  pub lowered_at : (m : ℕ) → node_at lowered m ≡ node_with_count (node_at xs m) (lowered_now m)
  unfolding lowered_now
  lowered_at m = recounted-at xs xs (λ i. count_in (node_at xs i)) k (count_in (node_at xs k) - 1) (λ i. sym (recounted-same (node_at xs i))) live m

  pub shared-lower : (counts hands loose : ℕ → ℕ) → 1 < count_in (node_at xs k) → IsShared xs counts (λ m. hands m + once m (Some k)) loose → IsShared lowered counts hands loose
  unfolding lowered_now
  shared-lower counts hands loose many s =
      shared-recounted xs lowered counts (λ m. hands m + once m (Some k)) hands loose lowered_now s lowered_at
      (λ m here. elim (cases_eq m k) [
        | inl e ↦
            let pick : lowered_now m ≡ count_in (node_at xs k) - 1 = rw (eq-eqb m k e) refl in
            let same : count_in (node_at xs m) ≡ count_in (node_at xs k) = ap (λ i. count_in (node_at xs i)) e in
            let o : once m (Some k) ≡ 1 = one-same k m e in
            let count = s.counted m in
            omega arith
        | inr ne ↦
            let pick : lowered_now m ≡ count_in (node_at xs m) = rw (ne_eqb m k ne) refl in
            let o : once m (Some k) ≡ 0 = one-other k m ne in
            omega arith
      ])
      (λ m none. let count = s.counted m in let z : count_in (node_at xs m) ≡ 0 = ap count_in none in omega arith)
      (λ m here. elim (cases_eq m k) [
        | inl e ↦ let pick : lowered_now m ≡ count_in (node_at xs k) - 1 = rw (eq-eqb m k e) refl in omega arith
        | inr ne ↦ let pick : lowered_now m ≡ count_in (node_at xs m) = rw (ne_eqb m k ne) refl in let pos = s.alive m here in omega arith
      ])

  pub len-lower : count_by is_some lowered ≡ count_by is_some xs
  len-lower = len-recounted xs lowered lowered_now lowered_at

pub shrinks-taken : (xs ys : List (Option Node)) (k : ℕ) → node_at ys k ≡ None → ((m : ℕ) → m ≢ k → node_at ys m ≡ node_at xs m) → Shrinks xs ys
shrinks-taken xs ys k gone rest =
    let other : (m : ℕ) → IsSome (node_at ys m) → node_at ys m ≡ node_at xs m = λ m here. rest m (λ e. not-some (node_at ys m) (ap (λ i. node_at ys i) e ∙ gone) here) in
    record {
      was = λ m here. subst (λ (o : Option Node). IsSome o) (other m here) here;
      level = λ m here. ap level_in (other m here);
      child = λ m d here. ap (λ o. child_in o d) (other m here);
      entry = λ m d here. ap (λ o. entry_in o d) (other m here);
    }

pub shrinks-trans : (xs ys zs : List (Option Node)) → Shrinks xs ys → Shrinks ys zs → Shrinks xs zs
shrinks-trans xs ys zs a b = record {
  was = λ m here. a.was m (b.was m here);
  level = λ m here. b.level m here ∙ a.level m (b.was m here);
  child = λ m d here. b.child m d here ∙ a.child m d (b.was m here);
  entry = λ m d here. b.entry m d here ∙ a.entry m d (b.was m here);
}

-- what is still there reads as before
pub looks-shrink : (xs ys : List (Option Node)) (counts hands loose : ℕ → ℕ) → Shrinks xs ys → IsShared ys counts hands loose → (level m q : ℕ) → IsSome (node_at ys m) → look level ys (Some m) q ≡ look level xs (Some m) q
looks-shrink xs ys counts hands loose a s level m q live =
    look-agree (λ i. IsSome (node_at ys i)) xs ys (λ i here d. (a.child i d here, a.entry i d here)) (λ i d t here e. child-live ys counts hands loose i d t s (a.child i d here ∙ e)) level m q live

-- a node that is counted once is taken away
pub shared-taken : (xs ys : List (Option Node)) (counts hands loose : ℕ → ℕ) (k : ℕ) (node : Node) → IsShared xs counts (λ m. hands m + once m (Some k)) loose
    → node_at xs k ≡ Some node → node_at ys k ≡ None → SameBut k xs ys → count_in (node_at xs k) ≤ 1
    → IsShared ys counts (λ m. hands m + names m (Some node)) (λ slot. loose slot + slots_in slot (Some node))
shared-taken xs ys counts hands loose k node s here gone rest few =
    let pos = (in-hand xs counts hands loose k s).0 in
    let same : count_in (node_at xs k) ≡ count_in (Some node) = ap count_in here in
    shared-remove xs ys counts hands loose k node s here gone rest (omega arith)

pub uses-enough : (xs : List (Option Node)) (counts hands loose : ℕ → ℕ) (k c : ℕ) (es : List (Option Entry)) → IsShared xs counts hands loose → node_at xs k ≡ Some (Leaf c es) → (slot : ℕ) → total (uses slot) es ≤ counts slot
uses-enough xs counts hands loose k c es s here slot =
    let has = total-has (slots_in slot) refl xs k in
    let mine : slots_in slot (node_at xs k) ≡ total (uses slot) es = ap (slots_in slot) here in
    let held = s.held slot in
    omega arith

total-drop : {X : Type 0} (w : Option X → ℕ) (xs : List (Option X)) (i : ℕ) → i < length xs → total w (drop i xs) ≡ w (get_or xs i None) + total w (drop (i + 1) xs)
total-drop w [] i below = absurd (omega arith)
total-drop w (x ∷ xs) zero below = refl
total-drop {X} w (x ∷ xs) (suc i) below =
    let e : suc i + 1 ≡ suc (i + 1) = omega arith in
    total-drop w xs i (omega arith) ∙ ap (λ n. w (get_or xs i None) + total w (drop n (x ∷ xs))) (sym e)

-- one child after another is in hand, and released
pub hand-over : (xs : List (Option Node)) (counts hands loose : ℕ → ℕ) (kids : List (Option ℕ)) (i child : ℕ) → i < length kids → get_or kids i None ≡ Some child
    → IsShared xs counts (λ m. hands m + total (once m) (drop i kids)) loose → IsShared xs counts (λ m. hands m + total (once m) (drop (i + 1) kids) + once m (Some child)) loose
hand-over xs counts hands loose kids i child below is s =
    shared-as xs counts (λ m. hands m + total (once m) (drop i kids)) (λ m. hands m + total (once m) (drop (i + 1) kids) + once m (Some child)) loose loose s
    (λ m. let t = total-drop (once m) kids i below in let o : once m (get_or kids i None) ≡ once m (Some child) = ap (once m) is in omega arith) (λ slot. refl)

pub pass-over : (xs : List (Option Node)) (counts hands loose : ℕ → ℕ) (kids : List (Option ℕ)) (i : ℕ) → i < length kids → get_or kids i None ≡ None
    → IsShared xs counts (λ m. hands m + total (once m) (drop i kids)) loose → IsShared xs counts (λ m. hands m + total (once m) (drop (i + 1) kids)) loose
pass-over xs counts hands loose kids i below is s =
    shared-as xs counts (λ m. hands m + total (once m) (drop i kids)) (λ m. hands m + total (once m) (drop (i + 1) kids)) loose loose s (λ m. let t = total-drop (once m) kids i below in let o : once m (get_or kids i None) ≡ 0 = ap (once m) is in omega arith) (λ slot. refl)

pub all-over : (xs : List (Option Node)) (counts hands loose : ℕ → ℕ) (kids : List (Option ℕ)) (i : ℕ) → length kids ≤ i → IsShared xs counts (λ m. hands m + total (once m) (drop i kids)) loose → IsShared xs counts hands loose
all-over xs counts hands loose kids i past s =
    shared-as xs counts (λ m. hands m + total (once m) (drop i kids)) hands loose loose s (λ m. let z = none-left (once m) kids i past in omega arith) (λ slot. refl)
  where
    none-left : {X : Type 0} (w : Option X → ℕ) (xs : List (Option X)) (i : ℕ) → length xs ≤ i → total w (drop i xs) ≡ 0
    none-left w [] zero past = refl
    none-left w [] (suc i) past = refl
    none-left w (x ∷ xs) zero past = absurd (omega arith)
    none-left w (x ∷ xs) (suc i) past = none-left w xs i (omega arith)

-- a child of the node that was taken is one level below it
pub child-level : (xs now : List (Option Node)) (counts hands loose counts' hands' loose' : ℕ → ℕ) (k c l i child : ℕ) (kids : List (Option ℕ))
    → IsShared xs counts hands loose → node_at xs k ≡ Some (Branch c l kids) → get_or kids i None ≡ Some child → Shrinks xs now
    → IsShared now counts' (λ m. hands' m + once m (Some child)) loose' → level_in (node_at xs k) ≡ level_in (node_at now child) + 1
child-level xs now counts hands loose counts' hands' loose' k c l i child kids s here is shrinks t =
    s.steps k i child (ap (λ o. child_in o i) here ∙ is) ∙ ap (λ n. n + 1) (sym (shrinks.level child (in-hand now counts' hands' loose' child t).1))
