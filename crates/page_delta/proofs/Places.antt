-- Each slot has one place in leaves, so the places that have it are as many as the nodes.
use Rattle.std.proofs.Common.{◌≡◌, ◌≢◌, inl, inr, ℕ, zero, suc, ◌+◌, ◌≤◌, List, [], ◌∷◌, get_or, set, Bool, true, false, Option, Some, None, IsSome, count_by, cond, eqb, refl, sym, ap, subst, ◌∙◌, arith}
use Rattle.std.specs.List.{list_any}
use Rattle.std.proofs.lemmas.Bool.{cases_eq, cases_Bool, eqb-true}
use Rattle.std.proofs.lemmas.List.{get_or-set_same, get_or-set_other}
use Rattle.std.proofs.lemmas.List.Recursion.{is_count_by}
use Rattle.page_pool.specs.Pool.{Pool, count_at}
use Rattle.page_delta.specs.Totals.{total}
use Rattle.page_delta.specs.Delta.{uses, uses_in, has_slot, is_holder}
use Rattle.page_delta.specs.Nodes.{node_at, entry_in, node_with_count}
use Rattle.page_delta.specs.Shared.{slots_in, StandsAt, IsPlaced, KeepsPlaces, Shrinks}
use Rattle.page_delta.specs.Roots.{IsHeld}
use Rattle.page_delta.specs.declared.entry.Entry.{Entry}
use Rattle.page_delta.specs.declared.node.Node.{Node}
use Rattle.page_delta.specs.declared.node.Node.TheVariants.{Branch, Leaf}
use Rattle.page_delta.proofs.Sums.{total-has, total-none}
use Rattle.page_delta.proofs.Sharing.{some-none, entry-recounted, one-same, one-other}
use Rattle.page_delta.proofs.Copies.{entry-used}
use Rattle.page_delta.proofs.Pools.{uses-le}
use Rattle.page_delta.proofs.Changes.{NodeList, SetsEntry}

pub places-trans : (xs ys zs : List (Option Node)) → KeepsPlaces xs ys → KeepsPlaces ys zs → KeepsPlaces xs zs
places-trans xs ys zs a b slot place at = b slot place (a slot place at)

pub placed-next : (xs ys : List (Option Node)) → IsPlaced xs → KeepsPlaces xs ys → IsPlaced ys
placed-next xs ys placed keeps slot = let p = placed slot in (p.0, keeps slot p.0 p.1)

-- nodes counted otherwise
pub places-recounted : (xs ys : List (Option Node)) (now : ℕ → ℕ) → ((m : ℕ) → node_at ys m ≡ node_with_count (node_at xs m) (now m)) → KeepsPlaces xs ys
places-recounted xs ys now each slot place at key digit entry is =
    at key digit entry (sym (ap (λ o. entry_in o digit) (each key) ∙ entry-recounted (node_at xs key) (now key) digit) ∙ is)

-- a node with no entry comes to a key
pub places-put : (xs ys : List (Option Node)) (fresh : ℕ) (node : Node) → ((d : ℕ) → entry_in (Some node) d ≡ None) → node_at ys fresh ≡ Some node → ((m : ℕ) → m ≢ fresh → node_at ys m ≡ node_at xs m) → KeepsPlaces xs ys
places-put xs ys fresh node none here rest slot place at key digit entry is same = elim (cases_eq key fresh) [
  | inl e ↦ absurd (some-none entry (sym is ∙ ap (λ o. entry_in o digit) (ap (λ i. node_at ys i) e ∙ here) ∙ none digit))
  | inr ne ↦ at key digit entry (sym (ap (λ o. entry_in o digit) (rest key ne)) ∙ is) same
]

-- a copy of a node comes to a key, and nodes are counted otherwise
pub places-copied : (xs ys : List (Option Node)) (now : ℕ → ℕ) (fresh node : ℕ) → node_at ys fresh ≡ node_with_count (node_at xs node) 1 → ((m : ℕ) → m ≢ fresh → node_at ys m ≡ node_with_count (node_at xs m) (now m)) → KeepsPlaces xs ys
places-copied xs ys now fresh node here rest slot place at key digit entry is same = elim (cases_eq key fresh) [
  | inl e ↦ at node digit entry (sym (ap (λ o. entry_in o digit) (ap (λ i. node_at ys i) e ∙ here) ∙ entry-recounted (node_at xs node) 1 digit) ∙ is) same
  | inr ne ↦ at key digit entry (sym (ap (λ o. entry_in o digit) (rest key ne) ∙ entry-recounted (node_at xs key) (now key) digit) ∙ is) same
]

has-entry : (o : Option Node) (d : ℕ) (e : Entry) → entry_in o d ≡ Some e → IsSome o
has-entry None d e is = absurd (some-none e (sym is))
has-entry (Some node) d e is = refl

-- nodes are taken away
pub places-shrink : (xs ys : List (Option Node)) → Shrinks xs ys → KeepsPlaces xs ys
places-shrink xs ys shrinks slot place at key digit entry is =
    at key digit entry (sym (shrinks.entry key digit (has-entry (node_at ys key) digit entry is)) ∙ is)

-- an entry comes to a place of a leaf
module _ (xs ys : NodeList) (key count d : ℕ) (entry : Entry) (es : List (Option Entry)) (sets : SetsEntry xs ys key count d entry es) where
  stands-entry : (slot place : ℕ) → StandsAt xs slot place → (slot ≡ entry.slot → d ≡ place) → StandsAt ys slot place
  stands-entry slot place at mine k digit e is same = elim (cases_eq k key) [
    | inl eq ↦
        let found : get_or (set es d (Some entry)) digit None ≡ Some e = sym (ap (λ o. entry_in o digit) (ap (λ i. node_at ys i) eq ∙ sets.now)) ∙ is in
        elim (cases_eq digit d) [
          | inl at_d ↦
              let both : Some entry ≡ Some e = sym (ap (λ i. get_or (set es d (Some entry)) i None) at_d ∙ get_or-set_same es d (Some entry) None sets.below) ∙ found in
              let eq_entry : entry ≡ e = cc in
              at_d ∙ mine (sym same ∙ sym (ap (λ (i : Entry). i.slot) eq_entry))
          | inr far ↦ at key digit e (ap (λ o. entry_in o digit) sets.here ∙ sym (get_or-set_other es d digit (Some entry) None far) ∙ found) same
        ]
    | inr ne ↦ at k digit e (sym (ap (λ o. entry_in o digit) (sets.rest k ne)) ∙ is) same
  ]

  pub placed-entry : IsPlaced xs → StandsAt xs entry.slot d → IsPlaced ys
  placed-entry placed at slot = elim (cases_eq slot entry.slot) [
    | inl e ↦ (d, stands-entry slot d (subst (λ i. StandsAt xs i d) (sym e) at) (λ same. refl))
    | inr ne ↦ let p = placed slot in (p.0, stands-entry slot p.0 p.1 (λ e. absurd (ne e)))
  ]

-- a slot that isn't counted is in no leaf
pub stands-free : (xs : List (Option Node)) (pool : Pool) (loose : ℕ → ℕ) (slot place : ℕ) → IsHeld xs pool loose → count_at pool slot ≡ 0 → StandsAt xs slot place
stands-free xs pool loose slot place h none key digit entry is same = absurd (
    let used = entry-used (node_at xs key) digit entry is in
    let has = total-has (slots_in entry.slot) refl xs key in
    let count = h.counts entry.slot in
    let zero_is : count_at pool entry.slot ≡ 0 = ap (λ i. count_at pool i) same ∙ none in
    omega arith)

-- the slot of an entry stands where the entry does
pub stands-found : (xs : List (Option Node)) (key digit : ℕ) (entry : Entry) → IsPlaced xs → entry_in (node_at xs key) digit ≡ Some entry → StandsAt xs entry.slot digit
stands-found xs key digit entry placed is =
    let p = placed entry.slot in
    let eq : digit ≡ p.0 = p.1 key digit entry is refl in
    subst (λ i. StandsAt xs entry.slot i) (sym eq) p.1

no-use : (slot : ℕ) (o : Option Entry) → ((e : Entry) → o ≡ Some e → e.slot ≢ slot) → uses slot o ≡ 0
no-use slot None other = refl
no-use slot (Some e) other = one-other e.slot slot (λ same. other e refl (sym same))

one-use : (slot place : ℕ) (es : List (Option Entry)) → ((d : ℕ) (e : Entry) → get_or es d None ≡ Some e → e.slot ≡ slot → d ≡ place) → total (uses slot) es ≤ 1
one-use slot place [] at = omega arith
one-use slot zero (o ∷ os) at =
    let first = uses-le slot o in
    let rest = total-none (uses slot) refl os (λ k. no-use slot (get_or os k None) (λ e is same. let wrong = at (suc k) e is same in omega arith)) in
    omega arith
one-use slot (suc place) (o ∷ os) at =
    let first = no-use slot o (λ e is same. let wrong = at 0 e is same in omega arith) in
    let rest = one-use slot place os (λ d e is same. let next = at (suc d) e is same in omega arith) in
    omega arith

-- a leaf has a slot at one place
pub once-placed : (xs : List (Option Node)) → IsPlaced xs → (slot key : ℕ) → slots_in slot (node_at xs key) ≤ 1
once-placed xs placed slot key =
    let p = placed slot in
    go p.0 (node_at xs key) (λ d e is same. p.1 key d e is same)
  where
    go : (place : ℕ) (o : Option Node) → ((d : ℕ) (e : Entry) → entry_in o d ≡ Some e → e.slot ≡ slot → d ≡ place) → slots_in slot o ≤ 1
    go place None at = omega arith
    go place (Some (Branch c l kids)) at = omega arith
    go place (Some (Leaf c es)) at = one-use slot place es at

-- one where the node holds the slot
abbrev held_once : ℕ → Option (List (Option Entry)) → ℕ
held_once slot leaf = cond (is_holder slot leaf) 1 0

places-held : (slot : ℕ) (es : List (Option Entry)) → total (uses slot) es ≤ 1 → total (uses slot) es ≡ cond (list_any (has_slot slot) es) 1 0
places-held slot [] le = refl
places-held slot (None ∷ es) le = let rest = places-held slot es (omega arith) in omega arith
places-held slot (Some e ∷ es) le = elim (cases_Bool (eqb e.slot slot)) [
  | inl h ↦ let mine = one-same e.slot slot (sym (eqb-true e.slot slot h)) in let rest : total (uses slot) es ≡ 0 = omega arith in rw (h, rest) refl
  | inr h ↦
      let mine : uses slot (Some e) ≡ 0 = rw h refl in
      let rest = places-held slot es (omega arith) in
      let same : list_any (has_slot slot) (Some e ∷ es) ≡ list_any (has_slot slot) es = rw h refl in
      (let zero_is : total (uses slot) (Some e ∷ es) ≡ total (uses slot) es = omega arith in zero_is) ∙ rest ∙ ap (λ b. cond b 1 0) (sym same)
]

uses-held : (slot : ℕ) (leaf : Option (List (Option Entry))) → uses_in slot leaf ≤ 1 → uses_in slot leaf ≡ held_once slot leaf
uses-held slot None le = refl
uses-held slot (Some es) le = places-held slot es le

total-held : (slot : ℕ) (leaves : List (Option (List (Option Entry)))) → total (held_once slot) leaves ≡ count_by (is_holder slot) leaves
total-held slot = is_count_by (λ (xs : List (Option (List (Option Entry)))). total (held_once slot) xs) (is_holder slot) refl step
  where
    either : (b : Bool) (n : ℕ) → cond b 1 0 + n ≡ cond b (1 + n) n
    either true n = refl
    either false n = omega arith

    step : (x : Option (List (Option Entry))) (xs : List (Option (List (Option Entry)))) → total (held_once slot) (x ∷ xs) ≡ cond (is_holder slot x) (1 + total (held_once slot) xs) (total (held_once slot) xs)
    step x xs = either (is_holder slot x) (total (held_once slot) xs)

-- where no node holds a slot twice, the places that have it are as many as the nodes that hold it
pub places-nodes : (slot : ℕ) (leaves : List (Option (List (Option Entry)))) → ((node : ℕ) → uses_in slot (get_or leaves node None) ≤ 1) → total (uses_in slot) leaves ≡ count_by (is_holder slot) leaves
places-nodes slot leaves once = same leaves once ∙ total-held slot leaves
  where
    same : (xs : List (Option (List (Option Entry)))) → ((k : ℕ) → uses_in slot (get_or xs k None) ≤ 1) → total (uses_in slot) xs ≡ total (held_once slot) xs
    same [] le = refl
    same (x ∷ xs) le = let here = uses-held slot x (le 0) in let rest = same xs (λ k. le (suc k)) in omega arith
