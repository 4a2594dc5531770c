-- Slots counted one after another.
use Rattle.std.proofs.Common.{◌≡◌, ◌≢◌, inl, inr, ℕ, zero, suc, ◌+◌, ◌-◌, ◌^◌, ◌<◌, ◌≤◌, List, [], ◌∷◌, length, take, get_or, set, Option, Some, None, IsSome, refl, sym, ap, subst, ◌∙◌, arith}
use Rattle.std.proofs.lemmas.Bool.{cases_eq}
use Rattle.std.proofs.lemmas.List.{get_or-set_same, get_or-set_other}
use Rattle.page_pool.specs.Pool.{Pool, Page, page_at, with_count, with_free, count_at, bytes_at, count_in, bytes_in, IsLive}
use Rattle.page_delta.specs.Totals.{total}
use Rattle.page_delta.specs.Delta.{uses}
use Rattle.page_delta.specs.Shared.{IsCounted, KeepsBytes}
use Rattle.page_delta.specs.declared.entry.Entry.{Entry}
use Rattle.page_delta.proofs.Sharing.{not-some, one, one-same, one-other}
use Rattle.page_delta.proofs.Counting.{total-more, total-take-le}

pub slot-below : (slots : List (Option Page)) (k : ℕ) → IsSome (get_or slots k None) → k < length slots
slot-below [] k live = absurd (not-some {X = Page} None refl live)
slot-below (x ∷ xs) zero live = omega arith
slot-below (x ∷ xs) (suc k) live = let rest = slot-below xs k live in omega arith

count-live : (o : Option Page) → 0 < count_in o → IsSome o
count-live None some = absurd (omega arith)
count-live (Some page) some = refl

pub live-of-count : (pool : Pool) (k : ℕ) → 0 < count_at pool k → IsLive pool k
live-of-count pool k some = count-live (page_at pool k) some

pub page-same : (pool : Pool) (k : ℕ) (page : Option Page) (s : ℕ) → IsLive pool k → s ≡ k → get_or (set pool.slots k page) s None ≡ page
page-same pool k page s live e = ap (λ i. get_or (set pool.slots k page) i None) e ∙ get_or-set_same pool.slots k page None (slot-below pool.slots k live)

pub uses-le : (s : ℕ) (o : Option Entry) → uses s o ≤ 1
uses-le s None = omega arith
uses-le s (Some e) = elim (cases_eq e.slot s) [ inl h ↦ let is = one-same e.slot s (sym h) in omega arith | inr ne ↦ let is = one-other e.slot s (λ h. ne (sym h)) in omega arith ]

-- a slot counted otherwise, and no other
pub record Recounts (old new : Pool) (k c : ℕ) : Type 0 where
  pub mine : count_at new k ≡ c
  pub others : (s : ℕ) → s ≢ k → count_at new s ≡ count_at old s
  pub counted : IsCounted new
  pub keeps : KeepsBytes old new

pub recounts-with : (pool : Pool) (k c : ℕ) → IsLive pool k → IsCounted pool → 0 < c → Recounts pool (with_count pool k c) k c
recounts-with pool k c live counted some =
    let now : Option Page = Some (record { count = c; bytes = bytes_at pool k }) in
    record {
      mine = ap count_in (page-same pool k now k live refl);
      others = λ s ne. ap count_in (get_or-set_other pool.slots k s now None ne);
      counted = λ s here. elim (cases_eq s k) [
        | inl e ↦ subst (λ n. 0 < n) (sym (ap count_in (page-same pool k now s live e))) some
        | inr ne ↦ subst (λ n. 0 < n) (sym (ap count_in (get_or-set_other pool.slots k s now None ne))) (counted s (subst (λ (o : Option Page). IsSome o) (get_or-set_other pool.slots k s now None ne) here))
      ];
      keeps = λ s here. elim (cases_eq s k) [
        | inl e ↦ (subst (λ i. 0 < count_at pool i) (sym e) (counted k live), ap bytes_in (page-same pool k now s live e) ∙ ap (λ i. bytes_at pool i) (sym e))
        | inr ne ↦ (subst (λ n. 0 < n) (ap count_in (get_or-set_other pool.slots k s now None ne)) here, ap bytes_in (get_or-set_other pool.slots k s now None ne))
      ];
    }

pub recounts-free : (pool : Pool) (k : ℕ) → IsLive pool k → IsCounted pool → Recounts pool (with_free pool k) k 0
recounts-free pool k live counted = record {
  mine = ap count_in (page-same pool k None k live refl);
  others = λ s ne. ap count_in (get_or-set_other pool.slots k s None None ne);
  counted = λ s here. elim (cases_eq s k) [
    | inl e ↦ absurd (not-some (page_at (with_free pool k) s) (page-same pool k None s live e) here)
    | inr ne ↦ subst (λ n. 0 < n) (sym (ap count_in (get_or-set_other pool.slots k s None None ne))) (counted s (subst (λ (o : Option Page). IsSome o) (get_or-set_other pool.slots k s None None ne) here))
  ];
  keeps = λ s here. elim (cases_eq s k) [
    | inl e ↦ absurd (let zero : count_at (with_free pool k) s ≡ 0 = ap count_in (page-same pool k None s live e) in omega arith)
    | inr ne ↦ (subst (λ n. 0 < n) (ap count_in (get_or-set_other pool.slots k s None None ne)) here, ap bytes_in (get_or-set_other pool.slots k s None None ne))
  ];
}

pub keeps-trans : (a b c : Pool) → KeepsBytes a b → KeepsBytes b c → KeepsBytes a c
keeps-trans a b c first second s here = ((first s (second s here).0).0, (second s here).1 ∙ (first s (second s here).0).1)

-- a slot released
pub recounts-release : (pool new : Pool) (k : ℕ) → IsLive pool k → IsCounted pool → (count_at pool k ≡ 1 → new ≡ with_free pool k) → (count_at pool k ≢ 1 → new ≡ with_count pool k (count_at pool k - 1)) → Recounts pool new k (count_at pool k - 1)
recounts-release pool new k live counted last shared = elim (cases_eq (count_at pool k) 1) [
  | inl e ↦
      let zero : 0 ≡ count_at pool k - 1 = omega arith in
      subst (λ n. Recounts pool new k n) zero (subst (λ p. Recounts pool p k 0) (sym (last e)) (recounts-free pool k live counted))
  | inr ne ↦
      let some = counted k live in
      subst (λ p. Recounts pool p k (count_at pool k - 1)) (sym (shared ne)) (recounts-with pool k (count_at pool k - 1) live counted (omega arith))
]

-- how slots stand after so many of these entries were counted once more
pub record Retained (old now : Pool) (es : List (Option Entry)) : Type 0 where
  pub counts : (s : ℕ) → count_at now s ≡ count_at old s + total (uses s) es
  pub counted : IsCounted now
  pub keeps : KeepsBytes old now

pub retained-none : (pool : Pool) → IsCounted pool → Retained pool pool []
retained-none pool counted = record {
  counts = λ s. omega arith;
  counted = counted;
  keeps = λ s here. (here, refl);
}

pub retain-step : (old now new : Pool) (es : List (Option Entry)) (i : ℕ) (e : Entry) → Retained old now (take i es) → get_or es i None ≡ Some e → i < length es → IsLive now e.slot → new ≡ with_count now e.slot (count_at now e.slot + 1) → Retained old new (take (i + 1) es)
retain-step old now new es i e r is below live step =
    let next = subst (λ p. Recounts now p e.slot (count_at now e.slot + 1)) (sym step) (recounts-with now e.slot (count_at now e.slot + 1) live r.counted (omega arith)) in
    record {
      counts = λ s.
          let more = total-more (uses s) es i below in
          let mine : uses s (get_or es i None) ≡ one e.slot s = ap (uses s) is in
          let before = r.counts s in
          elim (cases_eq s e.slot) [
            | inl same ↦
                let one_is = one-same e.slot s same in
                let here : count_at new s ≡ count_at now s + 1 = ap (λ n. count_at new n) same ∙ next.mine ∙ ap (λ n. count_at now n + 1) (sym same) in omega arith
            | inr ne ↦ let one_is = one-other e.slot s ne in let there = next.others s ne in omega arith
          ];
      counted = next.counted;
      keeps = keeps-trans old now new r.keeps next.keeps;
    }

pub retain-pass : (old now : Pool) (es : List (Option Entry)) (i : ℕ) → Retained old now (take i es) → get_or es i None ≡ None → i < length es → Retained old now (take (i + 1) es)
retain-pass old now es i r is below = record {
  counts = λ s. let more = total-more (uses s) es i below in let mine : uses s (get_or es i None) ≡ 0 = ap (uses s) is in let before = r.counts s in omega arith;
  counted = r.counted;
  keeps = r.keeps;
}

pub retain-room : (old now : Pool) (es : List (Option Entry)) (i k : ℕ) → Retained old now (take i es) → i < length es → IsLive old k → IsCounted old → count_at old k + length es < 2 ^ 32 → IsLive now k × (count_at now k + 1 < 2 ^ 32)
retain-room old now es i k r below live counted room =
    let few = total-take-le (uses k) es i (uses-le k) (omega arith) in
    let before = r.counts k in
    let some = counted k live in
    (live-of-count now k (omega arith), omega arith)

total-take : {X : Type 0} (w : Option X → ℕ) (xs : List (Option X)) (n : ℕ) → total w (take n xs) ≤ total w xs
total-take w [] n = omega (arith, total-nil w n)
  where
    total-nil : {X : Type 0} (w : Option X → ℕ) (n : ℕ) → total w (take n []) ≡ 0
    total-nil w zero = refl
    total-nil w (suc n) = refl
total-take w (x ∷ xs) zero = omega arith
total-take w (x ∷ xs) (suc n) = let rest = total-take w xs n in omega arith

-- how slots stand after so many of these entries were counted once less
pub record Released (old now : Pool) (es : List (Option Entry)) : Type 0 where
  pub counts : (s : ℕ) → count_at now s + total (uses s) es ≡ count_at old s
  pub counted : IsCounted now
  pub keeps : KeepsBytes old now

pub released-none : (pool : Pool) → IsCounted pool → Released pool pool []
released-none pool counted = record {
  counts = λ s. omega arith;
  counted = counted;
  keeps = λ s here. (here, refl);
}

pub release-live : (old now : Pool) (es : List (Option Entry)) (i : ℕ) (e : Entry) → Released old now (take i es) → get_or es i None ≡ Some e → i < length es → ((s : ℕ) → total (uses s) es ≤ count_at old s) → IsLive now e.slot
release-live old now es i e r is below enough =
    let k = e.slot in
    let more = total-more (uses k) es i below in
    let mine : uses k (get_or es i None) ≡ one k k = ap (uses k) is in
    let one_is = one-same k k refl in
    let all = total-take (uses k) es (i + 1) in
    let fits = enough k in
    let before = r.counts k in
    live-of-count now k (omega arith)

pub release-step : (old now new : Pool) (es : List (Option Entry)) (i : ℕ) (e : Entry) → Released old now (take i es) → get_or es i None ≡ Some e → i < length es
    → IsLive now e.slot → (count_at now e.slot ≡ 1 → new ≡ with_free now e.slot) → (count_at now e.slot ≢ 1 → new ≡ with_count now e.slot (count_at now e.slot - 1))
    → Released old new (take (i + 1) es)
release-step old now new es i e r is below live last shared =
    let next = recounts-release now new e.slot live r.counted last shared in
    record {
      counts = λ s.
          let more = total-more (uses s) es i below in
          let mine : uses s (get_or es i None) ≡ one e.slot s = ap (uses s) is in
          let before = r.counts s in
          elim (cases_eq s e.slot) [
            | inl same ↦
                let one_is = one-same e.slot s same in
                let some = r.counted e.slot live in
                let at : count_at now s ≡ count_at now e.slot = ap (λ n. count_at now n) same in
                let here : count_at new s ≡ count_at now e.slot - 1 = ap (λ n. count_at new n) same ∙ next.mine in omega arith
            | inr ne ↦ let one_is = one-other e.slot s ne in let there = next.others s ne in omega arith
          ];
      counted = next.counted;
      keeps = keeps-trans old now new r.keeps next.keeps;
    }

pub release-pass : (old now : Pool) (es : List (Option Entry)) (i : ℕ) → Released old now (take i es) → get_or es i None ≡ None → i < length es → Released old now (take (i + 1) es)
release-pass old now es i r is below = record {
  counts = λ s. let more = total-more (uses s) es i below in let mine : uses s (get_or es i None) ≡ 0 = ap (uses s) is in let before = r.counts s in omega arith;
  counted = r.counted;
  keeps = r.keeps;
}
