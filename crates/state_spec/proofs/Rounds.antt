-- The pages that a write meets, and the rounds of pages.
use Rattle.std.proofs.Common.{◌≡◌, ◌≢◌, ◌⊎◌, ℕ, zero, suc, ◌+◌, ◌-◌, ◌*◌, ◌/◌, ◌<◌, ◌≤◌, Bool, true, false, ◌||◌, cond, List, [], ◌∷◌, ◌++◌, Some, is_eq, Ordering, Less, Equal, Greater, refl, ap, ◌∙◌, inl, inr, arith, nat_lt, nat_eq, ne_eqb, eq-eqb}
use Rattle.std.specs.List.{AllByRecursion, list_any, range_with_len}
use Rattle.std.specs.FinMap.{find, put, is_sorted}
use Rattle.std.specs.FinMap.Entries.{is_sorted-put, find-put, by_order}
use Rattle.std.specs.Ordering.{nat_cmp}
use Rattle.std.proofs.lemmas.Bool.{ltb-true}
use Rattle.std.proofs.lemmas.Cmp.{nat_cmp_total}
use Rattle.std.proofs.lemmas.List.Sums.{fold-append}
use Rattle.std.proofs.lemmas.Grind.{div_ceil_times}
use Rattle.format_spec.specs.declared.limits.TheConstants.{PAGE_SIZE}
use Rattle.format_spec.proofs.Lists.{from_T, to_T}
use Rattle.state_spec.specs.Memory.{pages_for, pages_between, stamped_rounds}

abbrev pub Rounds : Type 0
Rounds = List (ℕ × ℕ)

-- ---- rounds

-- one page after the other
pub stamped_more : (round : ℕ) (pages : List ℕ) (page : ℕ) (rs : Rounds) → stamped_rounds round (pages ++ page ∷ []) rs ≡ put nat_cmp page round (stamped_rounds round pages rs)
stamped_more round pages page rs = fold-append (λ (xs : Rounds) (p : ℕ). put nat_cmp p round xs) rs pages (page ∷ [])

equal_is : (q k : ℕ) → is_eq (nat_cmp q k) ≡ nat_eq q k
equal_is q k = by (nat_lt q k) refl (nat_eq q k)
  where
    by : (lt : Bool) → nat_lt q k ≡ lt → (e : Bool) → is_eq (nat_cmp q k) ≡ nat_eq q k
    by true lt e = let below : q < k = ltb-true q k lt in rw (lt, ne_eqb q k (λ same. absurd (omega (arith, below, same)))) refl
    by false lt e = rw lt (told (nat_eq q k))
      where
        told : (e : Bool) → is_eq (cond e Equal Greater) ≡ e
        told true = refl
        told false = refl

-- a page has the new round where it is one of these pages, and else the round that it had
pub stamped_find : (round : ℕ) (pages : List ℕ) (rs : Rounds) (q : ℕ) → find nat_cmp q (stamped_rounds round pages rs) ≡ cond (list_any (nat_eq q) pages) (Some round) (find nat_cmp q rs)
stamped_find round [] rs q = refl
stamped_find round (p ∷ pages) rs q =
    stamped_find round pages (put nat_cmp p round rs) q
    ∙ ap (cond (list_any (nat_eq q) pages) (Some round)) (find-put nat_cmp nat_cmp_total q p round rs ∙ ap (λ (b : Bool). cond b (Some round) (find nat_cmp q rs)) (equal_is q p))
    ∙ joined (list_any (nat_eq q) pages) (nat_eq q p)
  where
    joined : (a b : Bool) → cond a (Some round) (cond b (Some round) (find nat_cmp q rs)) ≡ cond (b || a) (Some round) (find nat_cmp q rs)
    joined true true = refl
    joined true false = refl
    joined false true = refl
    joined false false = refl

pub stamped_sorted : (round : ℕ) (pages : List ℕ) (rs : Rounds) → is_sorted nat_cmp rs ≡ true → is_sorted nat_cmp (stamped_rounds round pages rs) ≡ true
stamped_sorted round [] rs h = h
stamped_sorted round (p ∷ pages) rs h =
    stamped_sorted round pages (put nat_cmp p round rs)
    (from_T (is_sorted nat_cmp (put nat_cmp p round rs)) (is_sorted-put nat_cmp nat_cmp_total p round rs (to_T (is_sorted nat_cmp rs) h)))

put_within : (n round page : ℕ) (rs : Rounds) → page < n → AllByRecursion (λ r. r.0 < n) rs → AllByRecursion (λ r. r.0 < n) (put nat_cmp page round rs)
put_within n round page [] lt h = (lt, tt)
put_within n round page (r ∷ rs) lt h = by (nat_cmp page r.0) (put_within n round page rs lt h.1)
  where
    by : (o : Ordering) → AllByRecursion (λ r. r.0 < n) (put nat_cmp page round rs) → AllByRecursion (λ r. r.0 < n) (by_order o ((page, round) ∷ r ∷ rs) ((r.0, round) ∷ rs) (r ∷ put nat_cmp page round rs))
    by Less more = (lt, h)
    by Equal more = h
    by Greater more = (h.0, more)

pub stamped_within : (n round : ℕ) (pages : List ℕ) (rs : Rounds) → AllByRecursion (λ p. p < n) pages → AllByRecursion (λ r. r.0 < n) rs → AllByRecursion (λ r. r.0 < n) (stamped_rounds round pages rs)
stamped_within n round [] rs p h = h
stamped_within n round (page ∷ pages) rs p h = stamped_within n round pages (put nat_cmp page round rs) p.1 (put_within n round page rs p.0 h)

-- ---- the pages that a write meets

range_in : (q a k : ℕ) → a ≤ q → q < a + k → list_any (nat_eq q) (range_with_len a k) ≡ true
range_in q a zero low high = absurd (omega (arith, low, high))
range_in q a (suc k) low high = by (nat_eq q a) refl (λ more. range_in q (a + 1) k more (omega (arith, high)))
  where
    by : (b : Bool) → nat_eq q a ≡ b → (a + 1 ≤ q → list_any (nat_eq q) (range_with_len (a + 1) k) ≡ true) → nat_eq q a || list_any (nat_eq q) (range_with_len (a + 1) k) ≡ true
    by true e more = ap (λ (b : Bool). b || list_any (nat_eq q) (range_with_len (a + 1) k)) e
    by false e more = let other : q ≢ a = λ same. absurd (cc (eq-eqb q a same, e)) in ap (λ (b : Bool). b || list_any (nat_eq q) (range_with_len (a + 1) k)) e ∙ more (omega (arith, low, other))

range_out : (q a k : ℕ) → (q < a) ⊎ (a + k ≤ q) → list_any (nat_eq q) (range_with_len a k) ≡ false
range_out q a zero h = refl
range_out q a (suc k) h =
    ap (λ (b : Bool). b || list_any (nat_eq q) (range_with_len (a + 1) k)) (ne_eqb q a (λ same. apart same h)) ∙ range_out q (a + 1) k (further h)
  where
    apart : q ≡ a → (q < a) ⊎ (a + suc k ≤ q) → ⊥
    apart same (inl lt) = absurd (omega (arith, same, lt))
    apart same (inr le) = absurd (omega (arith, same, le))

    further : (q < a) ⊎ (a + suc k ≤ q) → (q < a + 1) ⊎ (a + 1 + k ≤ q)
    further (inl lt) = inl (omega (arith, lt))
    further (inr le) = inr (omega (arith, le))

range_within : (n a k : ℕ) → a + k ≤ n → AllByRecursion (λ p. p < n) (range_with_len a k)
range_within n a zero h = tt
range_within n a (suc k) h = (omega (arith, h), range_within n (a + 1) k (omega (arith, h)))

module _ (at n : ℕ) (some : 0 < n) where
  bounds : (at + n ≤ pages_for (at + n) * 4096) × (pages_for (at + n) * 4096 < at + n + 4096)
  bounds = div_ceil_times (at + n) 4096 (omega arith)

  pub page_met : (q : ℕ) → q * PAGE_SIZE < at + n → at < (q + 1) * PAGE_SIZE → list_any (nat_eq q) (pages_between at n) ≡ true
  unfolding pages_between
  page_met q low high = range_in q (at / PAGE_SIZE) (pages_for (at + n) - at / PAGE_SIZE) (omega (arith, high)) (omega (arith, low, high, bounds))

  pub page_missed : (q : ℕ) → ((q + 1) * PAGE_SIZE ≤ at) ⊎ (at + n ≤ q * PAGE_SIZE) → list_any (nat_eq q) (pages_between at n) ≡ false
  unfolding pages_between
  page_missed q h = range_out q (at / PAGE_SIZE) (pages_for (at + n) - at / PAGE_SIZE) (by h)
    where
      by : ((q + 1) * PAGE_SIZE ≤ at) ⊎ (at + n ≤ q * PAGE_SIZE) → (q < at / PAGE_SIZE) ⊎ (at / PAGE_SIZE + (pages_for (at + n) - at / PAGE_SIZE) ≤ q)
      by (inl before) = inl (omega (arith, before))
      by (inr behind) = inr (omega (arith, behind, bounds))

  pub pages_within : (m : ℕ) → pages_for (at + n) ≤ m → AllByRecursion (λ p. p < m) (pages_between at n)
  unfolding pages_between
  pages_within m h = range_within m (at / PAGE_SIZE) (pages_for (at + n) - at / PAGE_SIZE) (omega (arith, h, bounds))
