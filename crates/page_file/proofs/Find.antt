-- Where a page stands among the pages of ranges.
use Rattle.std.proofs.Common.{◌≡◌, ℕ, zero, suc, ◌+◌, ◌-◌, ◌<◌, ◌≤◌, nat_lt, List, [], ◌∷◌, length, get_or, Option, Some, None, refl, sym, ◌∙◌, ap, subst, arith, cond, inl, inr}
use Rattle.std.specs.List.{position}
use Rattle.std.proofs.lemmas.Bool.{lt-ltb, le-ltb, cases_lt}
use Rattle.std.proofs.lemmas.List.{get_or_default}
use Rattle.page_file.specs.declared.range.Range.{Range}
use Rattle.page_file.specs.Ranges.{numbers_in, AreRanges}
use Rattle.page_file.proofs.Runs.{numbers_from}
use Rattle.page_spec.proofs.Positions.{in_range, is, not_there, past_range, plus, plus_plus, plus_zero}

module _ (page : ℕ) where
  -- no range begins at this page or before it
  pub none_before : (m l p : ℕ) (rs : List Range) → AreRanges m l p rs → ((d : Range) → 0 < length rs → page < (get_or rs 0 d).first) → position (is page) (numbers_in rs) ≡ None
  none_before m l p [] h above = refl
  none_before m l p (r ∷ rs) h above = not_there page r.first (numbers_in (r ∷ rs)) (numbers_from m r.first p (r ∷ rs) (omega arith, h.1, h.2, h.3, h.4)) (above r (omega arith))

  begins_after : (m l p : ℕ) (rs : List Range) (k : ℕ) (d : Range) → AreRanges m l p rs → k < length rs → l ≤ (get_or rs k d).first
  begins_after m l p [] k d h lt = absurd (omega arith)
  begins_after m l p (r ∷ rs) zero d h lt = h.0
  begins_after m l p (r ∷ rs) (suc k) d h lt = omega (arith, h.0, begins_after m (r.first + r.length + 1) (p + r.length) rs k d h.4 (omega arith))

  abbrev found_in : Range → Option ℕ
  found_in r = cond (nat_lt (page - r.first) r.length) (Some (r.place + (page - r.first))) None

  pub found_here : (r : Range) → page - r.first < r.length → found_in r ≡ Some (r.place + (page - r.first))
  found_here r lt = rw (lt-ltb (page - r.first) r.length lt) refl

  pub found_nowhere : (r : Range) → r.length ≤ page - r.first → found_in r ≡ None
  found_nowhere r le = rw (le-ltb (page - r.first) r.length le) refl

  -- the range at k begins no later than the page, and the next one after it
  pub found_at : (m l p : ℕ) (rs : List Range) (k : ℕ) (d : Range) → AreRanges m l p rs → k < length rs → (get_or rs k d).first ≤ page
      → (k + 1 < length rs → page < (get_or rs (k + 1) d).first) → plus p (position (is page) (numbers_in rs)) ≡ found_in (get_or rs k d)
  found_at m l p [] k d h lt le above = absurd (omega arith)
  found_at m l p (r ∷ rs) zero d h lt le above = elim (cases_lt (page - r.first) r.length) [
    | inl within ↦ rw (lt-ltb (page - r.first) r.length within) (ap (plus p) (in_range page r.first r.length (numbers_in rs) le (omega (arith, within, le))) ∙ ap (λ (k : ℕ). Some (k + (page - r.first))) (sym h.3))
    | inr past ↦ rw (le-ltb (page - r.first) r.length past) (ap (plus p) (past_range page r.first r.length (numbers_in rs) (omega (arith, past, le)) ∙ ap (plus r.length) rest))
  ]
    where
      rest : position (is page) (numbers_in rs) ≡ None
      rest = none_before m (r.first + r.length + 1) (p + r.length) rs h.4 (λ e more. subst (λ x. page < x) (ap (λ (x : Range). x.first) (get_or_default rs 0 d e more)) (above (omega (arith, more))))
  found_at m l p (r ∷ rs) (suc k) d h lt le above =
      ap (plus p) (past_range page r.first r.length (numbers_in rs) (past rs h.4 k (omega arith) le)) ∙ plus_plus p r.length (position (is page) (numbers_in rs))
      ∙ found_at m (r.first + r.length + 1) (p + r.length) rs k d h.4 (omega arith) le
      (λ more. let at : suc k + 1 ≡ suc (k + 1) = omega arith in subst (λ (j : ℕ). page < (get_or (r ∷ rs) j d).first) at (above (omega (arith, more))))
    where
      past : (rs : List Range) → AreRanges m (r.first + r.length + 1) (p + r.length) rs → (k : ℕ) → k < length rs → (get_or rs k d).first ≤ page → r.first + r.length ≤ page
      past rs h k lt le = omega (arith, begins_after m (r.first + r.length + 1) (p + r.length) rs k d h lt, le)

  -- so many ranges begin by this page, and r is the last of them
  pub found_by : (m : ℕ) (rs : List Range) (n : ℕ) (r d : Range) → AreRanges m 0 0 rs → n ≤ length rs → ((k : ℕ) (d : Range) → k < n → (get_or rs k d).first ≤ page) → ((k : ℕ) (d : Range) → n ≤ k → k < length rs → page < (get_or rs k d).first)
      → (n ≡ 0 → ⊥) → r ≡ get_or rs (n - 1) d → position (is page) (numbers_in rs) ≡ found_in r
  found_by m rs n r d h le begun later some at =
      let next : n - 1 + 1 ≡ n = omega (arith, some) in
      sym (plus_zero (position (is page) (numbers_in rs))) ∙ found_at m 0 0 rs (n - 1) d h (omega (arith, some, le)) (begun (n - 1) d (omega (arith, some))) (λ more. later (n - 1 + 1) d (omega arith) more) ∙ ap found_in (sym at)

pub firsts_ascend : (m l p : ℕ) (rs : List Range) → AreRanges m l p rs → (i j : ℕ) (d : Range) → i ≤ j → j < length rs → (get_or rs i d).first ≤ (get_or rs j d).first
firsts_ascend m l p [] h i j d le lt = absurd (omega arith)
firsts_ascend m l p (r ∷ rs) h zero zero d le lt = omega arith
firsts_ascend m l p (r ∷ rs) h zero (suc j) d le lt = omega (arith, begins_after 0 m (r.first + r.length + 1) (p + r.length) rs j d h.4 (omega arith))
firsts_ascend m l p (r ∷ rs) h (suc i) zero d le lt = absurd (omega arith)
firsts_ascend m l p (r ∷ rs) h (suc i) (suc j) d le lt = firsts_ascend m (r.first + r.length + 1) (p + r.length) rs h.4 i j d (omega arith) (omega arith)

pub range_fits : (m l p : ℕ) (rs : List Range) → AreRanges m l p rs → p ≤ l → (k : ℕ) (d : Range) → k < length rs → ((get_or rs k d).place ≤ (get_or rs k d).first) × ((get_or rs k d).first + (get_or rs k d).length ≤ m)
range_fits m l p [] h le k d lt = absurd (omega arith)
range_fits m l p (r ∷ rs) h le zero d lt = (omega (arith, h.0, h.3), h.2)
range_fits m l p (r ∷ rs) h le (suc k) d lt = range_fits m (r.first + r.length + 1) (p + r.length) rs h.4 (omega (arith, h.0)) k d (omega arith)
