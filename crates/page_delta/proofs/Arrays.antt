-- Arrays with a mark where there is nothing.
use Rattle.std.proofs.Common.{◌≡◌, inl, inr, ℕ, zero, suc, ◌+◌, ◌<◌, List, [], ◌∷◌, length, get_or, set, eqb, Option, Some, None, refl, sym, ap, ◌∙◌, arith, length-set}
use Rattle.std.proofs.lemmas.Bool.{cases_eq, cases_Bool, eqb-true}
use Rattle.std.proofs.lemmas.List.{get_or-set_same, get_or-set_other}
use Rattle.page_pool.specs.Pool.{slot_of}
use Rattle.page_delta.specs.Arrays.{entry_with, entries_of}

-- a number below the mark
pub slot_of-below : (number : ℕ) → number < 4294967295 → slot_of number ≡ Some number
slot_of-below number low =
    elim (cases_Bool (eqb number 4294967295)) [
      | inl at ↦ absurd (let same = eqb-true number 4294967295 at in omega arith)
      | inr not ↦ rw not refl
    ]

pub entries-at : (slots stamps : List ℕ) (k slot stamp : ℕ) → k < length slots → k < length stamps
    → get_or (entries_of slots stamps) k None ≡ entry_with (slot_of (get_or slots k slot)) (get_or stamps k stamp)
entries-at [] stamps k slot stamp low under = absurd (omega arith)
entries-at (s ∷ slots) [] k slot stamp low under = absurd (omega arith)
entries-at (s ∷ slots) (t ∷ stamps) zero slot stamp low under = refl
entries-at (s ∷ slots) (t ∷ stamps) (suc k) slot stamp low under = entries-at slots stamps k slot stamp (omega arith) (omega arith)

pub entries-set : (slots stamps : List ℕ) (k slot stamp : ℕ)
    → entries_of (set slots k slot) (set stamps k stamp) ≡ set (entries_of slots stamps) k (entry_with (slot_of slot) stamp)
entries-set [] stamps k slot stamp = refl
entries-set (s ∷ slots) [] zero slot stamp = refl
entries-set (s ∷ slots) [] (suc k) slot stamp = refl
entries-set (s ∷ slots) (t ∷ stamps) zero slot stamp = refl
entries-set (s ∷ slots) (t ∷ stamps) (suc k) slot stamp =
    ap (λ rest. entry_with (slot_of s) t ∷ rest) (entries-set slots stamps k slot stamp)

pub entries-wide : (slots stamps : List ℕ) → length stamps ≡ length slots → length (entries_of slots stamps) ≡ length slots
entries-wide [] stamps same = refl
entries-wide (s ∷ slots) [] same = absurd (omega arith)
entries-wide (s ∷ slots) (t ∷ stamps) same = ap suc (entries-wide slots stamps (omega arith))

-- one more place of a copy
pub all-step : {X : Type 0} (all places : List (Option X)) (k : ℕ) (found : Option X) → length all ≡ 32
    → ((i : ℕ) → i < k → get_or all i None ≡ get_or places i None) → k < 32 → found ≡ get_or places k None
    → (length (set all k found) ≡ 32) × ((i : ℕ) → i < k + 1 → get_or (set all k found) i None ≡ get_or places i None)
all-step all places k found wide same low is = (
  length-set all k found ∙ wide,
  λ i below.
      elim (cases_eq i k) [
        | inl at ↦ ap (λ j. get_or (set all k found) j None) at ∙ get_or-set_same all k found None (omega arith) ∙ is
            ∙ ap (λ j. get_or places j None) (sym at)
        | inr far ↦ get_or-set_other all k i found None far ∙ same i (omega arith)
      ],
)
