-- Rows of one size in one byte string, written one after another.
use Rattle.std.proofs.Common.{◌≡◌, ℕ, ◌+◌, ◌*◌, ◌<◌, ◌≤◌, ◌++◌, length, take, drop, sym, ap, ◌∙◌, arith, inl, inr, subst}
use Rattle.std.proofs.lemmas.Bool.{cases_lt}
use Rattle.std.proofs.lemmas.List.{length-take-le, drop-take, drop_at}
use Rattle.std.proofs.lemmas.Slice.{take-put_mid, take-put_mid_below}
use borrow.Rule.Slice.PartMut.{put_mid}
use Rattle.format_spec.specs.Bytes.{Bytes}
use Rattle.hash_lanes.specs.Starts.{row}

-- a row before the one that is written
row_before : (a k b n : ℕ) (rows block : Bytes) → b + n ≤ a → a ≤ length rows → take n (drop b (put_mid a k rows block)) ≡ take n (drop b rows)
row_before a k b n rows block low fits =
    sym (drop-take b n (put_mid a k rows block)) ∙ ap (drop b) (take-put_mid_below a k rows block (b + n) low fits) ∙ drop-take b n rows

-- the row that is written
row_at : (a k n : ℕ) (rows block : Bytes) → length block ≡ n → a ≤ length rows → take n (drop a (put_mid a k rows block)) ≡ block
row_at a k n rows block len fits =
    sym (drop-take a n (put_mid a k rows block)) ∙ ap (drop a) (take-put_mid a k rows block (a + n) (omega arith) fits)
    ∙ behind (take a rows) block a (length-take-le a rows fits)
  where
    behind : (xs ys : Bytes) (a : ℕ) → length xs ≡ a → drop a (xs ++ ys) ≡ ys
    behind xs ys a e = drop_at xs ys a e

-- what holds of each row so far holds of one more
pub rows_more : (P : ℕ → Bytes → Type 0) (n i k : ℕ) (rows new block : Bytes) → new ≡ put_mid (n * i) k rows block → length block ≡ n → n * i ≤ length rows
    → ((j : ℕ) → j < i → n * j + n ≤ n * i) → P i block → ((j : ℕ) → j < i → P j (row n j rows)) → (j : ℕ) → j < i + 1 → P j (row n j new)
rows_more P n i k rows new block is len fits apart holds before j low = elim (cases_lt j i) [
  | inl lt ↦ subst (P j) (sym (ap (λ s. row n j s) is ∙ row_before (n * i) k (n * j) n rows block (apart j lt) fits)) (before j lt)
  | inr ge ↦
      let same : i ≡ j = omega arith in
      subst (λ m. P m (row n m new)) same (subst (P i) (sym (ap (λ s. row n i s) is ∙ row_at (n * i) k n rows block len fits)) holds)
]
