-- The first number of a range that passes a test.
use Rattle.std.proofs.Common.{◌≡◌, ℕ, suc, ◌+◌, ◌-◌, ◌<◌, cond, Bool, true, false, find, Some, sym, ap, ◌∙◌, arith}
use Rattle.std.specs.List.{range_with_len}

-- none of the numbers below i passes
pub record Passed (p : ℕ → Bool) (i n : ℕ) : Type 0 where
  pub is : find p (range_with_len 0 n) ≡ find p (range_with_len i (n - i))

pub passed_more : (p : ℕ → Bool) (i n : ℕ) → i < n → p i ≡ false → Passed p i n → Passed p (i + 1) n
passed_more p i n below e h =
    let k : n - i ≡ suc (n - (i + 1)) = omega (arith, below) in
    record {
      is = h.is ∙ ap (λ m. find p (range_with_len i m)) k ∙ ap (λ b. cond b (Some i) (find p (range_with_len (i + 1) (n - (i + 1))))) e;
    }

pub passed_here : (p : ℕ → Bool) (i n : ℕ) → i < n → p i ≡ true → Passed p i n → Some i ≡ find p (range_with_len 0 n)
passed_here p i n below e h =
    let k : n - i ≡ suc (n - (i + 1)) = omega (arith, below) in
    sym (h.is ∙ ap (λ m. find p (range_with_len i m)) k ∙ ap (λ b. cond b (Some i) (find p (range_with_len (i + 1) (n - (i + 1))))) e)
