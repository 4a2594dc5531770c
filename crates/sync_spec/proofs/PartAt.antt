-- One part of a string that is cut into parts.
use Rattle.std.proofs.Common.{◌≡◌, ℕ, zero, suc, ◌+◌, ◌*◌, ◌<◌, ◌≤◌, length, map, take, drop, slice_get, Some, None, ap, ◌∙◌, arith, inl, inr}
use Rattle.std.specs.List.{range_with_len}
use Rattle.std.proofs.lemmas.Bool.{cases_lt}
use Rattle.std.proofs.lemmas.Grind.{div_ceil_times}
use Rattle.std.proofs.lemmas.Option.{slice_get_past}
use Rattle.format_spec.specs.Bytes.{Bytes, parts, part_count}
use Rattle.format_spec.proofs.Parts.{parts_length}

pub numbered : {X : Type 0} (f : ℕ → X) (a n i : ℕ) → i < n → slice_get (map f (range_with_len a n)) i ≡ Some (f (a + i))
numbered f a zero i lt = absurd (omega (arith, lt))
numbered f a (suc n) zero lt = let e : a ≡ a + 0 = omega arith in ap (λ (k : ℕ). Some (f k)) e
numbered f a (suc n) (suc i) lt = let e : a + 1 + i ≡ a + suc i = omega arith in numbered f (a + 1) n i (omega (arith, lt)) ∙ ap (λ (k : ℕ). Some (f k)) e

times_most : (a b n : ℕ) → a ≤ b → a * n ≤ b * n
times_most zero b n le = let none : 0 * n ≡ 0 = omega arith in omega (arith, none)
times_most (suc a) zero n le = absurd (omega (arith, le))
times_most (suc a) (suc b) n le =
    let front : suc a * n ≡ n + a * n = omega arith in
    let behind : suc b * n ≡ n + b * n = omega arith in
    omega (arith, front, behind, times_most a b n (omega (arith, le)))

fewer : (i count n : ℕ) → i * n < count * n → i < count
fewer i count n below = elim (cases_lt i count) [
  | inl less ↦ less
  | inr more ↦ absurd (omega (arith, below, times_most count i n more))
]

-- a part that begins within the string is there,
pub part_there : (n : ℕ) (s : Bytes) (i : ℕ) → 0 < n → i * n < length s → slice_get (parts n s) i ≡ Some (take n (drop (i * n) s))
unfolding parts
part_there n s i some within =
    let times = (div_ceil_times (length s) n some).0 in
    numbered (λ k. take n (drop (k * n) s)) 0 (part_count n (length s)) i (fewer i (part_count n (length s)) n (omega (arith, within, times)))
    ∙ (let at : 0 + i ≡ i = omega arith in ap (λ (k : ℕ). Some (take n (drop (k * n) s))) at)

-- and one that would begin behind it isn't.
pub part_past : (n : ℕ) (s : Bytes) (i : ℕ) → 0 < n → length s ≤ i * n → slice_get (parts n s) i ≡ None
part_past n s i some past =
    let times = (div_ceil_times (length s) n some).1 in
    let few : part_count n (length s) < i + 1 = fewer (part_count n (length s)) (i + 1) n (let more : (i + 1) * n ≡ i * n + n = omega arith in omega (arith, times, past, more)) in
    slice_get_past (parts n s) i (omega (arith, parts_length n s, few))
