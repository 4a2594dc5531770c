use Rattle.std.proofs.Common.{◌≡◌, ℕ, zero, suc, ◌<◌, ◌+◌, ◌-◌, ◌*◌, ◌/◌, ◌%◌, ◌^◌, List, [], ◌∷◌, length, slice_index, bit_or, arith, refl}
use Rattle.std.specs.Simd.Lanes.{zip2}
use Rattle.std.specs.Int.{w32, rotate_right}
use Rattle.hash_lanes.specs.Lanes.{lane, lane_at}

-- what holds of each of the eight lanes
pub below_eight : (P : ℕ → Type 0) → P 0 → P 1 → P 2 → P 3 → P 4 → P 5 → P 6 → P 7 → (j : ℕ) → j < 8 → P j
below_eight P p0 p1 p2 p3 p4 p5 p6 p7 zero h = p0
below_eight P p0 p1 p2 p3 p4 p5 p6 p7 (suc zero) h = p1
below_eight P p0 p1 p2 p3 p4 p5 p6 p7 (suc (suc zero)) h = p2
below_eight P p0 p1 p2 p3 p4 p5 p6 p7 (suc (suc (suc zero))) h = p3
below_eight P p0 p1 p2 p3 p4 p5 p6 p7 (suc (suc (suc (suc zero)))) h = p4
below_eight P p0 p1 p2 p3 p4 p5 p6 p7 (suc (suc (suc (suc (suc zero))))) h = p5
below_eight P p0 p1 p2 p3 p4 p5 p6 p7 (suc (suc (suc (suc (suc (suc zero)))))) h = p6
below_eight P p0 p1 p2 p3 p4 p5 p6 p7 (suc (suc (suc (suc (suc (suc (suc zero))))))) h = p7
below_eight P p0 p1 p2 p3 p4 p5 p6 p7 (suc (suc (suc (suc (suc (suc (suc (suc n)))))))) h = absurd (omega arith)

-- what holds of each list of eight elements
pub eight_lanes : (P : List ℕ → Type 0) → ((a b c d e f g i : ℕ) → P (a ∷ b ∷ c ∷ d ∷ e ∷ f ∷ g ∷ i ∷ [])) → (xs : List ℕ) → length xs ≡ 8 → P xs
eight_lanes P p (a ∷ b ∷ c ∷ d ∷ e ∷ f ∷ g ∷ i ∷ []) h = p a b c d e f g i
eight_lanes P p [] h = absurd (omega arith)
eight_lanes P p (a ∷ []) h = absurd (omega arith)
eight_lanes P p (a ∷ b ∷ []) h = absurd (omega arith)
eight_lanes P p (a ∷ b ∷ c ∷ []) h = absurd (omega arith)
eight_lanes P p (a ∷ b ∷ c ∷ d ∷ []) h = absurd (omega arith)
eight_lanes P p (a ∷ b ∷ c ∷ d ∷ e ∷ []) h = absurd (omega arith)
eight_lanes P p (a ∷ b ∷ c ∷ d ∷ e ∷ f ∷ []) h = absurd (omega arith)
eight_lanes P p (a ∷ b ∷ c ∷ d ∷ e ∷ f ∷ g ∷ []) h = absurd (omega arith)
eight_lanes P p (a ∷ b ∷ c ∷ d ∷ e ∷ f ∷ g ∷ i ∷ o ∷ xs) h = absurd (omega arith)

abbrev pub Shifts : ℕ → List ℕ → Type 0
Shifts k a = (j : ℕ) → j < 8 → slice_index (zip2 (λ x n. x / 2 ^ n) a (k ∷ k ∷ k ∷ k ∷ k ∷ k ∷ k ∷ k ∷ [])) j ≡ slice_index a j / 2 ^ k

-- one shift is a shift of each lane
pub shifts : (k : ℕ) → (a : List ℕ) → length a ≡ 8 → Shifts k a
shifts k = eight_lanes (Shifts k) (λ a0 a1 a2 a3 a4 a5 a6 a7. below_eight _ refl refl refl refl refl refl refl refl)

abbrev pub Rotates : ℕ → List ℕ → Type 0
Rotates k a = (j : ℕ) → j < 8
    → slice_index (zip2 bit_or
    (zip2 (λ x n. x / 2 ^ n) a (k ∷ k ∷ k ∷ k ∷ k ∷ k ∷ k ∷ k ∷ []))
    (zip2 (λ x n. x * 2 ^ n % 2 ^ 32) a ((32 - k) ∷ (32 - k) ∷ (32 - k) ∷ (32 - k) ∷ (32 - k) ∷ (32 - k) ∷ (32 - k) ∷ (32 - k) ∷ []))) j
    ≡ rotate_right w32 (slice_index a j) k

-- two shifts of each lane and an or are a rotation
pub shifts_rotate : (k : ℕ) → 0 < k → k < 32 → (a : List ℕ) → length a ≡ 8 → Rotates k a
shifts_rotate k low high =
    let right : k % 32 ≡ k = omega arith in
    let left : (32 - k) % 32 ≡ 32 - k = omega arith in
    eight_lanes (Rotates k) (λ a0 a1 a2 a3 a4 a5 a6 a7. below_eight _ (rw (right, left) refl) (rw (right, left) refl) (rw (right, left) refl) (rw (right, left) refl) (rw (right, left) refl) (rw (right, left) refl) (rw (right, left) refl) (rw (right, left) refl))

-- word i of message j
pub lane_word : (x : List (List ℕ)) (j i : ℕ) → i < 8 → slice_index (lane j x) i ≡ lane_at x i j
lane_word x j = below_eight _ refl refl refl refl refl refl refl refl

-- where rows of 64 and of 128 bytes begin
pub first_place : (j : ℕ) → j < 8 → slice_index (0 ∷ 64 ∷ 128 ∷ 192 ∷ 256 ∷ 320 ∷ 384 ∷ 448 ∷ []) j + 0 ≡ 64 * j
first_place = below_eight _ refl refl refl refl refl refl refl refl

pub last_place : (j : ℕ) → j < 8 → slice_index (0 ∷ 128 ∷ 256 ∷ 384 ∷ 512 ∷ 640 ∷ 768 ∷ 896 ∷ []) j + 0 ≡ 128 * j
last_place = below_eight _ refl refl refl refl refl refl refl refl
