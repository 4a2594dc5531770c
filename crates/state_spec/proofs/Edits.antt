-- Strings that are extended by zeros and overwritten from a place on.
use Rattle.std.proofs.Common.{◌≡◌, ◌⊎◌, ℕ, ◌+◌, ◌-◌, ◌<◌, ◌≤◌, min, max, [], ◌++◌, length, take, drop, get_or, refl, sym, ap, ◌∙◌, inl, inr, arith, length-append, length-take, length-drop, append_assoc, append-nil}
use Rattle.std.proofs.lemmas.Bool.{cases_lt}
use Rattle.std.proofs.lemmas.List.{length-replicate, take_at, drop_at, drop-drop, take-append-le, drop-append-le, get_or-take, get_or-drop, get_or_append_left, get_or-append_right, get_or-replicate, same_lists, replicate-append-replicate, take-append-drop, length-take-le}
use Rattle.format_spec.specs.Bytes.{Bytes}
use Rattle.state_spec.specs.Memory.{zeros, with_zeros_up_to, with_bytes_at}

-- ---- extended by zeros

pub length_extended : (s : Bytes) (n : ℕ) → length (with_zeros_up_to s n) ≡ max (length s) n
length_extended s n = omega (arith, length-append s (zeros (n - length s)), length-replicate {A = ℕ} (n - length s) 0)

pub extended_enough : (s : Bytes) (n : ℕ) → n ≤ length s → with_zeros_up_to s n ≡ s
extended_enough s n h = let none : n - length s ≡ 0 = omega arith in ap (λ (k : ℕ). s ++ zeros k) none ∙ append-nil s

pub extended_twice : (s : Bytes) (m n : ℕ) → m ≤ n → with_zeros_up_to (with_zeros_up_to s m) n ≡ with_zeros_up_to s n
extended_twice s m n h =
    let rest : n - length (with_zeros_up_to s m) ≡ n - max (length s) m = ap (λ (k : ℕ). n - k) (length_extended s m) in
    let both : (m - length s) + (n - max (length s) m) ≡ n - length s = omega arith in
    ap (λ (k : ℕ). with_zeros_up_to s m ++ zeros k) rest
    ∙ append_assoc s (zeros (m - length s)) (zeros (n - max (length s) m))
    ∙ ap (λ (x : Bytes). s ++ x) (replicate-append-replicate (m - length s) (n - max (length s) m) 0 ∙ ap zeros both)

-- a byte that was there, and one that is new
pub extended_old : (s : Bytes) (n k d : ℕ) → k < length s → get_or (with_zeros_up_to s n) k d ≡ get_or s k d
extended_old s n k d h = get_or_append_left s (zeros (n - length s)) d k h

pub extended_new : (s : Bytes) (n k d : ℕ) → length s ≤ k → k < n → get_or (with_zeros_up_to s n) k d ≡ 0
extended_new s n k d h lt =
    get_or-append_right s (zeros (n - length s)) (length s) k d refl h ∙ get_or-replicate (n - length s) (k - length s) 0 d (omega (arith, h, lt))

-- ---- overwritten from a place on

pub overwritten_none : (s : Bytes) (at : ℕ) → with_bytes_at s at [] ≡ s
overwritten_none s at =
    let here : at + 0 ≡ at = omega arith in
    ap (λ (k : ℕ). (take at s ++ []) ++ drop k s) here ∙ ap (λ (x : Bytes). x ++ drop at s) (append-nil (take at s)) ∙ take-append-drop at s

module _ (s : Bytes) (at : ℕ) (w : Bytes) (fits : at + length w ≤ length s) where
  front : length (take at s) ≡ at
  front = length-take-le at s (omega (arith, fits))

  both : length (take at s ++ w) ≡ at + length w
  both = length-append (take at s) w ∙ ap (λ (k : ℕ). k + length w) front

  pub length_overwritten : length (with_bytes_at s at w) ≡ length s
  length_overwritten = omega (arith, fits, both, length-append (take at s ++ w) (drop (at + length w) s), length-drop (at + length w) s)

  pub byte_before : (k d : ℕ) → k < at → get_or (with_bytes_at s at w) k d ≡ get_or s k d
  byte_before k d h =
      get_or_append_left (take at s ++ w) (drop (at + length w) s) d k (omega (arith, both, h))
      ∙ get_or_append_left (take at s) w d k (omega (arith, front, h))
      ∙ get_or-take at s k d h

  pub byte_written : (k d : ℕ) → at ≤ k → k < at + length w → get_or (with_bytes_at s at w) k d ≡ get_or w (k - at) d
  byte_written k d low high =
      get_or_append_left (take at s ++ w) (drop (at + length w) s) d k (omega (arith, both, high))
      ∙ get_or-append_right (take at s) w at k d front low

  pub byte_behind : (k d : ℕ) → at + length w ≤ k → get_or (with_bytes_at s at w) k d ≡ get_or s k d
  byte_behind k d h =
      let there : at + length w + (k - (at + length w)) ≡ k = omega (arith, h) in
      get_or-append_right (take at s ++ w) (drop (at + length w) s) (at + length w) k d both h
      ∙ get_or-drop (at + length w) s (k - (at + length w)) d
      ∙ ap (λ (j : ℕ). get_or s j d) there

-- ---- step by step

-- two writes in a row are one
pub overwritten_append : (s : Bytes) (at : ℕ) (v w : Bytes) → at + length v ≤ length s → with_bytes_at (with_bytes_at s at v) (at + length v) w ≡ with_bytes_at s at (v ++ w)
overwritten_append s at v w fits =
    let f : Bytes = take at s ++ v in
    let r : Bytes = drop (at + length v) s in
    let n : ℕ = at + length v in
    let long : length f ≡ n = both s at v fits in
    let end : n + length w ≡ at + length (v ++ w) = omega (arith, length-append v w) in
    let left : take n (f ++ r) ≡ f = take_at f r n long in
    let right : drop (n + length w) (f ++ r) ≡ drop (at + length (v ++ w)) s =
    sym (drop-drop (length w) n (f ++ r)) ∙ ap (drop (length w)) (drop_at f r n long) ∙ drop-drop (length w) n s ∙ ap (λ (k : ℕ). drop k s) end in
    ap (λ (x : Bytes). (x ++ w) ++ drop (n + length w) (f ++ r)) left
    ∙ ap (λ (x : Bytes). (f ++ w) ++ x) right
    ∙ ap (λ (x : Bytes). x ++ drop (at + length (v ++ w)) s) (append_assoc (take at s) v w)

-- zeros may come before the write or after it
pub extended_overwritten : (s : Bytes) (at : ℕ) (w : Bytes) (n : ℕ) → at + length w ≤ length s → with_zeros_up_to (with_bytes_at s at w) n ≡ with_bytes_at (with_zeros_up_to s n) at w
extended_overwritten s at w n fits =
    let z : Bytes = zeros (n - length s) in
    let f : Bytes = take at s ++ w in
    ap (λ (k : ℕ). with_bytes_at s at w ++ zeros (n - k)) (length_overwritten s at w fits)
    ∙ append_assoc f (drop (at + length w) s) z
    ∙ ap (λ (x : Bytes). f ++ x) (sym (drop-append-le (at + length w) s z fits))
    ∙ ap (λ (x : Bytes). (x ++ w) ++ drop (at + length w) (s ++ z)) (sym (take-append-le at s z (omega (arith, fits))))

-- ---- slices: n bytes from b on

pub slice_at : (s : Bytes) (b n k d : ℕ) → k < n → get_or (take n (drop b s)) k d ≡ get_or s (b + k) d
slice_at s b n k d h = get_or-take n (drop b s) k d h ∙ get_or-drop b s k d

pub slice_length : (s : Bytes) (b n : ℕ) → b + n ≤ length s → length (take n (drop b s)) ≡ n
slice_length s b n h = length-take-le n (drop b s) (omega (arith, h, length-drop b s))

-- a slice of what is extended: as it was, or zeros
pub slice_old : (s : Bytes) (m b n : ℕ) → b + n ≤ length s → take n (drop b (with_zeros_up_to s m)) ≡ take n (drop b s)
slice_old s m b n h =
    ap (take n) (drop-append-le b s (zeros (m - length s)) (omega (arith, h)))
    ∙ take-append-le n (drop b s) (zeros (m - length s)) (omega (arith, h, length-drop b s))

pub slice_new : (s : Bytes) (m b n : ℕ) → length s ≤ b → b + n ≤ m → take n (drop b (with_zeros_up_to s m)) ≡ zeros n
slice_new s m b n low high =
    let long : length (take n (drop b (with_zeros_up_to s m))) ≡ n = slice_length (with_zeros_up_to s m) b n (omega (arith, length_extended s m, high)) in
    same_lists (take n (drop b (with_zeros_up_to s m))) (zeros n) (long ∙ sym (length-replicate n 0)) (λ k d h.
    let lt : k < n = omega (arith, h, long) in
    slice_at (with_zeros_up_to s m) b n k d lt ∙ extended_new s m (b + k) d (omega (arith, low)) (omega (arith, lt, high)) ∙ sym (get_or-replicate n k 0 d lt))

module _ (s : Bytes) (at : ℕ) (w : Bytes) (fits : at + length w ≤ length s) (b n : ℕ) (within : b + n ≤ length s) where
  slices : (t : Bytes) → length t ≡ n → ((k d : ℕ) → k < n → get_or (with_bytes_at s at w) (b + k) d ≡ get_or t k d) → take n (drop b (with_bytes_at s at w)) ≡ t
  slices t long each =
      let mine : length (take n (drop b (with_bytes_at s at w))) ≡ n = slice_length (with_bytes_at s at w) b n (omega (arith, within, length_overwritten s at w fits)) in
      same_lists (take n (drop b (with_bytes_at s at w))) t (mine ∙ sym long) (λ k d h.
      let lt : k < n = omega (arith, h, mine) in slice_at (with_bytes_at s at w) b n k d lt ∙ each k d lt)

  -- a slice that the write doesn't meet
  pub slice_before : b + n ≤ at → take n (drop b (with_bytes_at s at w)) ≡ take n (drop b s)
  slice_before h = slices (take n (drop b s)) (slice_length s b n within) (λ k d lt. byte_before s at w fits (b + k) d (omega (arith, h, lt)) ∙ sym (slice_at s b n k d lt))

  pub slice_behind : at + length w ≤ b → take n (drop b (with_bytes_at s at w)) ≡ take n (drop b s)
  slice_behind h = slices (take n (drop b s)) (slice_length s b n within) (λ k d lt. byte_behind s at w fits (b + k) d (omega (arith, h)) ∙ sym (slice_at s b n k d lt))

  -- one that it meets: the slice with its part of the bytes written
  pub slice_met : at ≤ b + n → take n (drop b (with_bytes_at s at w)) ≡ with_bytes_at (take n (drop b s)) (at - b) (take (n - (at - b)) (drop (b - at) w))
  slice_met meets =
      let t : Bytes = take n (drop b s) in
      let v : Bytes = take (n - (at - b)) (drop (b - at) w) in
      let t_long : length t ≡ n = slice_length s b n within in
      let v_long : length v ≡ min (n - (at - b)) (length w - (b - at)) = length-take (n - (at - b)) (drop (b - at) w) ∙ ap (λ (k : ℕ). min (n - (at - b)) k) (length-drop (b - at) w) in
      let v_fits : (at - b) + length v ≤ length t = omega (arith, t_long, v_long, meets) in
      slices (with_bytes_at t (at - b) v) (length_overwritten t (at - b) v v_fits ∙ t_long) (λ k d lt. by k d lt v_long t_long v_fits (cases_lt k (at - b)) (cases_lt k ((at - b) + length v)))
    where
      by : (k d : ℕ) → k < n → length (take (n - (at - b)) (drop (b - at) w)) ≡ min (n - (at - b)) (length w - (b - at)) → length (take n (drop b s)) ≡ n
          → (at - b) + length (take (n - (at - b)) (drop (b - at) w)) ≤ length (take n (drop b s))
          → (k < at - b) ⊎ (at - b ≤ k) → (k < (at - b) + length (take (n - (at - b)) (drop (b - at) w))) ⊎ ((at - b) + length (take (n - (at - b)) (drop (b - at) w)) ≤ k)
          → get_or (with_bytes_at s at w) (b + k) d ≡ get_or (with_bytes_at (take n (drop b s)) (at - b) (take (n - (at - b)) (drop (b - at) w))) k d
      by k d lt v_long t_long v_fits (inl low) q =
          byte_before s at w fits (b + k) d (omega (arith, low))
          ∙ sym (slice_at s b n k d lt)
          ∙ sym (byte_before (take n (drop b s)) (at - b) (take (n - (at - b)) (drop (b - at) w)) v_fits k d low)
      by k d lt v_long t_long v_fits (inr high) (inl inside) =
          let place : (b + k) - at ≡ (b - at) + (k - (at - b)) = omega (arith, high) in
          byte_written s at w fits (b + k) d (omega (arith, high)) (omega (arith, high, inside, v_long))
          ∙ ap (λ (j : ℕ). get_or w j d) place
          ∙ sym (slice_at w (b - at) (n - (at - b)) (k - (at - b)) d (omega (arith, high, lt)))
          ∙ sym (byte_written (take n (drop b s)) (at - b) (take (n - (at - b)) (drop (b - at) w)) v_fits k d high inside)
      by k d lt v_long t_long v_fits (inr high) (inr behind) =
          byte_behind s at w fits (b + k) d (omega (arith, lt, high, behind, v_long))
          ∙ sym (slice_at s b n k d lt)
          ∙ sym (byte_behind (take n (drop b s)) (at - b) (take (n - (at - b)) (drop (b - at) w)) v_fits k d behind)
