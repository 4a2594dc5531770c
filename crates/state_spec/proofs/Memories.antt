-- What a write and growth make of a memory: lengths, pages, bytes, rounds.
use Rattle.std.proofs.Common.{◌≡◌, ◌⊎◌, ℕ, zero, suc, ◌+◌, ◌-◌, ◌*◌, ◌/◌, ◌%◌, ◌<◌, ◌≤◌, max, List, [], ◌∷◌, ◌++◌, length, map, take, drop, get_or, Some, cond, refl, sym, ap, ◌∙◌, subst, inl, inr, arith, length-append, nat_eq, take-add}
use Rattle.std.specs.List.{AllByRecursion, flat_map, list_any, range_with_len}
use Rattle.std.specs.FinMap.{find, is_sorted}
use Rattle.std.specs.Ordering.{nat_cmp}
use Rattle.std.proofs.lemmas.Bool.{cases_lt}
use Rattle.std.proofs.lemmas.List.{length-replicate, drop-drop, drop_all, drop-take, take-take, take_all, get_or_past}
use Rattle.std.proofs.lemmas.Grind.{div_ceil_times}
use Rattle.format_spec.specs.Bytes.{Bytes, IsBytes, page_at}
use Rattle.format_spec.specs.declared.limits.TheConstants.{PAGE_SIZE}
use Rattle.format_spec.proofs.ByteStrings.{by_test, one_byte, join_bytes, take_bytes, drop_bytes}
use Rattle.format_spec.proofs.Parts.{parts_at}
use Rattle.state_spec.specs.State.{Memory, IsMemory, HasPageRounds, pages_of}
use Rattle.state_spec.specs.Memory.{read, grow, write, zeros, with_zeros_up_to, with_bytes_at, pages_for, pages_between, stamped_rounds}
use Rattle.state_spec.proofs.Edits.{length_extended, extended_enough, extended_old, extended_new, slice_length, slice_old, slice_new, slice_before, slice_behind, slice_met, length_overwritten, byte_before, byte_written, byte_behind}
use Rattle.state_spec.proofs.Rounds.{Rounds, stamped_find, stamped_sorted, stamped_within, pages_within}

further : (a n : ℕ) (rs : Rounds) → a ≤ n → AllByRecursion (λ r. r.0 < a) rs → AllByRecursion (λ r. r.0 < n) rs
further a n [] le h = tt
further a n (r ∷ rs) le h = (omega (arith, h.0, le), further a n rs le h.1)

pub zeros_bytes : (n : ℕ) → IsBytes (zeros n)
zeros_bytes zero = by_test [] refl
zeros_bytes (suc n) = one_byte 0 (zeros n) (omega arith) (zeros_bytes n)

pub extended_bytes : (s : Bytes) (n : ℕ) → IsBytes s → IsBytes (with_zeros_up_to s n)
extended_bytes s n h = join_bytes s (zeros (n - length s)) h (zeros_bytes (n - length s))

pub overwritten_bytes : (s : Bytes) (at : ℕ) (w : Bytes) → IsBytes s → IsBytes w → IsBytes (with_bytes_at s at w)
overwritten_bytes s at w h p = join_bytes (take at s ++ w) (drop (at + length w) s) (join_bytes (take at s) w (take_bytes at s h) p) (drop_bytes (at + length w) s h)

-- ---- pages

-- whole pages are their pages in a row
pub pages_joined : (s : Bytes) → length s % PAGE_SIZE ≡ 0 → flat_map (page_at s) (range_with_len 0 (length s / PAGE_SIZE)) ≡ s
pages_joined s even =
    let n : ℕ = length s / PAGE_SIZE in
    mapped (page_at s) (range_with_len 0 n) ∙ parts_at PAGE_SIZE s n 0 ∙ take_all (n * PAGE_SIZE) s (omega (arith, even))
  where
    mapped : (f : ℕ → Bytes) (xs : List ℕ) → flat_map f xs ≡ flat_map (λ (x : Bytes). x) (map f xs)
    mapped f [] = refl
    mapped f (x ∷ xs) = ap (λ (y : Bytes). f x ++ y) (mapped f xs)

-- a page of whole pages that are extended by zeros: the page extended by zeros
pub padded : (s : Bytes) (n q : ℕ) → length s % PAGE_SIZE ≡ 0 → q * PAGE_SIZE + PAGE_SIZE ≤ length (with_zeros_up_to s n) → page_at (with_zeros_up_to s n) q ≡ with_zeros_up_to (page_at s q) PAGE_SIZE
padded s n q even h = by (cases_lt (q * PAGE_SIZE) (length s))
  where
    by : (q * PAGE_SIZE < length s) ⊎ (length s ≤ q * PAGE_SIZE) → page_at (with_zeros_up_to s n) q ≡ with_zeros_up_to (page_at s q) PAGE_SIZE
    by (inl old) =
        let whole : q * PAGE_SIZE + PAGE_SIZE ≤ length s = omega (arith, even, old) in
        slice_old s n (q * PAGE_SIZE) PAGE_SIZE whole ∙ sym (extended_enough (page_at s q) PAGE_SIZE (omega (arith, slice_length s (q * PAGE_SIZE) PAGE_SIZE whole)))
    by (inr new) =
        let none : page_at s q ≡ [] = ap (take PAGE_SIZE) (drop_all (q * PAGE_SIZE) s new) in
        slice_new s n (q * PAGE_SIZE) PAGE_SIZE new (omega (arith, h, new, length_extended s n)) ∙ sym (ap (λ (x : Bytes). with_zeros_up_to x PAGE_SIZE) none)

-- what is read, in two parts, and within one page
pub read_more : (m : Memory) (at a b : ℕ) → read m at (a + b) ≡ read m at a ++ read m (at + a) b
read_more m at a b = take-add a b (drop at m.bytes) ∙ ap (λ (s : Bytes). take a (drop at m.bytes) ++ take b s) (drop-drop a at m.bytes)

pub read_in_page : (m : Memory) (q off n : ℕ) → off + n ≤ PAGE_SIZE → read m (q * PAGE_SIZE + off) n ≡ take n (drop off (page_at m.bytes q))
read_in_page m q off n h =
    let s : Bytes = drop (q * PAGE_SIZE) m.bytes in
    let rest : off + (PAGE_SIZE - off) ≡ PAGE_SIZE = omega (arith, h) in
    let part : drop off (page_at m.bytes q) ≡ take (PAGE_SIZE - off) (drop off s) = ap (λ (k : ℕ). drop off (take k s)) (sym rest) ∙ drop-take off (PAGE_SIZE - off) s in
    ap (take n) (sym (drop-drop off (q * PAGE_SIZE) m.bytes)) ∙ sym (ap (take n) part ∙ take-take n (PAGE_SIZE - off) (drop off s) (omega (arith, h)))

-- ---- a write

-- the length that a write extends a memory to, if it is shorter
abbrev pub end_of : ℕ → Bytes → ℕ
end_of at w = pages_for (at + length w) * PAGE_SIZE

pub write_none : (round : ℕ) (m : Memory) (at : ℕ) → write round m at [] ≡ m
unfolding write
write_none round m at = refl

pub write_bytes : (round : ℕ) (m : Memory) (at : ℕ) (w : Bytes) → 0 < length w → (write round m at w).bytes ≡ with_bytes_at (with_zeros_up_to m.bytes (end_of at w)) at w
unfolding write
write_bytes round m at [] some = absurd (omega (arith, some))
write_bytes round m at (b ∷ w) some = refl

pub write_rounds : (round : ℕ) (m : Memory) (at : ℕ) (w : Bytes) → 0 < length w → (write round m at w).rounds ≡ stamped_rounds round (pages_between at (length w)) m.rounds
unfolding write
write_rounds round m at [] some = absurd (omega (arith, some))
write_rounds round m at (b ∷ w) some = refl

module _ (round : ℕ) (m : Memory) (at : ℕ) (w : Bytes) (some : 0 < length w) where
  ends : (at + length w ≤ end_of at w) × (end_of at w < at + length w + 4096)
  ends = div_ceil_times (at + length w) 4096 (omega arith)

  fits : at + length w ≤ length (with_zeros_up_to m.bytes (end_of at w))
  fits = omega (arith, ends, length_extended m.bytes (end_of at w))

  pub write_length : length (write round m at w).bytes ≡ max (length m.bytes) (end_of at w)
  write_length = ap (λ (s : Bytes). length s) (write_bytes round m at w some) ∙ length_overwritten (with_zeros_up_to m.bytes (end_of at w)) at w fits ∙ length_extended m.bytes (end_of at w)

  pub write_pages : pages_of (write round m at w) ≡ max (pages_of m) (pages_for (at + length w))
  write_pages = omega (arith, write_length)

  -- a byte of the write, and any other, which is 0 past the end
  pub byte_of_write : (k d : ℕ) → at ≤ k → k < at + length w → get_or (write round m at w).bytes k d ≡ get_or w (k - at) d
  byte_of_write k d low high = ap (λ (s : Bytes). get_or s k d) (write_bytes round m at w some) ∙ byte_written (with_zeros_up_to m.bytes (end_of at w)) at w fits k d low high

  old_byte : (k : ℕ) → get_or (with_zeros_up_to m.bytes (end_of at w)) k 0 ≡ get_or m.bytes k 0
  old_byte k = elim (cases_lt k (length m.bytes)) [
    | inl old ↦ extended_old m.bytes (end_of at w) k 0 old
    | inr new ↦ elim (cases_lt k (end_of at w)) [
      | inl before ↦ extended_new m.bytes (end_of at w) k 0 new before ∙ sym (get_or_past m.bytes k 0 new)
      | inr past ↦ get_or_past (with_zeros_up_to m.bytes (end_of at w)) k 0 (omega (arith, new, past, length_extended m.bytes (end_of at w))) ∙ sym (get_or_past m.bytes k 0 new)
    ]
  ]

  pub byte_beside_write : (k : ℕ) → (k < at) ⊎ (at + length w ≤ k) → get_or (write round m at w).bytes k 0 ≡ get_or m.bytes k 0
  byte_beside_write k (inl before) = ap (λ (s : Bytes). get_or s k 0) (write_bytes round m at w some) ∙ byte_before (with_zeros_up_to m.bytes (end_of at w)) at w fits k 0 before ∙ old_byte k
  byte_beside_write k (inr behind) = ap (λ (s : Bytes). get_or s k 0) (write_bytes round m at w some) ∙ byte_behind (with_zeros_up_to m.bytes (end_of at w)) at w fits k 0 behind ∙ old_byte k

  inside : (q : ℕ) → q < pages_of (write round m at w) → q * PAGE_SIZE + PAGE_SIZE ≤ length (with_zeros_up_to m.bytes (end_of at w))
  inside q there = omega (arith, there, write_length, length_extended m.bytes (end_of at w))

  -- the round of a page
  pub round_of_page : (q : ℕ) → find nat_cmp q (write round m at w).rounds ≡ cond (list_any (nat_eq q) (pages_between at (length w))) (Some round) (find nat_cmp q m.rounds)
  round_of_page q = ap (find nat_cmp q) (write_rounds round m at w some) ∙ stamped_find round (pages_between at (length w)) m.rounds q

  some_good : IsMemory m → IsMemory (write round m at w)
  some_good good = record { whole_pages = let even : length m.bytes % PAGE_SIZE ≡ 0 = good.whole_pages in omega (arith, even, write_length) }

  some_rounds : HasPageRounds m → HasPageRounds (write round m at w)
  some_rounds good = record {
    rounds_ascend = ap (is_sorted nat_cmp) (write_rounds round m at w some) ∙ stamped_sorted round (pages_between at (length w)) m.rounds good.rounds_ascend;
    rounds_within =
        let n : ℕ = pages_of (write round m at w) in
        let all : AllByRecursion (λ r. r.0 < n) (stamped_rounds round (pages_between at (length w)) m.rounds) =
        stamped_within n round (pages_between at (length w)) m.rounds (pages_within at (length w) some n (omega (arith, write_pages))) (further (pages_of m) n m.rounds (omega (arith, write_pages)) good.rounds_within) in
        subst (λ (rs : Rounds). AllByRecursion (λ r. r.0 < n) rs) (sym (write_rounds round m at w some)) all;
  }

  some_bytes : IsBytes m.bytes → IsBytes w → IsBytes (write round m at w).bytes
  some_bytes old new = subst IsBytes (sym (write_bytes round m at w some)) (overwritten_bytes (with_zeros_up_to m.bytes (end_of at w)) at w (extended_bytes m.bytes (end_of at w) old) new)

  -- a page that the write doesn't meet, and one that it meets: the page as it was, with its part of the bytes
  pub page_beside_write : IsMemory m → (q : ℕ) → q < pages_of (write round m at w) → (q * PAGE_SIZE + PAGE_SIZE ≤ at) ⊎ (at + length w ≤ q * PAGE_SIZE)
      → page_at (write round m at w).bytes q ≡ with_zeros_up_to (page_at m.bytes q) PAGE_SIZE
  page_beside_write good q there h = ap (λ (s : Bytes). page_at s q) (write_bytes round m at w some) ∙ by h ∙ padded m.bytes (end_of at w) q good.whole_pages (inside q there)
    where
      by : (q * PAGE_SIZE + PAGE_SIZE ≤ at) ⊎ (at + length w ≤ q * PAGE_SIZE) → page_at (with_bytes_at (with_zeros_up_to m.bytes (end_of at w)) at w) q ≡ page_at (with_zeros_up_to m.bytes (end_of at w)) q
      by (inl before) = slice_before (with_zeros_up_to m.bytes (end_of at w)) at w fits (q * PAGE_SIZE) PAGE_SIZE (inside q there) before
      by (inr behind) = slice_behind (with_zeros_up_to m.bytes (end_of at w)) at w fits (q * PAGE_SIZE) PAGE_SIZE (inside q there) behind

  pub page_of_write : IsMemory m → (q : ℕ) → q < pages_of (write round m at w) → at ≤ q * PAGE_SIZE + PAGE_SIZE
      → page_at (write round m at w).bytes q ≡ with_bytes_at (with_zeros_up_to (page_at m.bytes q) PAGE_SIZE) (at - q * PAGE_SIZE) (take (PAGE_SIZE - (at - q * PAGE_SIZE)) (drop (q * PAGE_SIZE - at) w))
  page_of_write good q there meets =
      ap (λ (s : Bytes). page_at s q) (write_bytes round m at w some)
      ∙ slice_met (with_zeros_up_to m.bytes (end_of at w)) at w fits (q * PAGE_SIZE) PAGE_SIZE (inside q there) meets
      ∙ ap (λ (s : Bytes). with_bytes_at s (at - q * PAGE_SIZE) (take (PAGE_SIZE - (at - q * PAGE_SIZE)) (drop (q * PAGE_SIZE - at) w))) (padded m.bytes (end_of at w) q good.whole_pages (inside q there))

-- ---- growth

pub grow_length : (m : Memory) (n : ℕ) → length (grow m n).bytes ≡ length m.bytes + n * PAGE_SIZE
unfolding grow
grow_length m n = omega (arith, length-append m.bytes (zeros (n * PAGE_SIZE)), length-replicate {A = ℕ} (n * PAGE_SIZE) 0)

pub grow_pages : (m : Memory) (n : ℕ) → pages_of (grow m n) ≡ pages_of m + n
grow_pages m n = omega (arith, grow_length m n)

pub grow_rounds : (m : Memory) (n : ℕ) → (grow m n).rounds ≡ m.rounds
unfolding grow
grow_rounds m n = refl

pub grow_good : (m : Memory) (n : ℕ) → IsMemory m → IsMemory (grow m n)
grow_good m n good = record { whole_pages = let even : length m.bytes % PAGE_SIZE ≡ 0 = good.whole_pages in omega (arith, even, grow_length m n) }

pub grow_keeps_rounds : (m : Memory) (n : ℕ) → HasPageRounds m → HasPageRounds (grow m n)
grow_keeps_rounds m n good = record {
  rounds_ascend = ap (is_sorted nat_cmp) (grow_rounds m n) ∙ good.rounds_ascend;
  rounds_within = subst (λ (rs : Rounds). AllByRecursion (λ r. r.0 < pages_of (grow m n)) rs) (sym (grow_rounds m n)) (further (pages_of m) (pages_of (grow m n)) m.rounds (omega (arith, grow_pages m n)) good.rounds_within);
}

pub grow_bytes : (m : Memory) (n : ℕ) → IsBytes m.bytes → IsBytes (grow m n).bytes
unfolding grow
grow_bytes m n h = join_bytes m.bytes (zeros (n * PAGE_SIZE)) h (zeros_bytes (n * PAGE_SIZE))

-- ---- any write

pub write_good : (round : ℕ) (m : Memory) (at : ℕ) (w : Bytes) → IsMemory m → IsMemory (write round m at w)
write_good round m at [] good = subst IsMemory (sym (write_none round m at)) good
write_good round m at (b ∷ w) good = some_good round m at (b ∷ w) (omega arith) good

pub write_keeps_rounds : (round : ℕ) (m : Memory) (at : ℕ) (w : Bytes) → HasPageRounds m → HasPageRounds (write round m at w)
write_keeps_rounds round m at [] good = subst HasPageRounds (sym (write_none round m at)) good
write_keeps_rounds round m at (b ∷ w) good = some_rounds round m at (b ∷ w) (omega arith) good

pub write_IsBytes : (round : ℕ) (m : Memory) (at : ℕ) (w : Bytes) → IsBytes m.bytes → IsBytes w → IsBytes (write round m at w).bytes
write_IsBytes round m at [] old new = subst (λ (x : Memory). IsBytes x.bytes) (sym (write_none round m at)) old
write_IsBytes round m at (b ∷ w) old new = some_bytes round m at (b ∷ w) (omega arith) old new
