-- The chunk of a file that stands at an offset, by division.
use Rattle.std.proofs.Common.{◌≡◌, ℕ, zero, suc, ◌+◌, ◌-◌, ◌/◌, ◌%◌, ◌<◌, ◌≤◌, ◌==◌, ◌&&◌, ◌||◌, min, Bool, true, false, map, inl, inr, refl, sym, ap, ◌∙◌, eq-eqb, ne_eqb, arith}
use Rattle.std.specs.List.{range_with_len, list_any}
use Rattle.format_spec.specs.Bytes.{part_count}
use Rattle.format_spec.specs.declared.limits.TheConstants.{CHUNK_SIZE}
use Rattle.format_spec.proofs.Lists.{cases_eqb}
use Rattle.state_spec.specs.Manifest.{chunk_size_at, chunk_offset}
use Rattle.state_spec.specs.ManifestText.{Slot, slots_of}
use Rattle.state_spec.proofs.ManifestSlots.{slot_in}

module _ (total size offset : ℕ) where
  abbrev hit : Slot → Bool
  hit s = s.size == size && s.offset == offset

  -- among the slots from a on, where none has this offset
  none_at : (k a : ℕ) → ((i : ℕ) → a ≤ i → i < a + k → (chunk_offset i ≡ offset) → ⊥) → list_any hit (map (slot_in 0 total) (range_with_len a k)) ≡ false
  none_at zero a other = refl
  none_at (suc k) a other =
      let here : (chunk_size_at total a == size && chunk_offset a == offset) ≡ false = and_no (chunk_size_at total a == size) (chunk_offset a == offset) (ne_eqb (chunk_offset a) offset (other a (omega arith) (omega arith))) in
      ap (λ (b : Bool). b || list_any hit (map (slot_in 0 total) (range_with_len (a + 1) k))) here
      ∙ none_at k (a + 1) (λ i low high. other i (omega (arith, low)) (omega (arith, high)))
    where
      and_no : (x y : Bool) → y ≡ false → (x && y) ≡ false
      and_no true y e = e
      and_no false y e = refl

  -- where slot i has it
  one_at : (i k a : ℕ) → a ≤ i → i < a + k → chunk_offset i ≡ offset → list_any hit (map (slot_in 0 total) (range_with_len a k)) ≡ (chunk_size_at total i == size)
  one_at i zero a low high at = absurd (omega (arith, low, high))
  one_at i (suc k) a low high at = elim (cases_eqb a i) [
    | inl same ↦
        let here : (chunk_size_at total a == size && chunk_offset a == offset) ≡ (chunk_size_at total i == size) =
        ap (λ (n : ℕ). chunk_size_at total n == size && chunk_offset n == offset) same.0 ∙ ap (λ (b : Bool). chunk_size_at total i == size && b) (eq-eqb (chunk_offset i) offset at) ∙ and_true (chunk_size_at total i == size) in
        let rest = none_at k (a + 1) (λ j from below e. let n = same.0 in omega (arith, from, e, at, n)) in
        ap (λ (b : Bool). (chunk_size_at total a == size && chunk_offset a == offset) || b) rest ∙ or_false (chunk_size_at total a == size && chunk_offset a == offset) ∙ here
    | inr other ↦
        let apart = other.0 in
        let miss : (chunk_size_at total a == size && chunk_offset a == offset) ≡ false =
        and_no (chunk_size_at total a == size) (chunk_offset a == offset) (ne_eqb (chunk_offset a) offset (λ e. apart (omega (arith, e, at)))) in
        ap (λ (b : Bool). b || list_any hit (map (slot_in 0 total) (range_with_len (a + 1) k))) miss
        ∙ one_at i k (a + 1) (omega (arith, low, apart)) (omega (arith, high)) at
  ]
    where
      and_no : (x y : Bool) → y ≡ false → (x && y) ≡ false
      and_no true y e = e
      and_no false y e = refl

      and_true : (x : Bool) → (x && true) ≡ x
      and_true true = refl
      and_true false = refl

      or_false : (x : Bool) → (x || false) ≡ x
      or_false true = refl
      or_false false = refl

  abbrev pub has_slot : Bool
  has_slot = list_any hit (slots_of 0 total)

  -- an offset that isn't a chunk's
  pub no_slot : (offset % 1048576 ≡ 0 → offset < total → ⊥) → has_slot ≡ false
  no_slot bad = none_at (part_count CHUNK_SIZE total) 0 (λ i low high e. bad (omega (arith, e)) (omega (arith, e, high)))

  -- that of a chunk
  pub slot_there : offset % 1048576 ≡ 0 → offset < total → has_slot ≡ (size == min (total - offset) 1048576)
  slot_there even lt =
      let i : ℕ = offset / 1048576 in
      let at : chunk_offset i ≡ offset = omega (arith, even) in
      one_at i (part_count CHUNK_SIZE total) 0 (omega arith) (omega (arith, even, lt)) at
      ∙ ap (λ (o : ℕ). min CHUNK_SIZE (total - o) == size) at ∙ swapped (min CHUNK_SIZE (total - offset)) (min (total - offset) 1048576) (omega arith)
    where
      swapped : (x y : ℕ) → x ≡ y → (x == size) ≡ (size == y)
      swapped x y e = elim (cases_eqb x size) [
        | inl same ↦ same.1 ∙ sym (eq-eqb size y (sym same.0 ∙ e))
        | inr other ↦ other.1 ∙ sym (ne_eqb size y (λ f. let apart = other.0 in apart (e ∙ sym f)))
      ]
