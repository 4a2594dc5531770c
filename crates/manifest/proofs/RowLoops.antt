-- Rows read one by one, and the order of their files.
use Rattle.std.proofs.Common.{◌≡◌, ℕ, zero, suc, ◌+◌, ◌-◌, ◌<◌, ◌≤◌, List, [], ◌∷◌, ◌++◌, length, map, Option, Some, None, Ok, sym, ap, subst, true, ◌∙◌, arith}
use Rattle.std.specs.List.{last_or, range_with_len}
use Rattle.std.proofs.lemmas.Bool.{leb-true}
use Rattle.format_spec.specs.Bytes.{part_count}
use Rattle.format_spec.specs.Fields.{Reading, Cursor, each}
use Rattle.format_spec.specs.declared.limits.TheConstants.{CHUNK_SIZE}
use Rattle.format_spec.proofs.Each.{each_more, each_ends}
use Rattle.state_spec.specs.Manifest.{FileRow, ChunkRow}
use Rattle.state_spec.specs.ManifestText.{Slot, slots, slot_of, is_not_below}
use Rattle.state_spec.proofs.ManifestSlots.{slot_in}
use Rattle.byte_codec.specs.declared.error.FieldError.{FieldError}
use Rattle.byte_codec.specs.Gives.{Fails}
use Rattle.byte_codec.proofs.Stops.{stops}
use Rattle.manifest.specs.Reading.{InOrder}

-- ---- the loop

module _ {X : Type 0} (next : List X → Reading X) (count i : ℕ) (rows : List X) (start now : Cursor) (so_far : each next (count - i) rows now ≡ each next count [] start) where
  pub row_stops : (e : FieldError) → i < count → Fails e (next rows now) → Fails e (each next count [] start)
  row_stops e lt failed = stops e next count i rows now (each next count [] start) lt failed so_far

  pub row_more : (row : X) (end : Cursor) (new : List X) → i < count → next rows now ≡ Ok (row, end) → new ≡ rows ++ row ∷ [] → each next (count - (i + 1)) new end ≡ each next count [] start
  row_more row end new lt read is = ap (λ (xs : List X). each next (count - (i + 1)) xs end) is ∙ sym (each_more next count i rows now row end lt read) ∙ so_far

  pub rows_end : count ≤ i → each next count [] start ≡ Ok (rows, now)
  rows_end le = sym so_far ∙ each_ends next count i rows now le

-- ---- the order of files

pub in_order_from : (low next end : ℕ) (rows : List ChunkRow) → low ≤ next → InOrder next end rows → InOrder low end rows
in_order_from low next end [] le h = tt
in_order_from low next end (r ∷ rows) le h = let from : next ≤ r.file = h.0 in (omega (arith, le, from), h.1, h.2)

-- rows of files from another number on stand behind
pub in_order_join : (low mid end : ℕ) (xs ys : List ChunkRow) → low ≤ mid → mid ≤ end → InOrder low mid xs → InOrder mid end ys → InOrder low end (xs ++ ys)
in_order_join low mid end [] ys le fits h k = in_order_from low mid end ys le k
in_order_join low mid end (x ∷ xs) ys le fits h k =
    let under : x.file < mid = h.1 in
    (h.0, omega (arith, under, fits), in_order_join x.file mid end xs ys (omega (arith, under)) fits h.2 k)

abbrev file_of : Option ChunkRow → ℕ
file_of None = 0
file_of (Some r) = r.file

behind : (last : Option ChunkRow) (file : ℕ) → is_not_below last file ≡ true → file_of last ≤ file
behind None file h = omega arith
behind (Some r) file h = leb-true r.file file h

push_from : (end : ℕ) (rows : List ChunkRow) (last : Option ChunkRow) (row : ChunkRow) → InOrder (file_of last) end rows → is_not_below (last_or last rows) row.file ≡ true → row.file < end
    → InOrder (file_of last) end (rows ++ row ∷ [])
push_from end [] last row h next inside = (behind last row.file next, inside, tt)
push_from end (r ∷ rows) last row h next inside = (h.0, h.1, push_from end rows (Some r) row h.2 next inside)

-- one row more
pub in_order_push : (end : ℕ) (rows new : List ChunkRow) (row : ChunkRow) → new ≡ rows ++ row ∷ [] → InOrder 0 end rows → is_not_below (last_or None rows) row.file ≡ true → row.file < end → InOrder 0 end new
in_order_push end rows new row is h next inside = subst (InOrder 0 end) (sym is) (push_from end rows None row h next inside)

-- ---- slots in order

abbrev Ascend : ℕ → ℕ → List Slot → Type 0
Ascend low end [] = Unit {0}
Ascend low end (s ∷ ss) = (low ≤ s.file) × (s.file < end) × Ascend s.file end ss

ascend_from : (low next end : ℕ) (ss : List Slot) → low ≤ next → Ascend next end ss → Ascend low end ss
ascend_from low next end [] le h = tt
ascend_from low next end (s ∷ ss) le h = let from : next ≤ s.file = h.0 in (omega (arith, le, from), h.1, h.2)

range_ascends : (n size k a end : ℕ) (rest : List Slot) → n < end → Ascend n end rest → Ascend n end (map (slot_in n size) (range_with_len a k) ++ rest)
range_ascends n size zero a end rest lt h = h
range_ascends n size (suc k) a end rest lt h = (omega arith, lt, range_ascends n size k (a + 1) end rest lt h)

slots_ascend : (fs : List FileRow) (n end : ℕ) → n + length fs ≤ end → Ascend n end (slots n fs)
slots_ascend [] n end le = tt
slots_ascend (f ∷ fs) n end le =
    range_ascends n f.size (part_count CHUNK_SIZE f.size) 0 end (slots (suc n) fs) (omega (arith, le))
    (ascend_from n (suc n) end (slots (suc n) fs) (omega arith) (slots_ascend fs (suc n) end (omega (arith, le))))

by_slots : (low end : ℕ) (rows : List ChunkRow) (ss : List Slot) → map slot_of rows ≡ ss → Ascend low end ss → InOrder low end rows
by_slots low end [] ss is h = tt
by_slots low end (r ∷ rows) [] is h = absurd cc
by_slots low end (r ∷ rows) (s ∷ ss) is h =
    let head : slot_of r ≡ s = cc in
    let tail : map slot_of rows ≡ ss = cc in
    let file : r.file ≡ s.file = ap (λ (x : Slot). x.file) head in
    let from : low ≤ s.file = h.0 in
    let under : s.file < end = h.1 in
    (omega (arith, file, from), omega (arith, file, under), in_order_from r.file s.file end rows (omega (arith, file)) (by_slots s.file end rows ss tail h.2))

-- the rows of all slots
pub slots_in_order : (fs : List FileRow) (n end : ℕ) (rows : List ChunkRow) → n + length fs ≤ end → map slot_of rows ≡ slots n fs → InOrder n end rows
slots_in_order fs n end rows le is = by_slots n end rows (slots n fs) is (slots_ascend fs n end le)
