-- The slots of chunks, one after another.
use Rattle.std.proofs.Common.{◌≡◌, ℕ, ◌+◌, ◌-◌, ◌*◌, min, List, [], ◌∷◌, ◌++◌, map, sym, ap, ◌∙◌, append_assoc, arith}
use Rattle.std.specs.List.{range_with_len}
use Rattle.std.proofs.lemmas.List.{map_push}
use Rattle.state_spec.specs.Manifest.{chunk_size_at, chunk_offset}
use Rattle.state_spec.specs.ManifestText.{Slot}
use Rattle.hash_domain.proofs.Counting.{range_push}

abbrev pub slot_at : ℕ → ℕ → ℕ → Slot
slot_at file size i = record { file = file; size = chunk_size_at size i; offset = chunk_offset i }

-- one slot more of a file
pub slots_more : (file size i least : ℕ) (front before new : List Slot) → least ≡ min (size - i * 1048576) 1048576
    → new ≡ before ++ record { file = file; size = least; offset = i * 1048576 } ∷ []
    → before ≡ front ++ map (slot_at file size) (range_with_len 0 i) → new ≡ front ++ map (slot_at file size) (range_with_len 0 (i + 1))
slots_more file size i least front before new is pushed so_far =
    let swapped : least ≡ chunk_size_at size i = is ∙ omega arith in
    let place : 0 + i ≡ i = omega arith in
    pushed
    ∙ ap (λ (ss : List Slot). ss ++ record { file = file; size = least; offset = i * 1048576 } ∷ []) so_far
    ∙ ap (λ (n : ℕ). (front ++ map (slot_at file size) (range_with_len 0 i)) ++ record { file = file; size = n; offset = i * 1048576 } ∷ []) swapped
    ∙ append_assoc front (map (slot_at file size) (range_with_len 0 i)) (slot_at file size i ∷ [])
    ∙ ap (λ (ss : List Slot). front ++ ss)
    (sym (map_push (slot_at file size) (range_with_len 0 i) i)
    ∙ ap (λ (n : ℕ). map (slot_at file size) (range_with_len 0 i ++ n ∷ [])) (sym place)
    ∙ sym (ap (map (slot_at file size)) (range_push i 0)))
