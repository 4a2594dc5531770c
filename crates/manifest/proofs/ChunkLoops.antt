-- The chunk rows of a text, read one by one in their slots.
use Rattle.std.proofs.Common.{◌≡◌, ℕ, ◌+◌, ◌-◌, ◌<◌, ◌≤◌, List, [], ◌∷◌, ◌++◌, length, map, take, get_or, Option, Some, Result, Ok, refl, sym, ap, subst, ◌∙◌, arith}
use Rattle.std.specs.Prelude.{slice_get}
use Rattle.std.proofs.lemmas.Option.{slice_get-get_or}
use Rattle.std.proofs.lemmas.List.{length-map, length-take, map_push, take_more}
use Rattle.format_spec.specs.Fields.{Cursor, each}
use Rattle.format_spec.proofs.Each.{each_more, each_ends}
use Rattle.state_spec.specs.Manifest.{ChunkRow}
use Rattle.state_spec.specs.ManifestText.{Slot, slot_of, slot_after}
use Rattle.byte_codec.specs.declared.error.FieldError.{FieldError}
use Rattle.byte_codec.specs.Gives.{Fails}
use Rattle.manifest.specs.Reading.{chunk_in}
use Rattle.byte_codec.proofs.Stops.{stops}

by_slot : (wanted : List Slot) (before : List ChunkRow) (c : Cursor) → slot_after wanted before c ≡ chunk_in (slice_get wanted (length before)) c
unfolding slot_after chunk_in
by_slot wanted before c = refl

get_is : {X : Type 0} (xs : List X) (i : ℕ) (x : X) → i < length xs → x ≡ get_or xs i x → slice_get xs i ≡ Some x
get_is {X = X} xs i x lt is = slice_get-get_or xs i x lt ∙ ap (λ (y : X). Some y) (sym is)

module _ (wanted : List Slot) (i : ℕ) (rows : List ChunkRow) (start now : Cursor) (slot : Slot) (so_far : each (slot_after wanted) (length wanted - i) rows now ≡ each (slot_after wanted) (length wanted) [] start)
    (slots_are : map slot_of rows ≡ take i wanted) (more : i < length wanted) (here : slot ≡ get_or wanted i slot) where
  chunk_next : (r : Result (ChunkRow × Cursor) ℕ) → chunk_in (Some slot) now ≡ r → slot_after wanted rows now ≡ r
  chunk_next r e =
      let count : length rows ≡ i = sym (length-map rows slot_of) ∙ ap length slots_are ∙ omega (arith, length-take i wanted) in
      by_slot wanted rows now ∙ ap (λ (o : Option Slot). chunk_in o now) (ap (slice_get wanted) count ∙ get_is wanted i slot more here) ∙ e

  pub chunk_stops : (e : FieldError) → Fails e (chunk_in (Some slot) now) → Fails e (each (slot_after wanted) (length wanted) [] start)
  chunk_stops e failed =
      stops e (slot_after wanted) (length wanted) i rows now (each (slot_after wanted) (length wanted) [] start) more
      (subst (Fails e) (sym (chunk_next (chunk_in (Some slot) now) refl)) failed) so_far

  pub chunk_more : (row : ChunkRow) (end : Cursor) (new : List ChunkRow) → chunk_in (Some slot) now ≡ Ok (row, end) → slot_of row ≡ slot → new ≡ rows ++ row ∷ []
      → (each (slot_after wanted) (length wanted - (i + 1)) new end ≡ each (slot_after wanted) (length wanted) [] start) × (map slot_of new ≡ take (i + 1) wanted)
  chunk_more row end new read same pushed = (
    ap (λ (rs : List ChunkRow). each (slot_after wanted) (length wanted - (i + 1)) rs end) pushed
        ∙ sym (each_more (slot_after wanted) (length wanted) i rows now row end more (chunk_next (Ok (row, end)) read)) ∙ so_far,
    ap (map slot_of) pushed ∙ map_push slot_of rows row ∙ ap (λ (ss : List Slot). ss ++ slot_of row ∷ []) slots_are
        ∙ ap (λ (s : Slot). take i wanted ++ s ∷ []) (same ∙ here) ∙ sym (take_more wanted i slot more),
  )

pub chunks_all : (wanted : List Slot) (i : ℕ) (rows : List ChunkRow) (start now : Cursor) → each (slot_after wanted) (length wanted - i) rows now ≡ each (slot_after wanted) (length wanted) [] start
    → length wanted ≤ i → each (slot_after wanted) (length wanted) [] start ≡ Ok (rows, now)
chunks_all wanted i rows start now so_far all = sym so_far ∙ each_ends (slot_after wanted) (length wanted) i rows now all
