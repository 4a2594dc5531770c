-- Loops that read values in a row.
use Rattle.std.proofs.Common.{◌≡◌, ℕ, ◌+◌, ◌-◌, ◌<◌, ◌≤◌, Bool, true, false, List, [], ◌∷◌, ◌++◌, length, take, drop, get_or, Option, None, Result, Ok, Err, refl, sym, ap, ◌∙◌, arith}
use Rattle.std.specs.Prelude.{slice_get}
use Rattle.std.specs.Int.{w64}
use Rattle.std.proofs.lemmas.Option.{slice_get-get_or}
use Rattle.std.proofs.lemmas.List.{length-take, length-append}
use Rattle.format_spec.specs.Bytes.{Bytes}
use Rattle.format_spec.specs.Fields.{Cursor, Reading, each, field, number, block, any}
use Rattle.format_spec.proofs.Each.{each_more}
use Rattle.store_spec.specs.Mark.{MarkMemory}
use Rattle.byte_codec.specs.declared.error.FieldError.{FieldError}
use Rattle.byte_codec.specs.Gives.{Fails}
use Rattle.byte_codec.proofs.Stops.{stops}
use Rattle.mark_file.specs.Reading.{layer_after, is_new, memory_of, memory_after, memory_at}

module _ {X : Type 0} (next : List X → Reading X) (count i : ℕ) (before : List X) (now start : Cursor) (lt : i < count) (so_far : each next (count - i) before now ≡ each next count [] start) where
  -- a field was bad, or memory ran out
  pub stops_here : (e : FieldError) → Fails e (next before now) → Fails e (each next count [] start)
  stops_here e failed = stops e next count i before now (each next count [] start) lt failed so_far

  -- another value was read
  pub goes_on : (x : X) (end : Cursor) (new : List X) → next before now ≡ Ok (x, end) → new ≡ before ++ x ∷ [] → each next (count - (i + 1)) new end ≡ each next count [] start
  goes_on x end new read is = ap (λ (xs : List X). each next (count - (i + 1)) xs end) is ∙ sym (each_more next count i before now x end lt read) ∙ so_far

-- a layer's rule, by the list as the code has it
pub layer_by : (shown layers : List ℕ) (c : Cursor) → shown ≡ layers → field (number w64) (is_new shown) c ≡ layer_after layers c
layer_by shown layers c is = ap (λ (ls : List ℕ). field (number w64) (is_new ls) c) is

-- which memory comes next
pub memory_next : (version : ℕ) (pages : List ℕ) (i : ℕ) (before : List MarkMemory) (c : Cursor) → length before ≡ i → i < length pages → memory_after version pages before c ≡ memory_of version (get_or pages i 0) c
memory_next version pages i before c count lt = ap (λ (o : Option ℕ). memory_at version o c) (ap (slice_get pages) count ∙ slice_get-get_or pages i 0 lt)

pub length_more : {X : Type 0} (xs new : List X) (x : X) (i : ℕ) → length xs ≡ i → new ≡ xs ++ x ∷ [] → length new ≡ i + 1
length_more {X = X} xs new x i count is = ap length is ∙ omega (arith, length-append xs (x ∷ []), count)
