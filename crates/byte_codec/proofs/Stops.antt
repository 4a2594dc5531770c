-- The exit of a loop that reads values in a row, at an error.
use Rattle.std.proofs.Common.{◌≡◌, ℕ, ◌-◌, ◌<◌, List, Result, Err, sym, ◌∙◌}
use Rattle.format_spec.specs.Fields.{Reading, Cursor, each}
use Rattle.format_spec.proofs.Each.{each_stops}
use Rattle.byte_codec.specs.declared.error.FieldError.{FieldError}
use Rattle.byte_codec.specs.declared.error.FieldError.TheVariants.{Bad, Memory}
use Rattle.byte_codec.specs.Gives.{Fails}

-- what fails one reading fails another that stops where it does
pub fails_too : {X Y : Type 0} (e : FieldError) (r : Result X ℕ) (s : Result Y ℕ) → ((place : ℕ) → r ≡ Err place → s ≡ Err place) → Fails e r → Fails e s
fails_too Memory r s stop failed = tt
fails_too (Bad place) r s stop failed = stop place failed

pub stops : {X : Type 0} (e : FieldError) (next : List X → Reading X) (count i : ℕ) (before : List X) (c : Cursor) (all : Result (List X × Cursor) ℕ) → i < count
    → Fails e (next before c) → each next (count - i) before c ≡ all → Fails e all
stops e next count i before c all lt failed so_far = fails_too e (next before c) all (λ place h. sym so_far ∙ each_stops next count i before c place lt h) failed
