-- The hashes of pieces, read one by one.
use Rattle.std.proofs.Common.{◌≡◌, ℕ, ◌+◌, ◌-◌, ◌<◌, ◌≤◌, List, [], ◌∷◌, ◌++◌, length, Ok, sym, ap, ◌∙◌, arith}
use Rattle.std.proofs.lemmas.List.{length-append}
use Rattle.format_spec.specs.Bytes.{Bytes}
use Rattle.format_spec.specs.Fields.{Reading, Cursor, each, field, block, any}
use Rattle.format_spec.proofs.Each.{each_more, each_ends}
use Rattle.byte_codec.specs.declared.error.FieldError.{FieldError}
use Rattle.byte_codec.specs.Gives.{Fails}
use Rattle.byte_codec.proofs.Stops.{stops}

abbrev pub next_hash : List Bytes → Reading Bytes
next_hash before = field (block 32) any

module _ (count i : ℕ) (hashes : List Bytes) (start now : Cursor) (so_far : each next_hash (count - i) hashes now ≡ each next_hash count [] start) (len : length hashes ≡ i) where
  pub hash_stops : (e : FieldError) → i < count → Fails e (field (block 32) any now) → Fails e (each next_hash count [] start)
  hash_stops e lt failed = stops e next_hash count i hashes now (each next_hash count [] start) lt failed so_far

  pub hash_more : (hash : Bytes) (end : Cursor) (more : List Bytes) → i < count → field (block 32) any now ≡ Ok (hash, end) → more ≡ hashes ++ hash ∷ []
      → (each next_hash (count - (i + 1)) more end ≡ each next_hash count [] start) × (length more ≡ i + 1)
  hash_more hash end more lt read is = (
    ap (λ (xs : List Bytes). each next_hash (count - (i + 1)) xs end) is ∙ sym (each_more next_hash count i hashes now hash end lt read) ∙ so_far,
    ap length is ∙ omega (arith, length-append hashes (hash ∷ []), len),
  )

  pub hash_ends : count ≤ i → each next_hash count [] start ≡ Ok (hashes, now)
  hash_ends le = sym so_far ∙ each_ends next_hash count i hashes now le
