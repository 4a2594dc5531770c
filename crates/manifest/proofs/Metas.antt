-- Which texts are those of meta-manifests.
use Rattle.std.proofs.Common.{◌≡◌, ℕ, zero, suc, ◌+◌, ◌*◌, ◌<◌, ◌≤◌, Bool, true, false, ◌&&◌, List, [], ◌∷◌, ◌++◌, length, take, drop, None, Result, Ok, Err, refl, sym, ap, ◌∙◌, arith}
use Rattle.std.specs.Prelude.{◌==◌, nat_lt, nat_le, if◌then◌else◌}
use Rattle.std.specs.Option.{is_some}
use Rattle.std.specs.Int.{w32}
use Rattle.std.proofs.lemmas.Bool.{ltb-true, ltb-false, eqb-true, eqb-false}
use Rattle.std.proofs.lemmas.List.{length-drop}
use Rattle.format_spec.specs.Bytes.{Bytes}
use Rattle.format_spec.specs.Fields.{Cursor, Reading, gives, value_at_end, and_then, ◌>>=◌, field, number, each}
use Rattle.format_spec.specs.declared.limits.TheConstants.{MAX_PIECES}
use Rattle.format_spec.proofs.Readings.{read_ok, ok_is}
use Rattle.state_spec.specs.Root.{MetaManifest, as_option, read_meta, meta_fields}
use Rattle.byte_codec.specs.declared.error.FieldError.{FieldError}
use Rattle.byte_codec.specs.declared.error.FieldError.TheVariants.{Bad, Memory}
use Rattle.byte_codec.specs.Gives.{Fails, NeedsNoMemory}
use Rattle.manifest.specs.Reading.{meta_head}
use Rattle.format_spec.specs.Versions.{is_version}
use Rattle.format_spec.proofs.Cuts.{next_hash}

abbrev read_end : ℕ → List Bytes → Reading MetaManifest
read_end version pieces = gives (record { version = version; pieces = pieces })

abbrev is_read : {X : Type 0} → Result X ℕ → Bool
is_read r = is_some (as_option r)

is_read_if : {X : Type 0} (b : Bool) (x : X) (place : ℕ) → is_read (if b then read_ok x else Err place) ≡ b
is_read_if true x place = refl
is_read_if false x place = refl

same_tests : (a b c d : ℕ) → (a ≡ b → c ≡ d) → (c ≡ d → a ≡ b) → (a == b) ≡ (c == d)
same_tests a b c d there back = go (a == b) (c == d) refl refl
  where
    go : (p q : Bool) → (a == b) ≡ p → (c == d) ≡ q → p ≡ q
    go true true e f = refl
    go false false e f = refl
    go true false e f = absurd (eqb-false c d f (there (eqb-true a b e)))
    go false true e f = absurd (eqb-false a b e (back (eqb-true c d f)))

not_equal : (a b : ℕ) → (a ≡ b → ⊥) → (a == b) ≡ false
not_equal a b differ = go (a == b) refl
  where
    go : (p : Bool) → (a == b) ≡ p → p ≡ false
    go true e = absurd (differ (eqb-true a b e))
    go false e = refl

-- so many hashes and no more, exactly where there are so many bytes
hashes_fill : (version n : ℕ) (before : List Bytes) (c : Cursor) → is_read (value_at_end (and_then (each next_hash n before c) (read_end version))) ≡ (length c.rest == 32 * n)
unfolding each
hashes_fill version zero before c = is_read_if (length c.rest == 0) (record { version = version; pieces = before }) c.at
hashes_fill version (suc n) before c = go (nat_lt (length c.rest) 32) refl (hashes_fill version n (before ++ take 32 c.rest ∷ []) (record { at = c.at + 32; rest = drop 32 c.rest }))
  where
    next : Cursor
    next = record { at = c.at + 32; rest = drop 32 c.rest }

    go : (b : Bool) → nat_lt (length c.rest) 32 ≡ b → is_read (value_at_end (and_then (each next_hash n (before ++ take 32 c.rest ∷ []) next) (read_end version))) ≡ (length next.rest == 32 * n)
        → is_read (value_at_end (and_then (each next_hash (suc n) before c) (read_end version))) ≡ (length c.rest == 32 * suc n)
    go true short fill =
        let lt : length c.rest < 32 = ltb-true (length c.rest) 32 short in
        rw short (sym (not_equal (length c.rest) (32 * suc n) (λ e. omega (arith, e, lt))))
    go false long fill =
        let le : 32 ≤ length c.rest = ltb-false (length c.rest) 32 long in
        rw long (fill ∙ same_tests (length next.rest) (32 * n) (length c.rest) (32 * suc n) (λ e. omega (arith, length-drop 32 c.rest, e, le)) (λ e. omega (arith, length-drop 32 c.rest, e, le)))

abbrev counted : Reading ℕ
counted = field (number w32) (λ n. nat_lt 0 n && nat_le n MAX_PIECES)

abbrev behind_count : ℕ → ℕ → Reading MetaManifest
behind_count version n = each next_hash n [] >>= read_end version

abbrev behind_version : ℕ → Reading MetaManifest
behind_version version = counted >>= behind_count version

abbrev with_version : ℕ → ℕ → Reading (ℕ × ℕ)
with_version version count = gives (version, count)

abbrev head_of : ℕ → Reading (ℕ × ℕ)
head_of version = counted >>= with_version version

module _ (version count : ℕ) (d : Cursor) where
  from_count : (found n : ℕ) (r : Result (ℕ × Cursor) ℕ) → and_then r (with_version found) ≡ Ok ((version, count), d) → is_read (value_at_end (and_then r (behind_count n))) ≡ (length d.rest == 32 * count)
  from_count found n (Err place) e = absurd cc
  from_count found n (Ok x) e =
      let same : ((found, x.0), x.1) ≡ ((version, count), d) = ok_is ((found, x.0), x.1) ((version, count), d) e in
      ap (λ (p : (ℕ × ℕ) × Cursor). is_read (value_at_end (behind_count n p.0.1 p.1))) same ∙ hashes_fill n count [] d

  from_version : (r : Result (ℕ × Cursor) ℕ) → and_then r head_of ≡ Ok ((version, count), d) → is_read (value_at_end (and_then r behind_version)) ≡ (length d.rest == 32 * count)
  from_version (Err place) e = absurd cc
  from_version (Ok x) e = from_count x.0 x.0 (counted x.1) e

  -- so many pieces were announced
  pub meta_counted : (s : Bytes) → meta_head (record { at = 0; rest = s }) ≡ Ok ((version, count), d) → is_some (read_meta s) ≡ (length d.rest == 32 * count)
  unfolding meta_head read_meta meta_fields
  meta_counted s e = from_version (field (number w32) is_version (record { at = 0; rest = s })) e

not_counted : (version n : ℕ) (r : Result (ℕ × Cursor) ℕ) → as_option (and_then r (with_version version)) ≡ None → is_read (value_at_end (and_then r (behind_count n))) ≡ false
not_counted version n (Err place) e = refl
not_counted version n (Ok x) e = absurd cc

no_version : (r : Result (ℕ × Cursor) ℕ) → as_option (and_then r head_of) ≡ None → is_read (value_at_end (and_then r behind_version)) ≡ false
no_version (Err place) e = refl
no_version (Ok x) e = not_counted x.0 x.0 (counted x.1) e

-- no version or no number of pieces
pub no_meta : (s : Bytes) → as_option (meta_head (record { at = 0; rest = s })) ≡ None → is_some (read_meta s) ≡ false
unfolding meta_head read_meta meta_fields
no_meta s e = no_version (field (number w32) is_version (record { at = 0; rest = s })) e

pub fails_meta : (s : Bytes) (e : FieldError) → Fails e (meta_head (record { at = 0; rest = s })) → NeedsNoMemory {X = ℕ × ℕ} (Err e) → is_some (read_meta s) ≡ false
fails_meta s (Bad place) failed none = no_meta s (ap as_option failed)
fails_meta s Memory failed none = absurd none
