-- Single fields.
use Rattle.std.proofs.Common.{◌≡◌, ◌-◌, ◌*◌, ◌/◌, min, inl, inr, ◌<◌, ◌&&◌, Bool, true, false, cond, length, take, drop, Option, Some, None, Result, Ok, Err, refl, sym, ap, ◌∙◌, arith}
use Rattle.std.proofs.lemmas.Bool.{cases_lt}
use Rattle.std.proofs.lemmas.List.{length-drop, take_all, drop_all}
use Rattle.hex.specs.Hex.{decode_of}
use Rattle.hex.proofs.HexLemmas.{decode_of-ok}
use Rattle.hex.specs.declared.error.FromHexError.{FromHexError}
use Rattle.format_spec.specs.Bytes.{Bytes, same_bytes, bytes_cmp, is_after}
use Rattle.format_spec.specs.Fields.{Cursor, field, string8, any}
use Rattle.state_spec.specs.State.{is_id}
use Rattle.state_spec.specs.Files.{heap_name}
use Rattle.state_spec.specs.ManifestText.{id_of_hex, id_in, is_next_heap}
use Rattle.manifest.specs.Reading.{only_id}
use Rattle.format_spec.proofs.Readings.{same_bytes_is}
use Rattle.byte_codec.proofs.Judged.{field_keeps}
use Rattle.std.proofs.lemmas.Option.{same_Some}

-- ---- names

-- the name that was looked for, in place of the equal one that was read
pub name_is : (rule : Bytes → Bool) (c : Cursor) (name wanted : Bytes) (d : Cursor) → field string8 any c ≡ Ok (name, d) → same_bytes name wanted ≡ true → rule name ≡ true
    → field string8 rule c ≡ Ok (wanted, d)
name_is rule c name wanted d e same good =
    field_keeps string8 rule c name d e good ∙ ap (λ (s : Bytes). Ok (s, d)) (same_bytes_is name wanted same)

-- ---- ids in names

-- the rule of a heap's name, where the id in it is one
pub heap_rule : (last : Option Bytes) (name id : Bytes) (o : Option Bytes) → only_id o ≡ Some id → is_next_heap last o name ≡ same_bytes name (heap_name id) && is_after bytes_cmp last id
heap_rule last name id None e = absurd cc
heap_rule last name id (Some i) e = go (is_id i) refl e
  where
    go : (b : Bool) → is_id i ≡ b → cond b (Some i) None ≡ Some id → is_next_heap last (Some i) name ≡ same_bytes name (heap_name id) && is_after bytes_cmp last id
    go true is h = let same = same_Some i id h in rw (is, same) refl
    go false is h = absurd cc

-- as the code judges it
pub heap_judged : (last : Option Bytes) (name id heap shown : Bytes) (judged : Bool) → Some id ≡ only_id (id_in name) → heap ≡ heap_name id → shown ≡ heap
    → judged ≡ same_bytes name shown && is_after bytes_cmp last id → is_next_heap last (id_in name) name ≡ judged
heap_judged last name id heap shown judged there is view judges =
    heap_rule last name id (id_in name) (sym there)
    ∙ ap (λ (w : Bytes). same_bytes name w && is_after bytes_cmp last id) (sym (view ∙ is)) ∙ sym judges

no_id : (id : Bytes) → 29 < length id → only_id (Some id) ≡ None
no_id id long = grind arith

-- digits of more bytes than an id has
pub too_long : (digits : Bytes) → 29 < length digits / 2 → only_id (id_of_hex (decode_of digits)) ≡ None
too_long digits long = go (decode_of digits) refl
  where
    go : (r : Result Bytes FromHexError) → decode_of digits ≡ r → only_id (id_of_hex r) ≡ None
    go (Err e) is = refl
    go (Ok id) is =
        let size : length digits ≡ 2 * length id = (decode_of-ok digits id is).2 in
        no_id id (omega arith)

-- what an id's digits stand in
pub rest_is : (name : Bytes) → take (length name - min (length name) 9) (drop (min (length name) 9) name) ≡ drop 9 name
rest_is name =
    elim (cases_lt (length name) 9) [
      | inl short ↦
          let low : min (length name) 9 ≡ length name = omega arith in
          let none : length name - length name ≡ 0 = omega arith in
          rw (low, none) (sym (drop_all 9 name (omega arith)))
      | inr long ↦
          let nine : min (length name) 9 ≡ 9 = omega arith in
          rw nine (take_all (length name - 9) (drop 9 name) (omega (arith, length-drop 9 name)))
    ]
