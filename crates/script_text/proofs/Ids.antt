-- The id that is read from a word.
use Rattle.std.proofs.Common.{◌≡◌, ◌<◌, ◌/◌, ◌&&◌, nat_lt, nat_le, ℕ, Bool, true, false, List, length, Option, Some, None, Result, Ok, Err, refl, ◌∙◌, ap, sym, arith}
use Rattle.std.proofs.lemmas.Bool.{le-leb, lt-ltb, lt-leb}
use Rattle.std.specs.Prelude.{if◌then◌else◌}
use Rattle.std.specs.List.{list_all}
use Rattle.std.specs.Option.{SomeIff}
use Rattle.std.specs.Result.{MatchResult, result_ok}
use Rattle.hex.specs.Hex.{decode_sized, decode_of}
use Rattle.hex.specs.declared.error.FromHexError.{FromHexError}
use Rattle.hex.proofs.HexLemmas.{decode_sized-ok, decode_sized-twice, decode_of-ok}
use Rattle.byte_codec.specs.Hex.{is_lower_digit, bytes_of_hex}
use Rattle.state_spec.specs.Id.{IsId}
use Rattle.script_text.specs.Words.{id_of, such_that}

-- what was written is what the word decodes to
written : (d : Result (List ℕ) FromHexError) (r : Result Unit FromHexError) (out : List ℕ)
    → MatchResult d (λ bytes. (r ≡ Ok tt) × (out ≡ bytes)) (λ e. r ≡ Err e) → result_ok r ≡ Some tt → d ≡ Ok out
written (Ok bytes) r out h ok = ap (λ (b : List ℕ). Ok b) (sym h.1)
written (Err e) r out h ok = cc (ap result_ok h)

hex_is : (word out : List ℕ) → list_all is_lower_digit word ≡ true → decode_of word ≡ Ok out → bytes_of_hex word ≡ Some out
hex_is word out digits whole = rw (digits, whole) refl

pub id_is : (word out : List ℕ) (n : ℕ) (r : Result Unit FromHexError) (id : Option (List ℕ)) → list_all is_lower_digit word ≡ true
    → MatchResult (decode_sized word n) (λ bytes. (r ≡ Ok tt) × (out ≡ bytes)) (λ e. r ≡ Err e) → result_ok r ≡ Some tt
    → SomeIff id (IsId out) out → id ≡ id_of word
id_is word out n r None digits h ok new =
    let decoded = written (decode_sized word n) r out h ok in
    let long = decode_sized-ok word n out decoded in
    let whole : decode_of word ≡ Ok out = sym (decode_sized-twice word n long) ∙ decoded in
    rw (hex_is word out digits whole) (no_id out new)
  where
    no_id : (out : List ℕ) → (IsId out → ⊥) → None ≡ (if nat_lt 0 (length out) && nat_le (length out) 29 then Some out else None)
    no_id out new = grind arith
id_is word out n r (Some x) digits h ok new =
    let decoded = written (decode_sized word n) r out h ok in
    let long = decode_sized-ok word n out decoded in
    let whole : decode_of word ≡ Ok out = sym (decode_sized-twice word n long) ∙ decoded in
    rw (hex_is word out digits whole, lt-ltb 0 (length out) new.0.0, le-leb (length out) 29 new.0.1) (ap (λ (b : List ℕ). Some b) new.1)

no_long : (word : List ℕ) (d : Result (List ℕ) FromHexError) → decode_of word ≡ d → 29 < length word / 2 → None ≡ such_that (λ id. nat_lt 0 (length id) && nat_le (length id) 29) (result_ok d)
no_long word (Ok out) e h =
    let twice = (decode_of-ok word out e).2 in
    let more : nat_le (length out) 29 ≡ false = lt-leb (length out) 29 (omega arith) in
    let some : nat_lt 0 (length out) ≡ true = lt-ltb 0 (length out) (omega arith) in
    rw (some, more) refl
no_long word (Err error) e h = refl

-- more digits than an id has
pub long_id : (word : List ℕ) → 29 < length word / 2 → None ≡ id_of word
long_id word h =
    elim (list_all is_lower_digit word) as (λ (b : Bool). None ≡ such_that (λ id. nat_lt 0 (length id) && nat_le (length id) 29) (if b then result_ok (decode_of word) else None))
    [ true ↦ no_long word (decode_of word) refl h | false ↦ refl ]
