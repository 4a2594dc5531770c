-- The hash that is read from a word.
use Rattle.std.proofs.Common.{◌≡◌, ◌==◌, ◌*◌, ℕ, Bool, true, false, List, length, Some, None, Result, Ok, Err, refl, ◌∙◌, ap, sym, arith}
use Rattle.std.specs.Prelude.{if◌then◌else◌}
use Rattle.std.specs.List.{list_all}
use Rattle.std.specs.Result.{MatchResult, result_ok}
use Rattle.hex.specs.Hex.{decode_sized, decode_of}
use Rattle.hex.specs.declared.error.FromHexError.{FromHexError}
use Rattle.hex.proofs.HexLemmas.{decode_sized-twice, decode_of-ok}
use Rattle.byte_codec.specs.Hex.{is_lower_digit}
use Rattle.script_text.specs.Words.{hash_of, such_that}

-- nothing was written where the word decodes to nothing
refused : (d : Result (List ℕ) FromHexError) (r : Result Unit FromHexError) (out : List ℕ)
    → MatchResult d (λ bytes. (r ≡ Ok tt) × (out ≡ bytes)) (λ e. r ≡ Err e) → result_ok r ≡ None → result_ok d ≡ None
refused (Ok bytes) r out h none = cc (sym none ∙ ap result_ok h.0)
refused (Err e) r out h none = refl

other_size : (word : List ℕ) (d : Result (List ℕ) FromHexError) → decode_of word ≡ d → result_ok (decode_sized word 32) ≡ None
    → None ≡ such_that (λ bytes. length bytes == 32) (result_ok d)
other_size word (Err e) whole none = refl
other_size word (Ok out) whole none = by (length out == 32) refl
  where
    by : (b : Bool) → (length out == 32) ≡ b → None ≡ (if length out == 32 then Some out else None)
    by false e = rw e refl
    by true e =
        let long = (decode_of-ok word out whole).2 in
        let size : length out ≡ 32 = grind (arith, e) in
        let twice : length word ≡ 2 * 32 = omega arith in
        absurd (cc (sym none ∙ ap result_ok (decode_sized-twice word 32 twice ∙ whole)))

pub no_hash : (word out : List ℕ) (r : Result Unit FromHexError) → list_all is_lower_digit word ≡ true
    → MatchResult (decode_sized word 32) (λ bytes. (r ≡ Ok tt) × (out ≡ bytes)) (λ e. r ≡ Err e) → result_ok r ≡ None → None ≡ hash_of word
no_hash word out r digits h none = rw digits (other_size word (decode_of word) refl (refused (decode_sized word 32) r out h none))
