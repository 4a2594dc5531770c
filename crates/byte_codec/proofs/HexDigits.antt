-- Hexadecimal text in lower case: what decodes was encoded.
use Rattle.std.proofs.Common.{◌≡◌, ℕ, zero, suc, ◌+◌, ◌*◌, ◌/◌, ◌%◌, ◌<◌, ◌≤◌, Bool, true, false, ◌&&◌, ◌||◌, List, [], ◌∷◌, Option, Some, None, Result, Ok, Err, refl, sym, ap, ◌∙◌, arith, inl, inr, slice_index, unwrap_or}
use Rattle.std.specs.Prelude.{◌==◌, not, ◌⊎◌}
use Rattle.std.specs.List.{list_all, AllPass}
use Rattle.std.specs.Result.{result_unwrap_or}
use Rattle.std.proofs.lemmas.Bool.{and_parts, cases_lt, eqb-true}
use Rattle.std.proofs.lemmas.List.Elements.{All-cons, All-nil}
use Rattle.hex.specs.Hex.{decode_of, decode_pairs, digit_or_error, encode_with, encode_lower, hex_digit_value, is_hex_digit, lower_digits, pair_value, value_at, ◌>>=◌}
use Rattle.hex.proofs.HexLemmas.{decode_of-even, decode_of-ok, decode_of-digits}
use Rattle.hex.specs.declared.error.FromHexError.{FromHexError}
use Rattle.hex.specs.declared.error.FromHexError.TheVariants.{OutOfMemory}
use Rattle.byte_codec.specs.declared.error.HexError.{HexError}
use Rattle.byte_codec.specs.declared.error.HexError.TheVariants.{Bad, Memory}
use Rattle.byte_codec.specs.Hex.{is_lower_digit, bytes_of_hex, IsHexText, GivesHex, BadIsExact}
use Rattle.byte_codec.specs.HexErrors.{refusal_of}

abbrev ok : {A : Type 0} → A → Result A FromHexError
ok x = Ok x

-- ---- a digit

-- the value of a digit in lower case, and the digit of that value
abbrev spells_back : ℕ → Bool
spells_back c = not (is_lower_digit c) || (slice_index lower_digits (unwrap_or (hex_digit_value c) 99) == c) && (is_hex_digit c)

abbrev all_spell_back : ℕ → Bool
all_spell_back zero = true
all_spell_back (suc n) = spells_back n && all_spell_back n

at : (n k : ℕ) → all_spell_back n ≡ true → k < n → spells_back k ≡ true
at zero k h lt = absurd (omega arith)
at (suc n) k h lt =
    let p = and_parts (spells_back n) (all_spell_back n) h in
    elim (cases_lt k n) [
      | inl below ↦ at n k p.1 below
      | inr top ↦ let e : k ≡ n = omega arith in rw e p.0
    ]

above : (c : ℕ) → 103 ≤ c → is_lower_digit c ≡ false
above c h = grind arith

all_do : all_spell_back 103 ≡ true
all_do = refl

digit_spells : (c v : ℕ) → is_lower_digit c ≡ true → hex_digit_value c ≡ Some v → slice_index lower_digits v ≡ c
digit_spells c v lower value =
    elim (cases_lt c 103) [
      | inl lt ↦
          let test = at 103 c all_do lt in
          let both = rw (lower, value) at test in
          eqb-true (slice_index lower_digits v) c (and_parts (slice_index lower_digits v == c) true both).0
      | inr le ↦ absurd (cc (sym lower ∙ above c le))
    ]

small_value : (c v : ℕ) → hex_digit_value c ≡ Some v → v < 16
small_value c v h = grind arith

-- what an `Ok` after `>>=` shows
bind_ok : {A B : Type 0} (r : Result A FromHexError) (f : A → Result B FromHexError) (y : B) → (r >>= f) ≡ Ok y → (x : A) × (r ≡ Ok x) × (f x ≡ Ok y)
bind_ok (Ok x) f y h = (x, refl, h)
bind_ok (Err e) f y h = absurd cc

digit_read : (c i : ℕ) (o : Option ℕ) (v : ℕ) → digit_or_error c i o ≡ Ok v → o ≡ Some v
digit_read c i (Some w) v h = ap Some (ap (λ (r : Result ℕ FromHexError). result_unwrap_or r 0) h)
digit_read c i None v h = absurd cc

ok_is : {A : Type 0} (x y : A) → ok x ≡ ok y → x ≡ y
ok_is x y e = cc

-- pairs of digits in lower case are the encoding of what they decode to
pairs_spell : (i : ℕ) (s bytes : List ℕ) → list_all is_lower_digit s ≡ true → decode_pairs i s ≡ Ok bytes → s ≡ encode_lower bytes
unfolding decode_pairs encode_with
pairs_spell i [] bytes lower h = let e : [] ≡ bytes = ok_is [] bytes h in rw (← e) refl
pairs_spell i (a ∷ []) bytes lower h = absurd cc
pairs_spell i (a ∷ b ∷ rest) bytes lower h =
    let p0 = bind_ok (pair_value a b i) (λ v. decode_pairs (i + 2) rest >>= (λ more. Ok (v ∷ more))) bytes h in
    let p1 = bind_ok (value_at a i) (λ high. value_at b (i + 1) >>= (λ low. Ok (high * 16 + low))) p0.0 p0.1 in
    let p2 = bind_ok (value_at b (i + 1)) (λ low. Ok (p1.0 * 16 + low)) p0.0 p1.2 in
    let p3 = bind_ok (decode_pairs (i + 2) rest) (λ more. Ok (p0.0 ∷ more)) bytes p0.2 in
    let l1 = and_parts (is_lower_digit a) (list_all is_lower_digit (b ∷ rest)) lower in
    let l2 = and_parts (is_lower_digit b) (list_all is_lower_digit rest) l1.1 in
    let high = digit_read a i (hex_digit_value a) p1.0 p1.1 in
    let low = digit_read b (i + 1) (hex_digit_value b) p2.0 p2.1 in
    let vh : p1.0 < 16 = small_value a p1.0 high in
    let vl : p2.0 < 16 = small_value b p2.0 low in
    let byte : p1.0 * 16 + p2.0 ≡ p0.0 = ok_is (p1.0 * 16 + p2.0) p0.0 p2.2 in
    let q : p0.0 / 16 ≡ p1.0 = omega arith in
    let r : p0.0 % 16 ≡ p2.0 = omega arith in
    let rest_is = pairs_spell (i + 2) rest p3.0 l2.1 p3.1 in
    let whole : p0.0 ∷ p3.0 ≡ bytes = ok_is (p0.0 ∷ p3.0) bytes p3.2 in
    rw (← whole, q, r, digit_spells a p1.0 l1.0 high, digit_spells b p2.0 l2.0 low, ← rest_is) refl

pub text_spelled : (s bytes : List ℕ) → list_all is_lower_digit s ≡ true → decode_of s ≡ Ok bytes → s ≡ encode_lower bytes
text_spelled s bytes lower h =
    let even = (decode_of-ok s bytes h).0 in
    pairs_spell 0 s bytes lower (sym (decode_of-even s even) ∙ h)

-- ---- what is answered

all_digits : (s : List ℕ) → list_all is_lower_digit s ≡ true → AllPass is_hex_digit s
all_digits [] h = All-nil (λ c. is_hex_digit c ≡ true)
all_digits (c ∷ s) h =
    let p = and_parts (is_lower_digit c) (list_all is_lower_digit s) h in
    All-cons (λ d. is_hex_digit d ≡ true) c s (grind arith) (all_digits s p.1)

-- where decoding fails, but not for memory, the text is no hex text
pub refused : (e : FromHexError) (s : List ℕ) → list_all is_lower_digit s ≡ true → (e ≡ OutOfMemory) ⊎ (decode_of s ≡ Err e)
    → BadIsExact (Err (refusal_of e)) s × GivesHex (Err (refusal_of e)) (bytes_of_hex s)
refused e s lower (inl memory) = rw memory (tt, tt)
refused e s lower (inr bad) = judged (refusal_of e)
  where
    found : IsHexText s → ⊥
    found text =
        let d = decode_of-digits s text.0 (all_digits s lower) in
        clash d.0 (sym d.1 ∙ bad)
      where
        clash : (bytes : List ℕ) → ok bytes ≡ Err e → ⊥
        clash bytes h = cc

    judged : (given : HexError) → BadIsExact (Err given) s × GivesHex (Err given) (bytes_of_hex s)
    judged Bad = (found, rw (lower, bad) refl)
    judged Memory = (tt, tt)
