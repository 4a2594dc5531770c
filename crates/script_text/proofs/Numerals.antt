-- Numbers, as std's parser reads them.
use Rattle.std.proofs.Common.{◌≡◌, ◌≤◌, ◌<◌, ◌^◌, ◌==◌, ℕ, Bool, true, false, ◌&&◌, List, [], ◌∷◌, Some, None, Result, Ok, Err, refl, ap, sym, ◌∙◌, arith}
use Rattle.std.proofs.lemmas.Bool.{lt-ltb, le-ltb}
use Rattle.std.proofs.lemmas.Bool.{leb-true}
use Rattle.std.proofs.lemmas.Fmt.{IsAscii-from_digits}
use Rattle.std.proofs.lemmas.Str.{IsUtf8-from_ascii, digit_value_digit}
use Rattle.std.specs.Char.{digit_value}
use Rattle.std.specs.List.{list_all}
use Rattle.std.specs.Result.{result_ok, MatchResult}
use Rattle.std.specs.Str.{IsUtf8}
use Rattle.std.specs.Str.Parse.{AllDigits, digits_value, without_leading_plus, ParsesUnsigned}
use Rattle.script_text.specs.Words.{is_digit, is_number, number_of}

-- both of two tests hold
both : (a b : Bool) → (a && b) ≡ true → (a ≡ true) × (b ≡ true)
both true true h = (refl, refl)
both true false h = absurd (cc h)
both false b h = absurd (cc h)

digit_range : (c : ℕ) → is_digit c ≡ true → (48 ≤ c) × (c ≤ 57)
digit_range c h =
    let p = both _ _ h in
    (leb-true 48 c p.0, leb-true c 57 p.1)

digit_small : (c : ℕ) → is_digit c ≡ true → digit_value c < 10
digit_small c h =
    let r = digit_range c h in
    omega (arith, digit_value_digit c r)

pub all_digits : (ds : List ℕ) → list_all is_digit ds ≡ true → AllDigits 10 ds
all_digits [] h = tt
all_digits (d ∷ ds) h =
    let p = both _ _ h in
    (digit_small d p.0, all_digits ds p.1)

-- the digits of a number are text
pub number_utf8 : (word : List ℕ) → is_number word ≡ true → IsUtf8 word
number_utf8 [] h = absurd (cc h)
number_utf8 (c ∷ cs) h = IsUtf8-from_ascii (c ∷ cs) (IsAscii-from_digits (c ∷ cs) (all_digits (c ∷ cs) ((both _ _ h).0)))

no_plus : (c : ℕ) (cs : List ℕ) → is_digit c ≡ true → without_leading_plus (c ∷ cs) ≡ c ∷ cs
no_plus c cs h =
    let r = digit_range c h in
    let other : (c == 43) ≡ false = grind arith in
    rw other refl

-- what std reads, where the word is decimal digits
pub number_is : {E : Type 0} (word : List ℕ) (r : Result ℕ E) → is_number word ≡ true → ParsesUnsigned 64 10 word r → result_ok r ≡ number_of word
number_is [] r h p = absurd (cc h)
number_is (c ∷ cs) (Ok n) h p =
    let digits = (both _ _ h).0 in
    let same = no_plus c cs ((both _ _ digits).0) in
    let value : n ≡ digits_value 10 (c ∷ cs) = p.1 ∙ ap (digits_value 10) same in
    let small : digits_value 10 (c ∷ cs) < 2 ^ 64 = rw same at p.0.1 in
    rw (h, lt-ltb (digits_value 10 (c ∷ cs)) (2 ^ 64) small) (ap (λ (k : ℕ). Some k) value)
number_is (c ∷ cs) (Err e) h p =
    let digits = (both _ _ h).0 in
    let same = no_plus c cs ((both _ _ digits).0) in
    let large : 2 ^ 64 ≤ digits_value 10 (c ∷ cs) = not_below (digits_value 10 (c ∷ cs)) (2 ^ 64) (λ small. p ((rw same (omega arith), rw same (all_digits (c ∷ cs) digits)), rw same small)) in
    rw (h, le-ltb (digits_value 10 (c ∷ cs)) (2 ^ 64) large) refl
  where
    not_below : (a b : ℕ) → (a < b → ⊥) → b ≤ a
    not_below a b h = omega (arith, h)

-- text is read of bytes that are text
pub text_read : {S E : Type 0} (now : S → List ℕ) (word : List ℕ) (Valid : E → Type 0) (r : Result S E) (text : S)
    → MatchResult r (λ s. (now s ≡ word) × IsUtf8 word) (λ e. (IsUtf8 word → ⊥) × Valid e) → result_ok r ≡ Some text → now text ≡ word
text_read now word Valid (Ok s) text m e = let same : s ≡ text = cc e in ap now (sym same) ∙ m.0
text_read now word Valid (Err e) text m h = absurd (cc h)

-- and it is always read
pub text_found : {S E : Type 0} (now : S → List ℕ) (word : List ℕ) (Valid : E → Type 0) (r : Result S E)
    → MatchResult r (λ s. (now s ≡ word) × IsUtf8 word) (λ e. (IsUtf8 word → ⊥) × Valid e) → IsUtf8 word → result_ok r ≡ None → ⊥
text_found now word Valid (Ok s) m u h = cc h
text_found now word Valid (Err e) m u h = m.0 u
