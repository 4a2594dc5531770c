-- A byte string is read as the first byte of its head, the length behind it, and so many bytes.
use Rattle.std.proofs.Common.{◌≡◌, ℕ, ◌+◌, ◌-◌, ◌^◌, ◌<◌, ◌≤◌, Bool, true, false, cond, ltb, ◌&&◌, ◌==◌, leb, drop, Option, Some, None, Result, Ok, Err, MatchResult, refl, sym, ap, ◌∙◌, arith}
use Rattle.std.specs.Int.{w16, w32, w64}
use Rattle.std.proofs.lemmas.Bool.{lt-ltb, le-ltb}
use Rattle.std.proofs.lemmas.List.{drop-drop}
use Rattle.format_spec.specs.Bytes.{Bytes}
use Rattle.format_spec.specs.Fields.{Cursor, Form, field, reading_by_rule, any, byte, number, block, form_after, with_first, form_then}
use Rattle.format_spec.proofs.Readings.{ok_is}
use Rattle.byte_codec.specs.declared.error.Short.{Short}
use Rattle.byte_codec.specs.Gives.{GivesForm}
use Rattle.tree_spec.specs.Cbor.{long_block, behind_head, string_form}
use Rattle.witness.specs.Gives.{TakesForm}
use Rattle.witness.specs.Strings.{not_below, length_behind}

-- what a field took
pub record Taken {X : Type 0} (o : Option (X × ℕ)) (x : X) (c d : Cursor) : Type 0 where
  pub count : ℕ
  pub there : o ≡ Some (x, count)
  pub behind : record { at = c.at + count; rest = drop count c.rest } ≡ d

pub taken : {X : Type 0} (o : Option (X × ℕ)) (x : X) (c d : Cursor) → reading_by_rule any o c ≡ Ok (x, d) → Taken o x c d
taken None x c d e = absurd cc
taken {X} (Some v) x c d e =
    let same = ok_is (v.0, record { at = c.at + v.1; rest = drop v.1 c.rest }) (x, d) e in
    record {
      count = v.1;
      there = ap (λ (p : X × Cursor). Some (p.0, v.1)) same;
      behind = ap (λ (p : X × Cursor). p.1) same;
    }

-- what a field is that takes so much
taking : {X : Type 0} (form : Form X) (c : Cursor) (x : X) (n : ℕ) → form c.rest ≡ Some (x, n) → field form any c ≡ Ok (x, record { at = c.at + n; rest = drop n c.rest })
taking form c x n e = ap (λ (o : _). reading_by_rule any o c) e

-- one form behind another
pub then_takes : {A B : Type 0} (first : Form A) (next : A → Form B) (c m d : Cursor) (a : A) (b : B) → field first any c ≡ Ok (a, m) → field (next a) any m ≡ Ok (b, d)
    → field (form_then first next) any c ≡ Ok (b, d)
then_takes {A} {B} first next c m d a b e f =
    let one = taken (first c.rest) a c m e in
    let two = taken (next a m.rest) b m d f in
    let k : ℕ = one.count in
    let n : ℕ = two.count in
    let rest : next a (drop k c.rest) ≡ Some (b, n) = ap (λ (r : Cursor). next a r.rest) one.behind ∙ two.there in
    let both : form_then first next c.rest ≡ Some (b, k + n) =
    ap (λ (o : Option (A × ℕ)). form_after o next c.rest) one.there ∙ ap (with_first k) rest in
    let at : c.at + (k + n) ≡ (c.at + k) + n = omega arith in
    let behind : drop (k + n) c.rest ≡ drop n (drop k c.rest) = sym (drop-drop n k c.rest) in
    let end : record { at = c.at + (k + n); rest = drop (k + n) c.rest } ≡ d =
    (λ i. record { at = at i; rest = behind i })
    ∙ ap (λ (r : Cursor). record { at = r.at + n; rest = drop n r.rest }) one.behind
    ∙ two.behind in
    taking (form_then first next) c b (k + n) both ∙ ap (λ (r : Cursor). Ok (b, r)) end

pub then_fails : {A B : Type 0} (first : Form A) (next : A → Form B) (c m : Cursor) (a : A) → field first any c ≡ Ok (a, m) → next a m.rest ≡ None → form_then first next c.rest ≡ None
then_fails {A} {B} first next c m a e f =
    let one = taken (first c.rest) a c m e in
    let rest : next a (drop one.count c.rest) ≡ None = ap (λ (r : Cursor). next a r.rest) one.behind ∙ f in
    ap (λ (o : Option (A × ℕ)). form_after o next c.rest) one.there ∙ ap (with_first one.count) rest

-- a number that isn't below least
pub counted : (form : Form ℕ) (least n : ℕ) (c d : Cursor) (r : Result ℕ Short) → field form any c ≡ Ok (n, d)
    → MatchResult r (λ m. (m ≡ n) × (least ≤ n)) (λ e. n < least) → TakesForm (λ m. m) (λ s. not_below least (form s)) c d r
counted form least n c d (Ok m) e h =
    let one = taken (form c.rest) n c d e in
    let test : ltb n least ≡ false = le-ltb n least h.1 in
    let there : not_below least (form c.rest) ≡ Some (n, one.count) = ap (not_below least) one.there ∙ rw test refl in
    ap (λ (o : Option (ℕ × ℕ)). reading_by_rule any o c) there ∙ ap (λ (r : Cursor). Ok (n, r)) one.behind ∙ ap (λ (k : ℕ). Ok (k, d)) (sym h.0)
counted form least n c d (Err x) e h =
    let one = taken (form c.rest) n c d e in
    let test : ltb n least ≡ true = lt-ltb n least h in
    ap (not_below least) one.there ∙ rw test refl

-- ---- the rest of a head and the bytes behind it

long_is : (least : ℕ) (o : Option (ℕ × ℕ)) (s : Bytes) → form_after o (long_block least) s ≡ form_after (not_below least o) block s
long_is least None s = refl
long_is least (Some n) s = by (ltb n.0 least)
  where
    by : (b : Bool) → with_first n.1 (cond b None (block n.0 (drop n.1 s))) ≡ form_after (cond b None (Some n)) block s
    by true = refl
    by false = refl

none_first : (o : Option (Bytes × ℕ)) → o ≡ with_first 0 o
none_first None = refl
none_first (Some x) = let e : x.1 ≡ 0 + x.1 = omega arith in ap (λ (n : ℕ). Some (x.0, n)) e

by_tests : (a b c d e : Bool) (p q r t u : Form Bytes) (p' q' r' t' u' : Option (ℕ × ℕ)) (s : Bytes)
    → p s ≡ form_after p' block s → q s ≡ form_after q' block s → r s ≡ form_after r' block s → t s ≡ form_after t' block s → u s ≡ form_after u' block s
    → cond a p (cond b q (cond c r (cond d t (cond e u (λ x. None))))) s ≡ form_after (cond a p' (cond b q' (cond c r' (cond d t' (cond e u' None))))) block s
by_tests true b c d e p q r t u p' q' r' t' u' s hp hq hr ht hu = hp
by_tests false true c d e p q r t u p' q' r' t' u' s hp hq hr ht hu = hq
by_tests false false true d e p q r t u p' q' r' t' u' s hp hq hr ht hu = hr
by_tests false false false true e p q r t u p' q' r' t' u' s hp hq hr ht hu = ht
by_tests false false false false true p q r t u p' q' r' t' u' s hp hq hr ht hu = hu
by_tests false false false false false p q r t u p' q' r' t' u' s hp hq hr ht hu = refl

pub behind_is : (head : ℕ) (s : Bytes) → behind_head head s ≡ form_then (length_behind head) block s
behind_is head s =
    by_tests (leb 0x40 head && ltb head 0x58) (head == 0x58) (head == 0x59) (head == 0x5a) (head == 0x5b)
    (block (head - 0x40)) (form_then byte (long_block 24)) (form_then (number w16) (long_block (2 ^ 8))) (form_then (number w32) (long_block (2 ^ 16))) (form_then (number w64) (long_block (2 ^ 32)))
    (Some (head - 0x40, 0)) (not_below 24 (byte s)) (not_below (2 ^ 8) (number w16 s)) (not_below (2 ^ 16) (number w32 s)) (not_below (2 ^ 32) (number w64 s)) s
    (none_first (block (head - 0x40) s)) (long_is 24 (byte s) s) (long_is (2 ^ 8) (number w16 s) s) (long_is (2 ^ 16) (number w32 s) s) (long_is (2 ^ 32) (number w64 s) s)

pub string_takes : {X : Type 0} (view : X → Bytes) (head n : ℕ) (c m k d : Cursor) (r : Result X Short) → field byte any c ≡ Ok (head, m) → field (length_behind head) any m ≡ Ok (n, k)
    → GivesForm view (block n) k d r → TakesForm view string_form c d r
string_takes view head n c m k d (Ok x) e f g =
    let rest = then_takes (length_behind head) block m k d n (view x) f g in
    then_takes byte behind_head c m d head (view x) e (ap (λ (o : Option (Bytes × ℕ)). reading_by_rule any o m) (behind_is head m.rest) ∙ rest)
string_takes view head n c m k d (Err x) e f g =
    then_fails byte behind_head c m head e (behind_is head m.rest ∙ then_fails (length_behind head) block m k n f g.0)
