-- A text has one answer of `leb_read`.
use Rattle.std.proofs.Common.{◌≡◌, ℕ, zero, suc, ◌+◌, ◌/◌, ◌%◌, ◌^◌, ◌<◌, ◌≤◌, [], ◌∷◌, ◌++◌, length, take, drop, refl, sym, ap, ◌∙◌, append_assoc, arith, inl, inr, Result, Ok, Err}
use Rattle.std.proofs.lemmas.Bool.{cases_lt}
use Rattle.std.proofs.lemmas.List.{take-append-drop, append-nil}
use Rattle.format_spec.specs.Bytes.{Bytes, leb, leb_within}
use Rattle.format_spec.specs.Fields.{Cursor}
use Rattle.byte_codec.specs.declared.error.LebError.{LebError}
use Rattle.byte_codec.specs.declared.error.LebError.TheVariants.{Short, Long}
use Rattle.byte_codec.specs.Leb.{leb_limit, IsCutLeb, IsNoLeb, ReadsLeb}
use Rattle.byte_codec.proofs.LebSteps.{within_last, within_more}

same_head : (a b : ℕ) (s t : Bytes) → a ∷ s ≡ b ∷ t → (a ≡ b) × (s ≡ t)
same_head a b s t e = (cc, cc)

same_high : (k n m : ℕ) (r t : Bytes) → ((a b : ℕ) → a < leb_limit k → b < leb_limit k → leb_within k a ++ r ≡ leb_within k b ++ t → a ≡ b)
    → n < leb_limit (suc k) → m < leb_limit (suc k) → 128 ≤ n → 128 ≤ m → n % 128 + 128 ≡ m % 128 + 128 → leb_within k (n / 128) ++ r ≡ leb_within k (m / 128) ++ t → n ≡ m
same_high zero n m r t same small few le le' low rest = absurd (omega arith)
same_high (suc k) n m r t same small few le le' low rest =
    let high : n / 128 ≡ m / 128 = same (n / 128) (m / 128) (omega arith) (omega arith) rest in
    omega arith

-- no spelling begins another
same_number : (k n m : ℕ) (r t : Bytes) → n < leb_limit k → m < leb_limit k → leb_within k n ++ r ≡ leb_within k m ++ t → n ≡ m
same_number zero n m r t small few e = omega arith
same_number (suc k) n m r t small few e =
    elim (cases_lt n 128) [
      | inl lt ↦ elim (cases_lt m 128) [
        | inl lt' ↦ (same_head n m r t (sym (ap (λ (x : Bytes). x ++ r) (within_last k n lt)) ∙ e ∙ ap (λ (x : Bytes). x ++ t) (within_last k m lt'))).0
        | inr le' ↦
            let h : n ≡ m % 128 + 128 = (same_head n (m % 128 + 128) r (leb_within k (m / 128) ++ t) (sym (ap (λ (x : Bytes). x ++ r) (within_last k n lt)) ∙ e ∙ ap (λ (x : Bytes). x ++ t) (within_more k m le'))).0 in
            absurd (omega arith)
      ]
      | inr le ↦ elim (cases_lt m 128) [
        | inl lt' ↦
            let h : n % 128 + 128 ≡ m = (same_head (n % 128 + 128) m (leb_within k (n / 128) ++ r) t (sym (ap (λ (x : Bytes). x ++ r) (within_more k n le)) ∙ e ∙ ap (λ (x : Bytes). x ++ t) (within_last k m lt'))).0 in
            absurd (omega arith)
        | inr le' ↦
            let h = same_head (n % 128 + 128) (m % 128 + 128) (leb_within k (n / 128) ++ r) (leb_within k (m / 128) ++ t) (sym (ap (λ (x : Bytes). x ++ r) (within_more k n le)) ∙ e ∙ ap (λ (x : Bytes). x ++ t) (within_more k m le')) in
            same_high k n m r t (λ a b. same_number k a b r t) small few le le' h.0 h.1
      ]
    ]

behind : (a s t : Bytes) → a ++ s ≡ a ++ t → s ≡ t
behind [] s t e = e
behind (b ∷ a) s t e = behind a s t (same_head b b (a ++ s) (a ++ t) e).1

small_leb : (n : ℕ) → n < 2 ^ 64 → n < leb_limit 10
small_leb n lt = omega arith

leb_is : (n m : ℕ) (r t : Bytes) → n < 2 ^ 64 → m < 2 ^ 64 → leb n ++ r ≡ leb m ++ t → n ≡ m
unfolding leb
leb_is n m r t small few e = same_number 10 n m r t (small_leb n small) (small_leb m few) e

-- a whole spelling in front of a text that is cut inside one
not_cut : (s : Bytes) (n : ℕ) (r : Bytes) → n < 2 ^ 64 → s ≡ leb n ++ r → IsCutLeb s → ⊥
not_cut s n r small is cut =
    let m = cut.0 in
    let more = cut.1 in
    let e : leb m ++ [] ≡ leb n ++ (r ++ more) = append-nil (leb m) ∙ cut.3 ∙ ap (λ (x : Bytes). x ++ more) is ∙ append_assoc (leb n) r more in
    let same : m ≡ n = leb_is m n [] (r ++ more) cut.2 small e in
    let none : [] ≡ r ++ more = behind (leb n) [] (r ++ more) (ap (λ (k : ℕ). leb k ++ []) (sym same) ∙ e) in
    cut.4 (ends r more none)
  where
    ends : (r more : Bytes) → [] ≡ r ++ more → more ≡ []
    ends [] more e = sym e
    ends (b ∷ r) more e = absurd cc

not_both : (s : Bytes) → IsCutLeb s → IsNoLeb s → ⊥
not_both s cut none =
    let k = none.0.0 in
    none.0.2 (
      cut.0,
      drop k s ++ cut.1,
      cut.2,
      cut.3 ∙ ap (λ (x : Bytes). x ++ cut.1) (sym (take-append-drop k s)) ∙ append_assoc (take k s) (drop k s) cut.1,
    )

same_cursor : (c d : Cursor) → c.at ≡ d.at → c.rest ≡ d.rest → c ≡ d
same_cursor c d at rest = λ i. record { at = at i; rest = rest i }

pub one_answer : (old one other : Cursor) (a b : Result ℕ LebError) → ReadsLeb old one a → ReadsLeb old other b → (a ≡ b) × (one ≡ other)
one_answer old one other (Ok n) (Ok m) h g =
    let same : n ≡ m = leb_is n m one.rest other.rest h.0 g.0 (sym h.1 ∙ g.1) in
    let rest : one.rest ≡ other.rest = behind (leb n) one.rest other.rest (sym h.1 ∙ g.1 ∙ ap (λ (k : ℕ). leb k ++ other.rest) (sym same)) in
    (ap (λ (k : ℕ). Ok k) same, same_cursor one other (h.2 ∙ ap (λ (k : ℕ). old.at + length (leb k)) same ∙ sym g.2) rest)
one_answer old one other (Ok n) (Err Short) h g = absurd (not_cut old.rest n one.rest h.0 h.1 g.0)
one_answer old one other (Ok n) (Err Long) h g = absurd (g.0.1 n one.rest h.0 h.1)
one_answer old one other (Err Short) (Ok m) h g = absurd (not_cut old.rest m other.rest g.0 g.1 h.0)
one_answer old one other (Err Short) (Err Short) h g = (refl, h.1 ∙ sym g.1)
one_answer old one other (Err Short) (Err Long) h g = absurd (not_both old.rest h.0 g.0)
one_answer old one other (Err Long) (Ok m) h g = absurd (h.0.1 m other.rest g.0 g.1)
one_answer old one other (Err Long) (Err Short) h g = absurd (not_both old.rest g.0 h.0)
one_answer old one other (Err Long) (Err Long) h g = (refl, h.1 ∙ sym g.1)
