-- A field that was read with no rule, judged by its rule.
use Rattle.std.proofs.Common.{◌≡◌, ℕ, ◌+◌, Bool, true, false, cond, drop, Option, Some, None, Ok, Err, refl, ap, ◌∙◌}
use Rattle.format_spec.specs.Fields.{Cursor, Form, field, reading_by_rule, any}
use Rattle.format_spec.proofs.Readings.{ok_is}

module _ {X : Type 0} (form : Form X) (rule : X → Bool) (c : Cursor) (x : X) (d : Cursor) where
  let_through : (b : Bool) (place : ℕ) (v : X × Cursor) → b ≡ true → cond b (Ok v) (Err place) ≡ Ok v
  let_through b place v e = rw e refl

  keeps : (o : Option (X × ℕ)) → reading_by_rule any o c ≡ Ok (x, d) → rule x ≡ true → reading_by_rule rule o c ≡ Ok (x, d)
  keeps None e good = absurd cc
  keeps (Some v) e good =
      let at : ℕ = c.at + v.1 in
      let same = ok_is (v.0, record { at = at; rest = drop v.1 c.rest }) (x, d) e in
      let good' : rule v.0 ≡ true = ap (λ (p : X × Cursor). rule p.0) same ∙ good in
      let_through (rule v.0) c.at (v.0, record { at = at; rest = drop v.1 c.rest }) good' ∙ ap (λ (p : X × Cursor). Ok p) same

  pub field_keeps : field form any c ≡ Ok (x, d) → rule x ≡ true → field form rule c ≡ Ok (x, d)
  field_keeps e good = keeps (form c.rest) e good

  breaks : (o : Option (X × ℕ)) → reading_by_rule any o c ≡ Ok (x, d) → rule x ≡ false → reading_by_rule rule o c ≡ Err c.at
  breaks None e bad = absurd cc
  breaks (Some v) e bad =
      let at : ℕ = c.at + v.1 in
      let same = ok_is (v.0, record { at = at; rest = drop v.1 c.rest }) (x, d) e in
      let bad' : rule v.0 ≡ false = ap (λ (p : X × Cursor). rule p.0) same ∙ bad in
      rw bad' refl

  pub field_breaks : field form any c ≡ Ok (x, d) → rule x ≡ false → field form rule c ≡ Err c.at
  field_breaks e bad = breaks (form c.rest) e bad
