-- A path read label by label is one field.
use Rattle.std.proofs.Common.{◌≡◌, ℕ, suc, ◌+◌, List, [], ◌∷◌, ◌++◌, drop, Option, Some, None, Ok, Err, refl, sym, ap, ◌∙◌, arith}
use Rattle.std.proofs.lemmas.List.{drop-drop}
use Rattle.format_spec.specs.Bytes.{Bytes}
use Rattle.format_spec.specs.Fields.{Cursor, Form, field, reading_by_rule, any, byte, string8, strings, with_first, form_after}
use Rattle.format_spec.proofs.Readings.{ok_is}
use Rattle.state_spec.specs.SystemText.{path_form}

-- what a form took where a reader stands, and where it then stands
pub record Took {X : Type 0} (form : Form X) (c : Cursor) (x : X) (d : Cursor) : Type 0 where
  pub n : ℕ
  pub found : form c.rest ≡ Some (x, n)
  pub at : d.at ≡ c.at + n
  pub rest : d.rest ≡ drop n c.rest

pub took : {X : Type 0} (form : Form X) (c : Cursor) (x : X) (d : Cursor) → field form any c ≡ Ok (x, d) → Took form c x d
took {X} form c x d read = go (form c.rest) refl read
  where
    go : (o : Option (X × ℕ)) → form c.rest ≡ o → reading_by_rule any o c ≡ Ok (x, d) → Took form c x d
    go None is h = absurd cc
    go (Some v) is h =
        let same : ◌≡◌ {A = X × Cursor} (v.0, record { at = c.at + v.1; rest = drop v.1 c.rest }) (x, d) = ok_is (v.0, record { at = c.at + v.1; rest = drop v.1 c.rest }) (x, d) h in
        record {
          n = v.1;
          found = is ∙ ap (λ (y : X). Some (y, v.1)) (ap (λ (p : X × Cursor). p.0) same);
          at = sym (ap (λ (p : X × Cursor). p.1.at) same);
          rest = sym (ap (λ (p : X × Cursor). p.1.rest) same);
        }

-- labels were read up to here, and so many are left
pub record Begun (left : ℕ) (labels : List Bytes) (c d : Cursor) : Type 0 where
  pub n : ℕ
  pub form : path_form c.rest ≡ with_first n (strings left labels d.rest)
  pub at : d.at ≡ c.at + n
  pub rest : d.rest ≡ drop n c.rest

with_first-twice : {X : Type 0} (m n : ℕ) (o : Option (X × ℕ)) → with_first m (with_first n o) ≡ with_first (m + n) o
with_first-twice m n None = refl
with_first-twice m n (Some v) = ap (λ (k : ℕ). Some (v.0, k)) (omega arith)

pub begun : (count : ℕ) (c d : Cursor) → Took byte c count d → Begun count [] c d
begun count c d t = record {
  n = t.n;
  form = ap (λ (o : Option (ℕ × ℕ)). form_after o (λ n. strings n []) c.rest) t.found ∙ ap (λ (s : Bytes). with_first t.n (strings count [] s)) (sym t.rest);
  at = t.at;
  rest = t.rest;
}

pub one_more : (left : ℕ) (labels : List Bytes) (label : Bytes) (c d e : Cursor) → Begun (suc left) labels c d → Took string8 d label e → Begun left (labels ++ label ∷ []) c e
unfolding strings
one_more left labels label c d e b t = record {
  n = b.n + t.n;
  form = b.form
      ∙ ap (λ (o : Option (Bytes × ℕ)). with_first b.n (form_after o (λ s. strings left (labels ++ s ∷ [])) d.rest)) t.found
      ∙ with_first-twice b.n t.n (strings left (labels ++ label ∷ []) (drop t.n d.rest))
      ∙ ap (λ (s : Bytes). with_first (b.n + t.n) (strings left (labels ++ label ∷ []) s)) (sym t.rest);
  at = omega (arith, b.at, t.at);
  rest = t.rest ∙ ap (drop t.n) b.rest ∙ drop-drop t.n b.n c.rest;
}

-- a label is cut
pub label_cut : (left : ℕ) (labels : List Bytes) (c d : Cursor) → Begun (suc left) labels c d → string8 d.rest ≡ None → field path_form any c ≡ Err c.at
unfolding strings
label_cut left labels c d b cut =
    let none : path_form c.rest ≡ None = b.form ∙ ap (λ (o : Option (Bytes × ℕ)). with_first b.n (form_after o (λ s. strings left (labels ++ s ∷ [])) d.rest)) cut in
    ap (λ (o : Option (List Bytes × ℕ)). reading_by_rule any o c) none

-- all labels were read
pub all_read : (labels : List Bytes) (c d : Cursor) → Begun 0 labels c d → field path_form any c ≡ Ok (labels, d)
unfolding strings
all_read labels c d b =
    let found : path_form c.rest ≡ Some (labels, b.n) = b.form ∙ ap (λ (k : ℕ). Some (labels, k)) (omega arith) in
    ap (λ (o : Option (List Bytes × ℕ)). reading_by_rule any o c) found ∙ (λ i. Ok (labels, record { at = sym b.at i; rest = sym b.rest i }))
