-- Where a key stands among entries in ascending order, by what is found of it.
use Rattle.std.proofs.Common.{◌≡◌, ℕ, Bool, true, false, cond, List, [], ◌∷◌, ◌++◌, length, Some, None, refl, sym, ap, subst}
use Rattle.std.proofs.lemmas.Bool.{and_parts}
use Rattle.std.specs.Cmp.{IsTotalOrder, Equal-is}
use Rattle.std.specs.FinMap.{find, is_sorted, IsAntisymmetric}
use Rattle.std.specs.FinMap.Entries.{below_all}
use Rattle.std.specs.List.{AllByRecursion}
use Rattle.std.specs.Ordering.{eq_by_cmp, is_eq}
use Rattle.std.specs.declared.cmp.Ordering.{Ordering}
use Rattle.std.specs.declared.cmp.Ordering.TheVariants.{Less, Equal, Greater}
use Rattle.state_spec.specs.Places.{Stands, IsAbsent}
use Rattle.state_spec.proofs.Places.{above_from_sorted, absent, less_from_greater, parted, stands}
use Rattle.format_spec.proofs.Lists.{all_weaker}
use Rattle.std.proofs.lemmas.Option.{same_Some}

-- the first entry of a key
pub record Found {K X : Type 0} (key : K) (value : X) (es : List (K × X)) : Type 0 where
  pub before : List (K × X)
  pub after : List (K × X)
  pub split : es ≡ before ++ (key, value) ∷ after

-- the place of a key that no entry has
record Parted {K X : Type 0} (R : K → K → Ordering) (key : K) (es : List (K × X)) : Type 0 where
  before : List (K × X)
  after : List (K × X)
  split : es ≡ before ++ after
  lower : AllByRecursion (λ e. R e.0 key ≡ Less) before
  higher : AllByRecursion (λ e. R key e.0 ≡ Less) after

module _ {K X : Type 0} (R : K → K → Ordering) (same : IsAntisymmetric R) (key : K) (value : X) where
  pub found : (es : List (K × X)) → find R key es ≡ Some value → Found key value es
  found [] e = absurd cc
  found (d ∷ es) e = by (eq_by_cmp R key d.0) refl (found es) e
    where
      by : (b : Bool) → eq_by_cmp R key d.0 ≡ b → (find R key es ≡ Some value → Found key value es) → cond b (Some d.1) (find R key es) ≡ Some value → Found key value (d ∷ es)
      by true is rest e =
          let k : d.0 ≡ key = sym (same key d.0 ((Equal-is (R key d.0)).0 is)) in
          let v : d.1 ≡ value = same_Some d.1 value e in
          record { before = []; after = es; split = λ i. (k i, v i) ∷ es }
      by false is rest e = let f = rest e in record { before = d ∷ f.before; after = f.after; split = ap (λ (l : List (K × X)). d ∷ l) f.split }

module _ {K X : Type 0} (R : K → K → Ordering) (o : IsTotalOrder R) (same : IsAntisymmetric R) (key : K) where
  pub stands_there : (value : X) (es : List (K × X)) → is_sorted R es ≡ true → find R key es ≡ Some value → (i : ℕ) × Stands R key es i
  stands_there value es sorted e =
      let f : Found key value es = found R same key value es e in
      let apart = parted R o f.before (key, value) f.after (subst (λ (l : List (K × X)). is_sorted R l ≡ true) f.split sorted) in
      (length f.before, subst (λ (l : List (K × X)). Stands R key l (length f.before)) (sym f.split) (stands R o key f.before value f.after (length f.before) refl apart.0 apart.1))

  missing : (es : List (K × X)) → is_sorted R es ≡ true → find R key es ≡ None → Parted R key es
  missing [] sorted e = record { before = []; after = []; split = refl; lower = tt; higher = tt }
  missing (d ∷ es) sorted e = by (R key d.0) refl (missing es (and_parts (below_all R d.0 es) (is_sorted R es) sorted).1) e
    where
      by : (r : Ordering) → R key d.0 ≡ r → (find R key es ≡ None → Parted R key es) → cond (is_eq r) (Some d.1) (find R key es) ≡ None → Parted R key (d ∷ es)
      by Less is rest e = record {
        before = [];
        after = d ∷ es;
        split = refl;
        lower = tt;
        higher = (is, all_weaker (λ (x : K × X). R d.0 x.0 ≡ Less) (λ (x : K × X). R key x.0 ≡ Less) (λ x lt. o.trans key d.0 x.0 is lt) es (above_from_sorted R o d.0 es (and_parts (below_all R d.0 es) (is_sorted R es) sorted).0));
      }
      by Equal is rest e = absurd cc
      by Greater is rest e =
          let p = rest e in
          record { before = d ∷ p.before; after = p.after; split = ap (λ (l : List (K × X)). d ∷ l) p.split; lower = (less_from_greater R o key d.0 is, p.lower); higher = p.higher }

  pub absent_there : (es : List (K × X)) → is_sorted R es ≡ true → find R key es ≡ None → (i : ℕ) × IsAbsent R key es i
  absent_there es sorted e =
      let p = missing es sorted e in
      (length p.before, subst (λ (l : List (K × X)). IsAbsent R key l (length p.before)) (sym p.split) (absent R o key p.before p.after (length p.before) refl p.lower p.higher))
