-- What is left of paths, one by one.
use Rattle.std.proofs.Common.{◌≡◌, ℕ, zero, suc, ◌+◌, ◌-◌, ◌<◌, Bool, true, false, cond, List, [], ◌∷◌, ◌++◌, length, take, drop, map, get_or, Option, Some, None, refl, sym, ap, ◌∙◌, arith}
use Rattle.std.specs.List.{cons_option}
use Rattle.std.proofs.lemmas.Bool.{or_left, or_right}
use Rattle.std.proofs.lemmas.List.{map-append, append-nil, take_more, take_all, length-drop}
use Rattle.std.proofs.lemmas.List.Elements.{filter-append, filter_map-append}
use Rattle.format_spec.specs.Bytes.{Bytes, same_bytes}
use Rattle.tree_spec.specs.Witness.{rest_behind, rests, is_some_path, going_on, first_label, is_it, begins_some}
use Rattle.witness.specs.Parts.{goes_on, is_some_rest}

module _ {X : Type 0} (now : X → List Bytes) (l : Bytes) where
  pub some_begins : (xs : List X) (i : ℕ) (x : X) → i < length xs → x ≡ get_or xs i x → is_it l (first_label (now x)) ≡ true → begins_some l (map now xs) ≡ true
  some_begins [] i x lt there h = absurd (omega arith)
  some_begins (y ∷ ys) zero x lt there h =
      or_left (is_it l (first_label (now y))) (begins_some l (map now ys)) (ap (λ (z : X). is_it l (first_label (now z))) (sym there) ∙ h)
  some_begins (y ∷ ys) (suc i) x lt there h =
      or_right (is_it l (first_label (now y))) (begins_some l (map now ys)) (some_begins ys i x (omega arith) there h)

abbrev pub one_rest : Bytes → List Bytes → List (List Bytes)
one_rest l p = cond (goes_on l p) (drop 1 p ∷ []) []

one_is : (l : Bytes) (p : List Bytes) → going_on (rests l (p ∷ [])) ≡ one_rest l p
one_is l [] = refl
one_is l (k ∷ p) = by (same_bytes k l) p
  where
    by : (b : Bool) (q : List Bytes)
        → going_on (cons_option (elim b as (λ x. Option (List Bytes)) [ true ↦ Some q | false ↦ None ]) [])
        ≡ cond (is_some_rest (elim b as (λ x. Option (List Bytes)) [ true ↦ Some q | false ↦ None ])) (q ∷ []) []
    by true [] = refl
    by true (j ∷ q) = refl
    by false q = refl

pub rests_more : {X : Type 0} (now : X → List Bytes) (l : Bytes) (xs : List X) (i : ℕ) (x : X) → i < length xs → x ≡ get_or xs i x
    → going_on (rests l (map now (take (i + 1) xs))) ≡ going_on (rests l (map now (take i xs))) ++ one_rest l (now x)
rests_more now l xs i x lt there =
    let before : List (List Bytes) = map now (take i xs) in
    ap (λ ys. going_on (rests l (map now ys))) (take_more xs i x lt ∙ ap (λ y. take i xs ++ y ∷ []) (sym there))
    ∙ ap (λ ps. going_on (rests l ps)) (map-append now (take i xs) (x ∷ []))
    ∙ ap going_on (filter_map-append (rest_behind l) before (now x ∷ []))
    ∙ filter-append is_some_path (rests l before) (rests l (now x ∷ []))
    ∙ ap (λ r. going_on (rests l before) ++ r) (one_is l (now x))

pub all_behind : (p : List Bytes) → take (length p - 1) (drop 1 p) ≡ drop 1 p
all_behind p = take_all (length p - 1) (drop 1 p) (omega (arith, length-drop 1 p))

-- one that goes on is kept without its first label
pub one_more : {X : Type 0} (now : X → List Bytes) (l : Bytes) (kept more : List X) (x y : X) (old : List (List Bytes)) → map now kept ≡ old → more ≡ kept ++ y ∷ []
    → goes_on l (now x) ≡ true → now y ≡ drop 1 (now x) → map now more ≡ old ++ one_rest l (now x)
one_more now l kept more x y old so is longer same =
    ap (map now) is ∙ map-append now kept (y ∷ []) ∙ ap (λ r. r ++ now y ∷ []) so ∙ ap (λ p. old ++ p ∷ []) same
    ∙ ap (λ b. old ++ cond b (drop 1 (now x) ∷ []) []) (sym longer)

pub none_more : {X : Type 0} (now : X → List Bytes) (l : Bytes) (kept more : List X) (x : X) (old : List (List Bytes)) → map now kept ≡ old → more ≡ kept
    → goes_on l (now x) ≡ false → map now more ≡ old ++ one_rest l (now x)
none_more now l kept more x old so is stops =
    ap (map now) is ∙ so ∙ sym (append-nil old) ∙ ap (λ b. old ++ cond b (drop 1 (now x) ∷ []) []) (sym stops)
