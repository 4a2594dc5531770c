-- How many elements at the front pass a test, and what stands behind the last element.
use Rattle.std.proofs.Common.{◌≡◌, ℕ, ◌+◌, ◌-◌, ◌<◌, ◌≤◌, Bool, true, false, cond, List, [], ◌∷◌, length, drop, get_or, Some, None, refl, sym, ap, ◌∙◌, ◌==◌, ◌||◌, not, eq-eqb, ne_eqb, arith}
use Rattle.std.specs.Prelude.{slice_get, nat_lt}
use Rattle.std.specs.List.{prefix_len, last_or}
use Rattle.std.proofs.lemmas.List.{drop_more, drop_all}
use Rattle.state_spec.specs.Manifest.{ChunkRow}
use Rattle.state_spec.specs.ManifestText.{is_further}

-- ---- those at the front

module _ {X : Type 0} (p : X → Bool) where
  step : (xs : List X) (i : ℕ) (x : X) → i < length xs → x ≡ get_or xs i x → (b : Bool) → p x ≡ b → prefix_len p (drop i xs) ≡ cond b (1 + prefix_len p (drop (i + 1) xs)) 0
  step xs i x lt is b e =
      ap (prefix_len p) (drop_more xs i x lt)
      ∙ ap (λ (y : X). cond (p y) (1 + prefix_len p (drop (i + 1) xs)) 0) (sym is)
      ∙ ap (λ (t : Bool). cond t (1 + prefix_len p (drop (i + 1) xs)) 0) e

  -- one more that passes
  pub front_more : (xs : List X) (i : ℕ) (x : X) → i < length xs → x ≡ get_or xs i x → p x ≡ true → i + prefix_len p (drop i xs) ≡ prefix_len p xs → i + 1 + prefix_len p (drop (i + 1) xs) ≡ prefix_len p xs
  front_more xs i x lt is good so_far = let e = step xs i x lt is true good in omega (arith, e, so_far)

  -- the first that doesn't
  pub front_ends : (xs : List X) (i : ℕ) (x : X) → i < length xs → x ≡ get_or xs i x → p x ≡ false → i + prefix_len p (drop i xs) ≡ prefix_len p xs → i ≡ prefix_len p xs
  front_ends xs i x lt is bad so_far = let e = step xs i x lt is false bad in omega (arith, e, so_far)

  pub front_all : (xs : List X) (i : ℕ) → i ≤ length xs → length xs ≤ i → i + prefix_len p (drop i xs) ≡ prefix_len p xs → length xs ≡ prefix_len p xs
  front_all xs i within all so_far =
      let e : prefix_len p (drop i xs) ≡ 0 = ap (prefix_len p) (drop_all i xs all) in
      omega (arith, e, so_far, within, all)

-- ---- the last

pub last_get : {X : Type 0} (xs : List X) (x : X) → Some x ≡ slice_get xs (length xs - 1) → last_or None xs ≡ Some x
last_get [] x e = absurd cc
last_get {X = X} (y ∷ ys) x e = let place : length ys ≡ length (y ∷ ys) - 1 = omega arith in go y ys ∙ ap (slice_get (y ∷ ys)) place ∙ sym e
  where
    go : (y : X) (ys : List X) → last_or (Some y) ys ≡ slice_get (y ∷ ys) (length ys)
    go y [] = refl
    go y (z ∷ ys) = go z ys

-- ---- an offset behind a row

pub further_other : (last : ChunkRow) (file offset : ℕ) → (last.file ≡ file → ⊥) → not (last.file == file) ≡ is_further (Some last) file offset
further_other last file offset other =
    let e = ne_eqb last.file file other in
    ap not e ∙ sym (ap (λ (b : Bool). not b || nat_lt last.sum.offset offset) e)

pub further_here : (last : ChunkRow) (file offset : ℕ) → last.file ≡ file → nat_lt last.sum.offset offset ≡ is_further (Some last) file offset
further_here last file offset same = sym (ap (λ (b : Bool). not b || nat_lt last.sum.offset offset) (eq-eqb last.file file same))
