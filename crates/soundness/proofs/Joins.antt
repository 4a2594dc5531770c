-- Strings by their hashes: equal, or two of them meet.
use Rattle.std.proofs.Common.{◌≡◌, ◌⊎◌, List, [], ◌∷◌, map, refl, inl, inr}
use Rattle.sha2.specs.Sha256.{sha256}
use Rattle.format_spec.proofs.Cuts.{cons_same, heads}
use Rattle.format_spec.specs.Bytes.{Bytes}
use Rattle.soundness.proofs.Strings.{Meet, one_or_meet, first_of_list, behind_first, meet_within}

-- ---- hashes

module _ (w : Bytes → Bytes) (inj : (x y : Bytes) → w x ≡ w y → x ≡ y) where
  each_both : (x y : Bytes) (xs ys : List Bytes) → (w x ≡ w y) ⊎ Meet (w x ∷ map w xs) (w y ∷ map w ys) → (xs ≡ ys) ⊎ Meet (map w xs) (map w ys) → (x ∷ xs ≡ y ∷ ys) ⊎ Meet (w x ∷ map w xs) (w y ∷ map w ys)
  each_both x y xs ys (inr c) q = inr c
  each_both x y xs ys (inl p) (inr c) = inr (meet_within (map w xs) (map w ys) (w x ∷ map w xs) (w y ∷ map w ys) (λ z h. behind_first (w x) (map w xs) z h) (λ z h. behind_first (w y) (map w ys) z h) c)
  each_both x y xs ys (inl p) (inl q) = inl (cons_same x y xs ys (inj x y p) q)

  pub each_or_meet : (xs ys : List Bytes) → map (λ x. sha256 (w x)) xs ≡ map (λ x. sha256 (w x)) ys → (xs ≡ ys) ⊎ Meet (map w xs) (map w ys)
  each_or_meet [] [] e = inl refl
  each_or_meet [] (y ∷ ys) e = absurd cc
  each_or_meet (x ∷ xs) [] e = absurd cc
  each_or_meet (x ∷ xs) (y ∷ ys) e =
      let h = heads (sha256 (w x)) (sha256 (w y)) (map (λ z. sha256 (w z)) xs) (map (λ z. sha256 (w z)) ys) e in
      each_both x y xs ys (one_or_meet (w x) (w y) (w x ∷ map w xs) (w y ∷ map w ys) (first_of_list (w x) (map w xs)) (first_of_list (w y) (map w ys)) h.0) (each_or_meet xs ys h.1)
