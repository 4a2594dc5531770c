-- A version is 1 or 2.
use Rattle.std.proofs.Common.{◌≡◌, ◌⊎◌, inl, inr, ℕ, ◌≤◌, Bool, true, false, ◌||◌, ◌==◌, refl, sym, ap, ◌∙◌, arith}
use Rattle.std.proofs.lemmas.Bool.{eqb-true, cases_Bool}
use Rattle.format_spec.specs.Versions.{is_version}

pub version_cases : (v : ℕ) → is_version v ≡ true → (v ≡ 1) ⊎ (v ≡ 2)
version_cases v h = elim (cases_Bool (v == 1)) [
  | inl one ↦ inl (eqb-true v 1 one)
  | inr other ↦ inr (eqb-true v 2 (sym (ap (λ (b : Bool). b || v == 2) other) ∙ h))
]

pub version_low : (v : ℕ) → is_version v ≡ true → (1 ≤ v) × (v ≤ 2)
version_low v h = elim (version_cases v h) [ inl e ↦ (omega (arith, e), omega (arith, e)) | inr e ↦ (omega (arith, e), omega (arith, e)) ]
