use Rattle.std.proofs.Common.{◌≡◌, ℕ, Result, Ok, Err, ap, sym, ◌∙◌}
use Rattle.format_spec.specs.Bytes.{Bytes, bytes_cmp}
use Rattle.state_spec.specs.Places.{Places}
use Rattle.sys_state.specs.System.{System}
use Rattle.sys_state.proofs.laws.an_id_has_one_place.Goals as goal

one_place : (s : System) (id : Bytes) (a b : Result ℕ ℕ) → Places bytes_cmp id s.canisters a → Places bytes_cmp id s.canisters b → a ≡ b
one_place s id (Ok i) (Ok j) h g = ap (λ (n : ℕ). Ok n) (sym h.place ∙ g.place)
one_place s id (Ok i) (Err j) h g = absurd (let none = sym h.found ∙ g.found in cc)
one_place s id (Err i) (Ok j) h g = absurd (let none = sym h.found ∙ g.found in cc)
one_place s id (Err i) (Err j) h g = ap (λ (n : ℕ). Err n) (sym h.place ∙ g.place)

pub returns : goal.returns
returns c = one_place
