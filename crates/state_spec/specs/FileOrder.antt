-- The order of the memories among the files of a state: two for each canister in turn, its heap and its stable memory.
use Rattle.std.specs.Prelude.{List, [], ◌∷◌}
use Rattle.std.specs.List.{flat_map}

-- two things for each element, in turn
abbrev pub in_turn : {A B : Type 0} → (A → B) → (A → B) → List A → List B
in_turn first second xs = flat_map (λ x. first x ∷ second x ∷ []) xs
