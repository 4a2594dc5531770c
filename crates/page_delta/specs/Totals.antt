-- Sums over places, of which each has something or nothing.
use Rattle.std.specs.Prelude.{ℕ, ◌+◌, List, [], ◌∷◌, Option}

-- the weights of all places together
abbrev pub total : {X : Type 0} → (Option X → ℕ) → List (Option X) → ℕ
total weight [] = 0
total weight (place ∷ rest) = weight place + total weight rest
