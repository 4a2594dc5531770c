-- Two memories for each canister, among all of them.
use Rattle.std.proofs.Common.{◌≡◌, ◌≤◌, ◌+◌, ℕ, zero, suc, List, [], ◌∷◌, ◌++◌, length, map, take, drop, refl, ap, arith}
use Rattle.std.specs.List.{insert, remove}
use Rattle.format_spec.specs.Bytes.{Bytes}

pub insert_twice : {V : Type 0} (f : V → Bytes) (xs : List V) (i : ℕ) (x y : V) → i ≤ length xs → f x ≡ [] → f y ≡ []
    → map f (insert (insert xs i x) i y) ≡ take i (map f xs) ++ ([] ∷ [] ∷ drop i (map f xs))
insert_twice f xs zero x y h p q = rw (p, q) refl
insert_twice f [] (suc i) x y h p q = absurd (omega arith)
insert_twice f (z ∷ zs) (suc i) x y h p q = ap (λ t. f z ∷ t) (insert_twice f zs i x y (omega arith) p q)

pub remove_twice : {V : Type 0} (f : V → Bytes) (xs : List V) (i : ℕ) → i + 2 ≤ length xs
    → map f (remove (remove xs i) i) ≡ take i (map f xs) ++ drop 2 (drop i (map f xs))
remove_twice f [] i h = absurd (omega arith)
remove_twice f (x ∷ []) i h = absurd (omega arith)
remove_twice f (x ∷ y ∷ zs) zero h = refl
remove_twice f (x ∷ zs) (suc i) h = ap (λ t. f x ∷ t) (remove_twice f zs i (omega arith))
