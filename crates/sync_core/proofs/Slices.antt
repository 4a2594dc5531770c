-- A vector whose elements were lent as a slice, and are put back.
use Rattle.std.proofs.Common.{◌≡◌, ℕ, ◌≤◌, List, ◌++◌, length, take, drop, ap, ◌∙◌, arith}
use Rattle.std.proofs.lemmas.List.{append-nil, drop_all, take_all}

pub put_back : {X : Type 0} (n : ℕ) (now items old : List X) → old ≡ items → length old ≡ n → length now ≡ length old → take n (now ++ drop (length now) items) ≡ now
put_back {X} n now items old value len same =
    let l = ap (λ (xs : List X). length xs) value in
    let e : length items ≤ length now = omega (arith, l, same) in
    let f : length now ≤ n = omega (arith, len, same) in
    ap (λ (xs : List X). take n (now ++ xs)) (drop_all (length now) items e) ∙ ap (λ (xs : List X). take n xs) (append-nil now) ∙ take_all n now f
