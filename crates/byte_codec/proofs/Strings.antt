-- A string behind its length in four bytes.
use Rattle.std.proofs.Common.{◌≡◌, ℕ, ◌+◌, ◌-◌, ◌≤◌, length, take, drop, refl, ap, ◌∙◌, arith, Ok, Some}
use Rattle.std.specs.Int.{w32, from_be_bytes}
use Rattle.std.proofs.lemmas.Bool.{le-ltb}
use Rattle.std.proofs.lemmas.List.{length-drop, drop-drop}
use Rattle.format_spec.specs.Bytes.{Bytes}
use Rattle.format_spec.specs.Fields.{field, string32, any}

string_is : (r : Bytes) (n : ℕ) → n ≡ from_be_bytes w32 (take 4 r) → 4 ≤ length r → n ≤ length r - 4 → string32 r ≡ Some (take n (drop 4 r), 4 + n)
string_is r n number long fits = rw (le-ltb (length r) 4 long, ← number, le-ltb (length (drop 4 r)) n (omega (arith, length-drop 4 r))) refl

pub string_there : (s : Bytes) (at n : ℕ) (front : Bytes) → n ≡ from_be_bytes w32 front → front ≡ take (at + 4 - at) (drop at s) → 4 ≤ length s - at → n ≤ length s - at - 4
    → field string32 (any {X = Bytes}) (record { at = at; rest = drop at s }) ≡ Ok (take n (drop (at + 4) s), record { at = at + (4 + n); rest = drop (at + (4 + n)) s })
string_there s at n front number front-is long fits =
    let four : at + 4 - at ≡ 4 = omega arith in
    let here : n ≡ from_be_bytes w32 (take 4 (drop at s)) = number ∙ ap (from_be_bytes w32) (front-is ∙ ap (λ (k : ℕ). take k (drop at s)) four) in
    let read = string_is (drop at s) n here (omega (arith, length-drop at s)) (omega (arith, length-drop at s)) in
    rw (read, drop-drop 4 at s, drop-drop (4 + n) at s) refl
