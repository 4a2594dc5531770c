-- Bytes that are all zeros, run by run.
use Rattle.std.proofs.Common.{◌≡◌, ℕ, zero, suc, ◌+◌, ◌<◌, ◌≤◌, Bool, true, false, ◌&&◌, ◌==◌, [], ◌∷◌, ◌++◌, length, take, get_or, refl, sym, ap, ◌∙◌, ne_eqb, arith}
use Rattle.std.specs.Prelude.{bit_or}
use Rattle.std.proofs.lemmas.List.{take_more, take_all}
use Rattle.std.proofs.lemmas.Nat.{le_or_l}
use Rattle.std.specs.Int.Bits.{or_zero_l}
use Rattle.format_spec.specs.Bytes.{Bytes}
use Rattle.state_spec.specs.Manifest.{is_zeros}

and_assoc : (a b c : Bool) → (a && (b && c)) ≡ ((a && b) && c)
and_assoc true b c = refl
and_assoc false b c = refl

pub zeros_append : (a b : Bytes) → is_zeros (a ++ b) ≡ (is_zeros a && is_zeros b)
unfolding is_zeros
zeros_append [] b = refl
zeros_append (x ∷ a) b = ap (λ (t : Bool). x == 0 && t) (zeros_append a b) ∙ and_assoc (x == 0) (is_zeros a) (is_zeros b)

pub zeros_none : (bytes : Bytes) → length bytes ≡ 0 → is_zeros bytes ≡ true
unfolding is_zeros
zeros_none [] e = refl
zeros_none (x ∷ bytes) e = absurd (omega arith)

or_zero : (a b : ℕ) → (bit_or a b == 0) ≡ (a == 0 && b == 0)
or_zero zero b = ap (λ (n : ℕ). n == 0) (or_zero_l b)
or_zero (suc a) b = go (bit_or (suc a) b) (le_or_l (suc a) b) ∙ ap (λ (t : Bool). t && b == 0) (sym (ne_eqb (suc a) 0 (λ e. omega (arith, e))))
  where
    go : (n : ℕ) → suc a ≤ n → (n == 0) ≡ false
    go zero le = absurd (omega (arith, le))
    go (suc n) le = ne_eqb (suc n) 0 (λ e. omega (arith, e))

and_true : (a : Bool) → (a && true) ≡ a
and_true true = refl
and_true false = refl

-- one byte more
pub joined_more : (run : Bytes) (i all : ℕ) → i < length run → (all == 0) ≡ is_zeros (take i run) → (bit_or all (get_or run i 0) == 0) ≡ is_zeros (take (i + 1) run)
unfolding is_zeros
joined_more run i all lt so_far =
    or_zero all (get_or run i 0) ∙ ap (λ (t : Bool). t && get_or run i 0 == 0) so_far
    ∙ ap (λ (t : Bool). is_zeros (take i run) && t) (sym (and_true (get_or run i 0 == 0)))
    ∙ sym (ap is_zeros (take_more run i 0 lt) ∙ zeros_append (take i run) (get_or run i 0 ∷ []))

pub zeros_of_none : true ≡ is_zeros []
unfolding is_zeros
zeros_of_none = refl

pub joined_all : (run : Bytes) (i all : ℕ) → length run ≤ i → (all == 0) ≡ is_zeros (take i run) → (all == 0) ≡ is_zeros run
joined_all run i all le so_far = so_far ∙ ap is_zeros (take_all i run le)

-- one run more
pub run_more : (left run rest bytes : Bytes) (n : ℕ) → left ≡ run ++ rest → (n == 0) ≡ is_zeros run → (n ≡ 0) → is_zeros left ≡ is_zeros bytes → is_zeros rest ≡ is_zeros bytes
run_more left run rest bytes n split judged none so_far =
    ap (λ (t : Bool). t && is_zeros rest) (sym (ap (λ (k : ℕ). k == 0) none) ∙ judged) ∙ sym (ap is_zeros split ∙ zeros_append run rest) ∙ so_far

pub run_other : (left run rest bytes : Bytes) (n : ℕ) → left ≡ run ++ rest → (n == 0) ≡ is_zeros run → (n == 0) ≡ false → is_zeros left ≡ is_zeros bytes → false ≡ is_zeros bytes
run_other left run rest bytes n split judged some so_far =
    ap (λ (t : Bool). t && is_zeros rest) (sym some ∙ judged) ∙ sym (ap is_zeros split ∙ zeros_append run rest) ∙ so_far
