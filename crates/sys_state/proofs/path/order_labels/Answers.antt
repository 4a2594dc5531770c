use Rattle.std.proofs.Common.{◌≡◌, ℕ, zero, suc, ◌≤◌, min, List, [], ◌∷◌, length, drop, refl, sym, ◌∙◌, arith}
use Rattle.std.specs.Cmp.Lexicographic.{slice_cmp}
use Rattle.std.specs.Ordering.{nat_cmp}
use Rattle.std.specs.declared.cmp.Ordering.{Ordering}
use Rattle.std.proofs.lemmas.Bool.Decides.{nat_tests}
use Rattle.format_spec.specs.Bytes.{bytes_cmp}
use Rattle.sys_state.proofs.path.order_labels.Goals as goal

shorter : (m n : ℕ) → nat_cmp m n ≡ nat_cmp (suc m) (suc n)
shorter m n = grind (arith, nat_tests)

-- where one list has ended, the lengths decide
ended : {X : Type 0} (R : X → X → Ordering) (xs ys : List X) (n : ℕ) → n ≤ length xs → n ≤ length ys → min (length xs) (length ys) ≤ n → slice_cmp R (drop n xs) (drop n ys) ≡ nat_cmp (length xs) (length ys)
ended R [] [] zero l k m = refl
ended R [] (y ∷ ys) zero l k m = grind (arith, nat_tests)
ended R (x ∷ xs) [] zero l k m = grind (arith, nat_tests)
ended R (x ∷ xs) (y ∷ ys) zero l k m = absurd (omega arith)
ended R [] ys (suc n) l k m = absurd (omega arith)
ended R (x ∷ xs) [] (suc n) l k m = absurd (omega arith)
ended R (x ∷ xs) (y ∷ ys) (suc n) l k m = ended R xs ys n (omega arith) (omega arith) (omega arith) ∙ shorter (length xs) (length ys)

pub returns : goal.returns
returns c = c.cmp.ensures ∙ sym (ended bytes_cmp c.args.a.now c.args.b.now c.loop-i.i (omega arith) (omega arith) (omega arith)) ∙ c.loop-i.invariant
