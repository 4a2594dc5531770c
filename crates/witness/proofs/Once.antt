-- A check has one answer.
use Rattle.std.proofs.Common.{◌≡◌, ℕ, List, Result, Ok, Err, refl, sym, ap, ◌∙◌}
use Rattle.format_spec.specs.Bytes.{Bytes}
use Rattle.tree_spec.specs.Tree.{Tree, reconstruct}
use Rattle.tree_spec.specs.Lookup as tree
use Rattle.witness.specs.Answers.{Checks, IsAnswered, answer_of_check}
use Rattle.witness.specs.declared.checking.Checked.{Checked}
use Rattle.witness.specs.declared.checking.Checked.TheVariants.{Found, Absent, Unknown, Error}
use Rattle.witness.specs.declared.error.WitnessError.{WitnessError}
use Rattle.witness.specs.declared.error.WitnessError.TheVariants.{BadWitness, WrongRoot, Memory}

told_once : (a b : Checked) → answer_of_check a ≡ answer_of_check b → a ≡ b
told_once (Found x) (Found y) e = ap Found (cc e)
told_once (Found x) Absent e = absurd cc
told_once (Found x) Unknown e = absurd cc
told_once (Found x) Error e = absurd cc
told_once Absent (Found y) e = absurd cc
told_once Absent Absent e = refl
told_once Absent Unknown e = absurd cc
told_once Absent Error e = absurd cc
told_once Unknown (Found y) e = absurd cc
told_once Unknown Absent e = absurd cc
told_once Unknown Unknown e = refl
told_once Unknown Error e = absurd cc
told_once Error (Found y) e = absurd cc
told_once Error Absent e = absurd cc
told_once Error Unknown e = absurd cc
told_once Error Error e = refl

same_tree : (r : Result Tree ℕ) (t u : Tree) → r ≡ Ok t → r ≡ Ok u → t ≡ u
same_tree r t u p q = cc (p, q)

same_place : (r : Result Tree ℕ) (m n : ℕ) → r ≡ Err m → r ≡ Err n → m ≡ n
same_place r m n p q = cc (p, q)

not_both : (r : Result Tree ℕ) (t : Tree) (n : ℕ) → r ≡ Ok t → r ≡ Err n → ⊥
not_both r t n p q = cc (p, q)

pub check_once : (root text : Bytes) (path : List Bytes) (one other : Result Checked WitnessError) → IsAnswered one → IsAnswered other
    → Checks root text path one → Checks root text path other → one ≡ other
check_once root text path (Ok a) (Ok b) x y p q =
    ap Ok (told_once a b (p.3 ∙ ap (tree.lookup path) (same_tree _ p.0 q.0 p.1 q.1) ∙ sym q.3))
check_once root text path (Ok a) (Err (BadWitness n)) x y p q = absurd (not_both _ p.0 n p.1 q)
check_once root text path (Ok a) (Err (WrongRoot h)) x y p q = absurd (q.3 (q.2 ∙ ap reconstruct (same_tree _ q.0 p.0 q.1 p.1) ∙ p.2))
check_once root text path (Err (BadWitness m)) (Ok b) x y p q = absurd (not_both _ q.0 m q.1 p)
check_once root text path (Err (BadWitness m)) (Err (BadWitness n)) x y p q = ap (λ (k : ℕ). Err (BadWitness k)) (same_place _ m n p q)
check_once root text path (Err (BadWitness m)) (Err (WrongRoot h)) x y p q = absurd (not_both _ q.0 m q.1 p)
check_once root text path (Err (WrongRoot g)) (Ok b) x y p q = absurd (p.3 (p.2 ∙ ap reconstruct (same_tree _ p.0 q.0 p.1 q.1) ∙ q.2))
check_once root text path (Err (WrongRoot g)) (Err (BadWitness n)) x y p q = absurd (not_both _ p.0 n p.1 q)
check_once root text path (Err (WrongRoot g)) (Err (WrongRoot h)) x y p q =
    ap (λ (k : Bytes). Err (WrongRoot k)) (p.2 ∙ ap reconstruct (same_tree _ p.0 q.0 p.1 q.1) ∙ sym q.2)
check_once root text path (Err Memory) other x y p q = absurd x
check_once root text path one (Err Memory) x y p q = absurd y
