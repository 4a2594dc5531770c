use Rattle.std.proofs.Common.{◌≡◌, ◌-◌, ℕ, suc, length, drop, arith, subst, sym, Err, Ok, List}
use Rattle.std.proofs.lemmas.Bool.{eqb-true}
use Rattle.std.proofs.lemmas.Result.{err_from_is_err_and}
use Rattle.byte_codec.specs.declared.error.LebError.TheVariants.{Long}
use Rattle.byte_codec.specs.Leb.{FindsLeb}
use Rattle.byte_codec.proofs.LebSteps.{front_ends, front_zero, front_refused, tail_is, some_left}
use Rattle.byte_codec.proofs.leb128.+leb_front.Goals as goal

pub returns-then-is_empty : goal.returns-then-is_empty
returns-then-is_empty t c = front_ends c.args.room c.args.bytes.now c.requires.some (eqb-true (length c.args.bytes.now) 0 (sym c.if-is_empty.ensures))

pub returns-in_err-high : goal.returns-in_err-high
returns-in_err-high t c =
    let s = c.args.bytes.now in
    let p = err_from_is_err_and c.from_residual.result c.from_residual.ensures.1 in
    let k : c.args.room ≡ suc (c.args.room - 1) = omega arith in
    let h : FindsLeb (c.args.room - 1) (drop 1 s) (Err c.in_err-high.field-0.0) = subst (λ (x : List ℕ). FindsLeb (c.args.room - 1) x (Err c.in_err-high.field-0.0)) (tail_is s) c.in_err-high.ensures in
    rw (p.1, p.2) (subst (λ (r : ℕ). FindsLeb r s (Err c.in_err-high.field-0.0)) (sym k) (front_refused c.in_err-high.field-0.0 (c.args.room - 1) s (omega arith) (some_left s (sym c.if-is_empty.ensures)) c.if-low-lt128.false (omega (arith, c.type_inv.bytes 0)) h))

pub returns-then-high-eq0 : goal.returns-then-high-eq0
returns-then-high-eq0 t c =
    let s = c.args.bytes.now in
    let k : c.args.room ≡ suc (c.args.room - 1) = omega arith in
    let h : FindsLeb (c.args.room - 1) (drop 1 s) (Ok (c.in_ok-high.high, c.in_ok-high.length)) = subst (λ (x : List ℕ). FindsLeb (c.args.room - 1) x (Ok (c.in_ok-high.high, c.in_ok-high.length))) (tail_is s) c.in_ok-high.ensures in
    let z : FindsLeb (c.args.room - 1) (drop 1 s) (Ok (0, c.in_ok-high.length)) = subst (λ (n : ℕ). FindsLeb (c.args.room - 1) (drop 1 s) (Ok (n, c.in_ok-high.length))) c.if-high-eq0.true h in
    subst (λ (r : ℕ). FindsLeb r s (Err Long)) (sym k) (front_zero (c.args.room - 1) c.in_ok-high.length s (omega arith) (some_left s (sym c.if-is_empty.ensures)) c.if-low-lt128.false z)
