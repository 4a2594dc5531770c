use Rattle.std.proofs.Common.{ℕ, List, subst, sym, Err, Ok}
use Rattle.std.proofs.lemmas.Result.{err_from_is_err_and}
use Rattle.format_spec.specs.Fields.{Cursor}
use Rattle.byte_codec.specs.Leb.{FindsLeb, ReadsLeb}
use Rattle.byte_codec.proofs.LebSteps.{front_is, front_taken}
use Rattle.byte_codec.proofs.leb128.leb_read.Goals as goal

pub returns-in_err-number : goal.returns-in_err-number
returns-in_err-number c =
    let p = err_from_is_err_and c.from_residual.result c.from_residual.ensures.1 in
    let h : FindsLeb 10 c.args.from.now.rest (Err c.in_err-number.field-0.0) = subst (λ (s : List ℕ). FindsLeb 10 s (Err c.in_err-number.field-0.0)) c.rest.ensures.value c.in_err-number.ensures in
    rw (p.1, p.2) (front_is c.in_err-number.field-0.0 c.args.from.now h)

pub returns : goal.returns
returns c =
    let n = c.in_ok-number.number in
    let size = c.in_ok-number.length in
    let h : FindsLeb 10 c.args.from.now.rest (Ok (n, size)) = subst (λ (s : List ℕ). FindsLeb 10 s (Ok (n, size))) c.rest.ensures.value c.in_ok-number.ensures in
    subst (λ (new : Cursor). ReadsLeb c.args.from.now new (Ok n)) (sym c.skip.ensures) (front_taken n size c.args.from.now h)
