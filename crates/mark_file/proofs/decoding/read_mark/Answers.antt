use Rattle.std.proofs.lemmas.Result.{err_from_is_err_and}
use Rattle.mark_file.specs.Spells.{SpellsBoth}
use Rattle.mark_file.proofs.Wholes.{stops_at_hash, from_body}
use Rattle.mark_file.proofs.decoding.read_mark.Goals as goal

pub returns-in_err-body : goal.returns-in_err-body
returns-in_err-body c =
    let p = err_from_is_err_and c.from_residual.result c.from_residual.ensures.1 in
    rw (p.1, p.2)
    (stops_at_hash (SpellsBoth c.args.height c.args.bytes.now) c.args.height c.args.bytes.now c.in_err-body.field-0.0 c.in_err-body.ensures)

pub returns : goal.returns
returns c = from_body c.args.height c.args.bytes.now c.in_ok-body.body.now c.in_ok-body.ensures c.read_body.result c.read_body.ensures
