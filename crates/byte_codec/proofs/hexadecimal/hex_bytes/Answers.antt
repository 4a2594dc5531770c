use Rattle.std.proofs.Common.{◌∙◌, sym}
use Rattle.std.proofs.lemmas.Result.{err_from_is_err_and}
use Rattle.byte_codec.proofs.HexDigits.{text_spelled, refused}
use Rattle.byte_codec.proofs.hexadecimal.hex_bytes.Goals as goal

pub returns-in_err-decode-clause-bad : goal.returns-in_err-decode-clause-bad
returns-in_err-decode-clause-bad c =
    let p = err_from_is_err_and c.from_residual.result c.from_residual.ensures.1 in
    rw (p.1, p.2) (refused c.in_err-decode.field-0.0 c.args.text.now (sym c.are_hex_digits.ensures ∙ c.if-not-are_hex_digits.false) c.in_err-decode.ensures.err).0

pub returns-clause-spelled : goal.returns-clause-spelled
returns-clause-spelled c = rw c.from_vec.ensures (text_spelled c.args.text.now c.in_ok-decode.field-0.items (sym c.are_hex_digits.ensures ∙ c.if-not-are_hex_digits.false) c.in_ok-decode.ensures.ok)
