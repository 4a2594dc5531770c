use Rattle.std.proofs.Common.{◌∙◌, sym}
use Rattle.script_text.proofs.Hashes.{no_hash}
use Rattle.script_text.proofs.words.read_hash.Goals as goal

pub returns-in_err-ok : goal.returns-in_err-ok
returns-in_err-ok c = c.from_residual.ensures ∙ no_hash c.args.word.now c.decode_to_slice.new.out c.decode_to_slice.result (sym c.are_hex_digits.ensures ∙ c.if-not-are_hex_digits.false) c.decode_to_slice.ensures.value (sym c.ok.ensures.value ∙ c.in_err-ok.was)
