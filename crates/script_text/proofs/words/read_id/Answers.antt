use Rattle.std.proofs.Common.{◌∙◌, sym, arith}
use Rattle.script_text.proofs.Ids.{id_is, long_id}
use Rattle.script_text.proofs.words.read_id.Goals as goal

pub returns-then-count-gt-MAX_ID : goal.returns-then-count-gt-MAX_ID
returns-then-count-gt-MAX_ID c = long_id c.args.word.now (omega arith)

pub returns : goal.returns
returns c = id_is c.args.word.now c.decode_to_slice.new.out _ c.decode_to_slice.result c.new.result (sym c.are_hex_digits.ensures ∙ c.if-not-are_hex_digits.false) c.decode_to_slice.ensures.value (sym c.ok.ensures.value ∙ c.in_ok-ok.was) c.new.ensures
