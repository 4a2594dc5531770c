use Rattle.byte_codec.proofs.LebAnswers.{one_answer}
use Rattle.byte_codec.proofs.laws.leb_read_has_one_answer.Goals as goal

pub returns : goal.returns
returns c = one_answer
