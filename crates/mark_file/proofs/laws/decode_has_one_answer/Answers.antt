use Rattle.mark_file.proofs.Once.{decoded_once, both_decoded_once}
use Rattle.mark_file.proofs.laws.decode_has_one_answer.Goals as goal

pub returns-clause-mark : goal.returns-clause-mark
returns-clause-mark c = decoded_once

pub returns-clause-both : goal.returns-clause-both
returns-clause-both c = both_decoded_once
