use Rattle.page_file.proofs.Unique.{open_once}
use Rattle.page_file.proofs.laws.open_has_one_answer.Goals as goal

pub returns : goal.returns
returns c = open_once
