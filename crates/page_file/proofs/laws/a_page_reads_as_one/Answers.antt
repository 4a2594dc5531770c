use Rattle.page_file.proofs.Unique.{read_once}
use Rattle.page_file.proofs.laws.a_page_reads_as_one.Goals as goal

pub returns : goal.returns
returns c = read_once
