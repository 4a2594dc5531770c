use Rattle.page_spec.proofs.PageFiles.{page_file_once, by_index}
use Rattle.page_spec.proofs.laws.page_files_one_way.Goals as goal

pub returns-clause-once : goal.returns-clause-once
returns-clause-once c = λ text i j a b p q. page_file_once text i j a b p q

pub returns-clause-by_front : goal.returns-clause-by_front
returns-clause-by_front c = λ text i good front size. by_index text i good front size
