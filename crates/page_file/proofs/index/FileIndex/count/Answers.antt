use Rattle.std.proofs.Common.{subst}
use Rattle.page_spec.specs.PageFile.{IsIndex}
use Rattle.page_file.proofs.Kept.{is_index}
use Rattle.page_file.proofs.index.FileIndex.count.Goals as goal

pub returns-clause-index : goal.returns-clause-index
returns-clause-index c = subst IsIndex c.self.view_is (is_index c.self.inside c.self.invariant)
