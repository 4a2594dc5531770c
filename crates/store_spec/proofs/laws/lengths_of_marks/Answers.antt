use Rattle.store_spec.proofs.MarkLengths.{mark_long, mark_bounded}
use Rattle.store_spec.proofs.laws.lengths_of_marks.Goals as goal

pub returns-clause-length : goal.returns-clause-length
returns-clause-length c = mark_long

pub returns-clause-most : goal.returns-clause-most
returns-clause-most c = mark_bounded
