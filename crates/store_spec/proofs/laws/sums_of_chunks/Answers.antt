use Rattle.store_spec.proofs.TrueSums.{true_first, true_tells, told_true, true_counts}
use Rattle.store_spec.proofs.laws.sums_of_chunks.Goals as goal

pub returns-clause-first : goal.returns-clause-first
returns-clause-first c = true_first

pub returns-clause-second : goal.returns-clause-second
returns-clause-second c = true_tells

pub returns-clause-only : goal.returns-clause-only
returns-clause-only c = told_true

pub returns-clause-counts : goal.returns-clause-counts
returns-clause-counts c = true_counts
