use Rattle.manifest_incr.proofs.Kept.{rest_kept}
use Rattle.manifest_incr.proofs.laws.the_other_sums_are_those_of_the_memory.Goals as goal

pub returns : goal.returns
returns c = rest_kept
