use Rattle.std.proofs.Common.{refl, arith}
use Rattle.tree_spec.specs.Computing.{trees_compute}
use Rattle.soundness.proofs.premises.numbers_above_bytes_share_a_hash.Goals as goal

pub returns-clause-one_hash : goal.returns-clause-one_hash
unfolding trees_compute
returns-clause-one_hash c = refl

pub returns-clause-no_bytes : goal.returns-clause-no_bytes
returns-clause-no_bytes c = λ h. absurd (omega (arith, h 2))
