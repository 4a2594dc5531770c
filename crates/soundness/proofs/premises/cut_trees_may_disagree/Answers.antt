use Rattle.std.proofs.Common.{refl}
use Rattle.tree_spec.specs.Tree.{reconstruct, hashed_strings, is_well_formed}
use Rattle.tree_spec.specs.Lookup.{lookup}
use Rattle.tree_spec.specs.Computing.{trees_compute}
use Rattle.soundness.specs.Samples.{only_a, only_b}
use Rattle.soundness.proofs.Apart.{no_clash}
use Rattle.soundness.proofs.premises.cut_trees_may_disagree.Goals as goal

pub returns-clause-well_formed : goal.returns-clause-well_formed
unfolding is_well_formed
returns-clause-well_formed c = (refl, refl)

pub returns-clause-one_hash : goal.returns-clause-one_hash
unfolding reconstruct
returns-clause-one_hash c = refl

pub returns-clause-without : goal.returns-clause-without
unfolding lookup
returns-clause-without c = refl

pub returns-clause-there : goal.returns-clause-there
unfolding lookup
returns-clause-there c = refl

pub returns-clause-no_clash : goal.returns-clause-no_clash
unfolding trees_compute
returns-clause-no_clash c = no_clash (hashed_strings only_b) (hashed_strings only_a) refl
