use Rattle.state_spec.specs.State.{system_of}
use Rattle.soundness.proofs.StateTrees.{state_tree_good}
use Rattle.soundness.proofs.TreeBytes.{state_tree_bytes}
use Rattle.soundness.proofs.laws.state_trees_are_whole.Goals as goal

pub returns-clause-whole : goal.returns-clause-whole
returns-clause-whole c = λ s h. (state_tree_good (system_of s) h.system.ids_ascend).0

pub returns-clause-well_formed : goal.returns-clause-well_formed
returns-clause-well_formed c = λ s h. (state_tree_good (system_of s) h.system.ids_ascend).1

pub returns-clause-bytes : goal.returns-clause-bytes
returns-clause-bytes c = λ s h. state_tree_bytes s h.bytes
