use Rattle.soundness.proofs.SmallTrees.{state_depth}
use Rattle.soundness.proofs.Spelled.{tree_spellable, witness_spellable, witness_depth}
use Rattle.soundness.proofs.laws.witnesses_can_be_spelled.Goals as goal

pub returns-clause-tree : goal.returns-clause-tree
returns-clause-tree c = λ v s good. tree_spellable v s good

pub returns-clause-witness : goal.returns-clause-witness
returns-clause-witness c = λ v s paths good. witness_spellable v s paths good

pub returns-clause-tree_depth : goal.returns-clause-tree_depth
returns-clause-tree_depth c = λ v s good. state_depth v s good

pub returns-clause-witness_depth : goal.returns-clause-witness_depth
returns-clause-witness_depth c = λ v s paths good. witness_depth v s paths good
