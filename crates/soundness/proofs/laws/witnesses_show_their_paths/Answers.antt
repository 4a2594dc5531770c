use Rattle.soundness.proofs.ShownStates.{path_shown, path_hidden}
use Rattle.soundness.proofs.laws.witnesses_show_their_paths.Goals as goal

pub returns-clause-shown : goal.returns-clause-shown
returns-clause-shown c = λ v s ps p good there some h. path_shown v s ps p good there some h

pub returns-clause-hidden : goal.returns-clause-hidden
returns-clause-hidden c = λ v s ps p good there some h. path_hidden v s ps p good there some h
