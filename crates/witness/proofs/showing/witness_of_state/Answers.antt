use Rattle.std.proofs.Common.{sym, ap, subst, ◌∙◌}
use Rattle.hash_tree.specs.Hashes.{AreHashesOf}
use Rattle.hash_tree.specs.View.{tree_view}
use Rattle.witness.proofs.showing.witness_of_state.Goals as goal

pub shown-requires : goal.shown-requires
shown-requires c = subst (λ t. AreHashesOf c.hashes.result.now (tree_view t)) (sym c.tree.ensures) c.hashes.ensures

pub returns : goal.returns
returns c = λ v s good is. c.shown.ensures v s good (ap tree_view c.tree.ensures ∙ is)
