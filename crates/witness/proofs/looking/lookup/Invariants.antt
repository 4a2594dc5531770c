use Rattle.std.proofs.Common.{◌≡◌, drop}
use Rattle.tree_spec.specs.Lookup.{lookup}
use Rattle.hash_tree.specs.View.{tree_view}
use Rattle.witness.proofs.looking.lookup.Given as goal

abbrev pub invariant-loop-label : goal.invariant-loop-label
invariant-loop-label l = lookup (drop l.label-index l.path) (tree_view l.at) ≡ lookup l.path (tree_view l.tree)
