use Rattle.hash_tree.proofs.canisters.push_ids.Given as goal
use Rattle.std.proofs.Common.{drop}
use Rattle.tree_spec.specs.Labelled.{child_trees, canister_children}
use Rattle.sys_state.specs.System.{parts}
use Rattle.hash_tree.specs.Stack.{Pushed}

abbrev pub invariant-loop-i : goal.invariant-loop-i
invariant-loop-i l = Pushed l.initial.branches.items l.branches.items (child_trees (canister_children (parts l.sys.canisters))) (child_trees (canister_children (parts (drop l.i l.sys.canisters))))
