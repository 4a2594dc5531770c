use Rattle.std.proofs.Common.{subst, arith}
use Rattle.tree_spec.specs.Labelled.{child_trees, canister_children}
use Rattle.sys_state.specs.System.{parts}
use Rattle.hash_tree.specs.Stack.{Pushed}
use Rattle.hash_tree.proofs.Stacking.{pushed_one, pushed_all}
use Rattle.hash_tree.proofs.Ids.{next_canister, no_canister_left}
use Rattle.hash_tree.proofs.canisters.push_ids.Goals as goal

pub loop-i-preserved : goal.loop-i-preserved
loop-i-preserved c =
    let found = rw c.unwrap.ensures at c.canister_at.ensures in
    let before = subst (Pushed c.args.branches.now.items c.loop-i.branches.items (child_trees (canister_children (parts c.args.sys.now.canisters))))
    (next_canister c.args.sys.now.canisters c.loop-i.i (c.unwrap.result.0.now, c.unwrap.result.1.now) found) c.loop-i.invariant in
    pushed_one _ _ _ _ _ _ c.in_ok-canister_branch.field-0 before c.in_ok-push.ensures.items c.in_ok-canister_branch.ensures

pub returns : goal.returns
returns c =
    pushed_all _ _ _ (subst (Pushed c.args.branches.now.items c.loop-i.branches.items (child_trees (canister_children (parts c.args.sys.now.canisters))))
    (no_canister_left c.args.sys.now.canisters c.loop-i.i (omega arith)) c.loop-i.invariant)
