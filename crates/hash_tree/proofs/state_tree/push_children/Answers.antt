use Rattle.std.proofs.Common.{codes, ap, sym, subst, ◌∙◌, arith}
use Rattle.format_spec.specs.Bytes.{Bytes, leb}
use Rattle.tree_spec.specs.Tree.{labeled, leaf}
use Rattle.tree_spec.specs.Labelled.{child_trees, entry_children, root_children}
use Rattle.sys_state.specs.System.{part_of}
use Rattle.hash_tree.specs.Stack.{Pushes}
use Rattle.hash_tree.specs.Levels.{level}
use Rattle.hash_tree.proofs.Stacking.{ok_then, pushes_then, pushes_one}
use Rattle.hash_tree.proofs.Levelling.{level_within, free_of_canister, free_of_time}
use Rattle.hash_tree.proofs.Growing.{state_trees}
use Rattle.hash_tree.proofs.state_tree.push_children.Goals as goal

pub first_above-canisters-requires-clause-free : goal.first_above-canisters-requires-clause-free
first_above-canisters-requires-clause-free c = free_of_canister c.args.sys.now c.entries-entries.ensures.kept

pub first_above-time-requires-clause-free : goal.first_above-time-requires-clause-free
first_above-time-requires-clause-free c = free_of_time c.args.sys.now c.entries-entries.ensures.kept

pub push_level-requires-clause-level : goal.push_level-requires-clause-level
push_level-requires-clause-level c = level_within c.args.sys.now 0 _ c.entries-entries.ensures.kept (omega arith) c.first_above-canisters.ensures.within

pub push_level-requires-2-clause-level : goal.push_level-requires-2-clause-level
push_level-requires-2-clause-level c = level_within c.args.sys.now _ _ c.entries-entries.ensures.kept c.first_above-time.ensures.later c.first_above-time.ensures.within

pub push_level-requires-3-clause-level : goal.push_level-requires-3-clause-level
push_level-requires-3-clause-level c = level_within c.args.sys.now _ _ c.entries-entries.ensures.kept (omega arith) (omega arith)

pub returns : goal.returns
returns c =
    let time = c.in_ok-leaf_under.ensures ∙ ap (λ (b : Bytes). labeled (codes "time") (leaf b)) (c.in_ok-leb_of.ensures ∙ ap leb c.time.ensures) in
    ok_then c.push_level-3.result _ (λ _. Pushes c.args.branches.now.items c.push_level-3.new.branches.items (child_trees (root_children (part_of c.args.sys.now)))) c.push_level-3.ensures
    (λ _ last. subst (Pushes c.args.branches.now.items c.push_level-3.new.branches.items)
    (sym (state_trees c.args.sys.now _ _ c.first_above-canisters.ensures c.first_above-time.ensures))
    (pushes_then _ _ _ _ _ c.in_ok-push_level.ensures
    (pushes_then _ _ _ _ _ c.in_ok-push_canisters.ensures
    (pushes_then _ _ _ _ _ c.in_ok-push_level-2.ensures
    (pushes_then _ _ _ _ _ (pushes_one _ _ c.in_ok-leaf_under.field-0 _ c.in_ok-push.ensures.items time)
    (subst (λ n. Pushes c.push.new.self.items c.push_level-3.new.branches.items (child_trees (entry_children (level 0 c.first_above-time.result n c.args.sys.now.entries)))) c.entries-entries.ensures.count last))))))
