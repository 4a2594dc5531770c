use Rattle.std.proofs.Common.{◌≡◌, ◌∷◌, ◌++◌, [], length, ap, ◌∙◌, arith}
use Rattle.format_spec.specs.Bytes.{Bytes}
use Rattle.tree_spec.specs.Tree.{labeled, leaf}
use Rattle.tree_spec.specs.Labelled.{child_trees, entry_children}
use Rattle.hash_tree.specs.Levels.{level}
use Rattle.hash_tree.specs.View.{tree_view}
use Rattle.hash_tree.proofs.Putting.{Entry}
use Rattle.hash_tree.proofs.Stacking.{ok_then, takes_pushed}
use Rattle.hash_tree.proofs.Growing.{at_depth, ends_here, goes_further, leaf_group, node_group, node_level, group_level, walked_more}
use Rattle.hash_tree.proofs.entries.+levels.Goals as goal

pub label_branch-offset_bounds-labels-depth : goal.label_branch-offset_bounds-labels-depth
label_branch-offset_bounds-labels-depth t c =
    let e : Entry = (c.unwrap.result.0.now, c.unwrap.result.1.now) in
    let found = rw c.unwrap.ensures at c.entry.ensures in
    let at = at_depth c.args.depth c.args.from c.args.to _ e c.requires.some found c.requires.level c.labels-labels.ensures.path in
    omega (arith, at.deep, at.few)

pub label_branch-bounds-labels-depth : goal.label_branch-bounds-labels-depth
label_branch-bounds-labels-depth t c =
    let e : Entry = (c.unwrap.result.0.now, c.unwrap.result.1.now) in
    let found = rw c.unwrap.ensures at c.entry.ensures in
    let at = at_depth c.args.depth c.args.from c.args.to _ e c.requires.some found c.requires.level c.labels-labels.ensures.path in
    omega (arith, at.deep, at.few, ap length c.labels-labels.ensures.value)

pub label_branch-overflow_add-depth : goal.label_branch-overflow_add-depth
label_branch-overflow_add-depth t c =
    let e : Entry = (c.unwrap.result.0.now, c.unwrap.result.1.now) in
    let found = rw c.unwrap.ensures at c.entry.ensures in
    let at = at_depth c.args.depth c.args.from c.args.to _ e c.requires.some found c.requires.level c.labels-labels.ensures.path in
    omega (arith, at.deep, at.few)

pub label_branch-returns-then-labels-depth-clause-tree : goal.label_branch-returns-then-labels-depth-clause-tree
label_branch-returns-then-labels-depth-clause-tree t c =
    let e : Entry = (c.unwrap.result.0.now, c.unwrap.result.1.now) in
    let found = rw c.unwrap.ensures at c.entry.ensures in
    let at = at_depth c.args.depth c.args.from c.args.to _ e c.requires.some found c.requires.level c.labels-labels.ensures.path in
    let l : Bytes = c.index-labels-depth.result in
    let begins = ends_here e.0 _ c.args.depth l c.labels-labels.ensures.value at.deep c.index-labels-depth.is c.if-labels-depth.true in
    let label = ap (λ (k : Bytes). labeled k (tree_view c.leaf.result)) c.in_ok-label.ensures in
    let value = ap (labeled l) (c.leaf.ensures ∙ ap leaf c.in_ok-copy.ensures) in
    ok_then c.under.result _ (λ b. child_trees (entry_children (level c.args.depth c.args.from c.args.to c.args.sys.now.entries)) ≡ tree_view b ∷ []) c.under.ensures
    (λ b is. leaf_group c.args.depth c.args.from c.args.to _ e l (tree_view b) c.requires.some found c.requires.level c.requires.group begins (is ∙ label ∙ value))

pub label_branch-overflow_add-depth-2 : goal.label_branch-overflow_add-depth-2
label_branch-overflow_add-depth-2 t c =
    let e : Entry = (c.unwrap.result.0.now, c.unwrap.result.1.now) in
    let found = rw c.unwrap.ensures at c.entry.ensures in
    let at = at_depth c.args.depth c.args.from c.args.to _ e c.requires.some found c.requires.level c.labels-labels.ensures.path in
    omega (arith, at.deep, at.few)

pub label_branch-push_level-requires : goal.label_branch-push_level-requires
label_branch-push_level-requires t c =
    let e : Entry = (c.unwrap.result.0.now, c.unwrap.result.1.now) in
    let found = rw c.unwrap.ensures at c.entry.ensures in
    let at = at_depth c.args.depth c.args.from c.args.to _ e c.requires.some found c.requires.level c.labels-labels.ensures.path in
    let l : Bytes = c.index-labels-depth.result in
    let more = goes_further e.0 _ c.args.depth l c.labels-labels.ensures.value at.deep c.index-labels-depth.is c.if-labels-depth.false in
    let rests = node_level c.args.depth c.args.from c.args.to _ e l more.next more.rest c.requires.some found c.requires.level c.requires.group more.begins in
    (omega (arith, at.deep, at.few, ap length c.labels-labels.ensures.value, c.if-labels-depth.false), (omega arith, (c.requires.within, rests)))

pub label_branch-returns-clause-tree : goal.label_branch-returns-clause-tree
label_branch-returns-clause-tree t c =
    let e : Entry = (c.unwrap.result.0.now, c.unwrap.result.1.now) in
    let found = rw c.unwrap.ensures at c.entry.ensures in
    let at = at_depth c.args.depth c.args.from c.args.to _ e c.requires.some found c.requires.level c.labels-labels.ensures.path in
    let l : Bytes = c.index-labels-depth.result in
    let more = goes_further e.0 _ c.args.depth l c.labels-labels.ensures.value at.deep c.index-labels-depth.is c.if-labels-depth.false in
    let taken = takes_pushed _ _ _ _ _ _ c.in_ok-push_level.ensures (omega arith) c.in_ok-take_forks.ensures.taken in
    let label = ap (λ (k : Bytes). labeled k (tree_view c.in_ok-take_forks.field-0)) c.in_ok-label.ensures in
    ok_then c.under-2.result _ (λ b. child_trees (entry_children (level c.args.depth c.args.from c.args.to c.args.sys.now.entries)) ≡ tree_view b ∷ []) c.under-2.ensures
    (λ b is. node_group c.args.depth c.args.from c.args.to _ e l more.next more.rest (tree_view b) c.requires.some found c.requires.level c.requires.group more.begins (is ∙ label ∙ ap (labeled l) taken.1))

pub push_level-label_branch-requires : goal.push_level-label_branch-requires
push_level-label_branch-requires t c =
    let end = c.end_of_label-end.ensures in
    let part = group_level c.args.depth c.loop-at.at c.end_of_label-end.result c.args.to _ end c.loop-at.invariant.is_level in
    (omega arith, (end.some, (omega (arith, end.within), (part, record { label = end.label; all = end.here }))))

pub push_level-loop-at-preserved : goal.push_level-loop-at-preserved
push_level-loop-at-preserved t c =
    walked_more c.args.depth c.args.from c.loop-at.at _ c.args.to _ _ _ _ _ c.loop-at.invariant c.end_of_label-end.ensures c.in_ok-branch.ensures.tree
    (c.in_ok-push.ensures.items ∙ ap (λ xs. xs ++ c.in_ok-branch.branch ∷ []) c.in_ok-branch.ensures.stays)
