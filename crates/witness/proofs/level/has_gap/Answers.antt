use Rattle.std.proofs.Common.{map}
use Rattle.tree_spec.specs.Tree.{flatten, label_of}
use Rattle.hash_tree.specs.View.{tree_view}
use Rattle.witness.proofs.Entries.{gap_is, first_holds, second_is}
use Rattle.witness.proofs.level.has_gap.Goals as goal

pub returns-then-end : goal.returns-then-end
returns-then-end c =
    let r = c.scan_entries-end.result in
    first_holds r.gap r.below _ (gap_is c.args.label.now (map label_of (flatten (tree_view c.args.tree.now))) r c.scan_entries-end.ensures) c.if-end.true

pub returns-else-end : goal.returns-else-end
returns-else-end c =
    let r = c.scan_entries-end.result in
    second_is r.gap r.below _ (gap_is c.args.label.now (map label_of (flatten (tree_view c.args.tree.now))) r c.scan_entries-end.ensures) c.if-end.false
