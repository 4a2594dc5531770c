use Rattle.std.proofs.Common.{◌∙◌, sym, arith}
use Rattle.hash_tree.specs.View.{tree_view}
use Rattle.witness.proofs.Truth.{same_hash, told_true}
use Rattle.witness.proofs.checking.check.Goals as goal

pub returns-clause-truth : goal.returns-clause-truth
returns-clause-truth c =
    told_true c.args.root.now c.args.bytes.now c.args.path.now c.in_ok-owned.field-0 (tree_view c.in_ok-tree.tree) (λ i. omega (arith, c.type_inv.bytes i)) c.in_ok-tree.ensures.value
    (sym c.reconstruct-hash.ensures ∙ same_hash c.reconstruct-hash.result c.args.root.now c.if-ne.ensures) (c.in_ok-owned.ensures ∙ c.lookup.ensures)
