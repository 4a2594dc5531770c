use Rattle.std.proofs.Common.{◌∙◌, sym, arith}
use Rattle.tree_spec.proofs.CborWhole.{tree_found}
use Rattle.hash_tree.specs.View.{tree_view}
use Rattle.witness.proofs.Within.{whole_read}
use Rattle.witness.proofs.reading.read_whole.Goals as goal

pub returns-clause-spelled : goal.returns-clause-spelled
returns-clause-spelled c =
    let t = tree_view c.in_ok-level.level.tree in
    let read = whole_read c.args.bytes.now c.after_tag-reader.result c.read_within.new.reader t c.after_tag-reader.ensures c.in_ok-level.ensures.value (sym c.left.ensures ∙ c.if-left-ne0.false) in
    (tree_found c.args.bytes.now t (λ i. omega (arith, c.type_inv.bytes i)) read).1

pub returns-clause-good : goal.returns-clause-good
returns-clause-good c =
    let t = tree_view c.in_ok-level.level.tree in
    let read = whole_read c.args.bytes.now c.after_tag-reader.result c.read_within.new.reader t c.after_tag-reader.ensures c.in_ok-level.ensures.value (sym c.left.ensures ∙ c.if-left-ne0.false) in
    (tree_found c.args.bytes.now t (λ i. omega (arith, c.type_inv.bytes i)) read).0
