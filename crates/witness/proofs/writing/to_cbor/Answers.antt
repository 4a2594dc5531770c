use Rattle.std.proofs.Common.{◌∙◌, ◌++◌, ap}
use Rattle.format_spec.specs.Bytes.{Bytes}
use Rattle.tree_spec.specs.Cbor.{cbor, read_tree}
use Rattle.tree_spec.proofs.CborWhole.{tree_again}
use Rattle.hash_tree.specs.View.{tree_view}
use Rattle.witness.proofs.writing.to_cbor.Goals as goal

pub returns-clause-read_again : goal.returns-clause-read_again
returns-clause-read_again c = λ good.
    let t = tree_view c.args.tree.now in
    ap read_tree (c.into_blob.ensures ∙ c.in_ok-write_tree.ensures ∙ ap (λ (s : Bytes). s ++ cbor t) c.new-out.ensures) ∙ tree_again t good
