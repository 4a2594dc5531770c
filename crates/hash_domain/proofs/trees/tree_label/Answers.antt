use Rattle.std.proofs.Common.{◌∙◌, List, ℕ, ap}
use Rattle.sha2.specs.Sha256.{sha256}
use Rattle.format_spec.specs.Hashes.{labeled_string}
use Rattle.hash_domain.proofs.trees.tree_label.Goals as goal

pub returns : goal.returns
returns c = c.hash_of.ensures ∙ ap (λ (below : List ℕ). sha256 (labeled_string c.args.label.now below)) c.bytes.ensures.value
