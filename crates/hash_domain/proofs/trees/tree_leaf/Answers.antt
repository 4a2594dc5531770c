use Rattle.std.proofs.Common.{◌∙◌, List, ℕ, ap}
use Rattle.std.proofs.lemmas.List.{append-nil}
use Rattle.sha2.specs.Sha256.{sha256}
use Rattle.format_spec.specs.Hashes.{leaf_string}
use Rattle.hash_domain.proofs.trees.tree_leaf.Goals as goal

pub returns : goal.returns
returns c = c.hash_of.ensures ∙ ap (λ (bytes : List ℕ). sha256 (leaf_string bytes)) (append-nil c.args.bytes.now)
