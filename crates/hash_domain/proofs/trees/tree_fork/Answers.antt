use Rattle.std.proofs.Common.{◌∙◌, List, ℕ, ap}
use Rattle.sha2.specs.Sha256.{sha256}
use Rattle.format_spec.specs.Hashes.{fork_string}
use Rattle.hash_domain.proofs.trees.tree_fork.Goals as goal

pub returns : goal.returns
returns c =
    c.hash_of.ensures ∙ ap (λ (left : List ℕ). sha256 (fork_string left c.bytes-2.result.now)) c.bytes.ensures.value
    ∙ ap (λ (right : List ℕ). sha256 (fork_string c.args.left.now right)) c.bytes-2.ensures.value
