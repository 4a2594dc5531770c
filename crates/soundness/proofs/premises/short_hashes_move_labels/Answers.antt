use Rattle.std.proofs.Common.{◌≡◌, ℕ, [], ◌∷◌, ◌++◌, ap, append_assoc, codes}
use Rattle.sha2.specs.Sha256.{sha256}
use Rattle.format_spec.specs.Bytes.{Bytes, short_string}
use Rattle.format_spec.specs.Hashes.{labeled_string}
use Rattle.tree_spec.specs.Tree.{reconstruct, hashed_strings}
use Rattle.soundness.proofs.premises.short_hashes_move_labels.Goals as goal

strings : (l : Bytes) (b : ℕ) (h : Bytes) → labeled_string (l ++ b ∷ []) h ≡ labeled_string l (b ∷ h)
strings l b h = ap (λ (x : Bytes). short_string (codes "ic-hashtree-labeled") ++ x) (append_assoc l (b ∷ []) h)

pub returns-clause-one_hash : goal.returns-clause-one_hash
unfolding reconstruct
returns-clause-one_hash c = λ l b h. ap sha256 (strings l b h)

pub returns-clause-one_string : goal.returns-clause-one_string
unfolding reconstruct hashed_strings
returns-clause-one_string c = λ l b h. ap (λ (x : Bytes). x ∷ []) (strings l b h)
