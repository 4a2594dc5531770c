use Rattle.std.proofs.Common.{◌≡◌, [], ◌∷◌, ◌++◌, codes, append_assoc}
use Rattle.std.proofs.lemmas.List.{append-nil}
use Rattle.format_spec.specs.Bytes.{Bytes}
use Rattle.generator.specs.Summary.{text_of_replies, named}
use Rattle.generator.proofs.laws.a_summary_is_its_pieces.Goals as goal

four : (a b d e x y z : Bytes)
    → text_of_replies ((a ++ x) ∷ (b ++ y) ∷ (d ++ z) ∷ e ∷ []) ≡ named a x ++ named b y ++ named d z ++ named [] e
four a b d e x y z = simp (append_assoc, append-nil)

pub returns : goal.returns
returns c = λ replies. four (codes "lines ") (codes "refused ") (codes "digest ") _ _ _ _
