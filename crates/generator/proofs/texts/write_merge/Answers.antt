use Rattle.std.proofs.Common.{List, ℕ, ◌++◌, ap, ◌∙◌, append_assoc, codes}
use Rattle.generator.specs.Script.{two_digits}
use Rattle.generator.proofs.texts.write_merge.Goals as goal

pub returns : goal.returns
returns c =
    c.in_ok-extend_from_slice.ensures.items
    ∙ ap (λ (text : List ℕ). text ++ codes " heap") c.in_ok-write_byte.ensures
    ∙ append_assoc c.args.into.now.items (codes "merge " ++ two_digits c.args.canister) (codes " heap")
