use Rattle.std.proofs.Common.{rules, not, ◌==◌}
use Rattle.std.proofs.lemmas.Fn.{filter_same}
use Rattle.height_store.proofs.publishing.drop_height.Goals as goal

pub returns : goal.returns
returns c = filter_same _ (λ h. not (h.mark.height == c.args.height)) _ (λ x b q said. (search rules, search rules)) _ _ c.retain.ensures.filtered
