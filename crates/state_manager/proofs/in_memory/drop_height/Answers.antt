use Rattle.std.proofs.Common.{◌==◌, not, rules}
use Rattle.std.proofs.lemmas.Fn.{filter_same}
use Rattle.state_manager.proofs.in_memory.drop_height.Goals as goal

pub returns : goal.returns
returns c = filter_same _ (λ state. not (state.height == c.args.height)) _ (λ x b q said. (search rules, search rules)) _ _ c.retain.ensures.filtered
