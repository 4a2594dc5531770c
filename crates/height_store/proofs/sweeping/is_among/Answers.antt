use Rattle.std.proofs.Common.{◌∙◌}
use Rattle.height_store.proofs.Swept.{searched_any}
use Rattle.height_store.proofs.sweeping.is_among.Goals as goal

pub returns : goal.returns
returns c = c.is_ok.ensures.value ∙ searched_any c.args.numbers.now c.args.number c.binary_search.result c.requires c.binary_search.ensures.position
