use Rattle.std.proofs.Common.{sym, ◌∙◌}
use Rattle.layer_stack.specs.Laws.{kept_have_layers}
use Rattle.page_map.proofs.laws.a_map_reads_as_one.Goals as goal

pub returns : goal.returns
returns c = λ files maps m at count one other known a b. let found = kept_have_layers files m.stack known in a found.0 found.1 ∙ sym (b found.0 found.1)
