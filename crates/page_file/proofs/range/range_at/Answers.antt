use Rattle.page_file.proofs.Parts.{three, range_is}
use Rattle.page_file.proofs.range.range_at.Goals as goal

pub returns-clause-value : goal.returns-clause-value
returns-clause-value c = range_is c.args.bytes.now c.args.at _ _ _ c.number_at.ensures.value c.number_at-2.ensures.value c.number_at-3.ensures.value

pub returns-clause-text : goal.returns-clause-text
returns-clause-text c = three c.args.bytes.now _ _ _ c.args.at c.number_at.ensures.text c.number_at-2.ensures.text c.number_at-3.ensures.text
