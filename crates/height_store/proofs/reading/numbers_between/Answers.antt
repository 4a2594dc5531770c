use Rattle.std.proofs.Common.{◌-◌, Ok, refl}
use Rattle.std.proofs.lemmas.Iterator.{YieldsList-from_range, items_from_collect}
use Rattle.height_store.proofs.reading.numbers_between.Goals as goal

pub returns : goal.returns
returns c = items_from_collect {E = Unit {0}} (Ok c.in_ok-collect.field-0) c.in_ok-collect.ensures.ran (YieldsList-from_range c.args.first c.args.behind (c.args.behind - c.args.first) refl refl)
