use Rattle.height_store.specs.Laws.{readable_opens, stands_shown}
use Rattle.height_store.proofs.laws.stores_open.Goals as goal

pub returns-clause-opens : goal.returns-clause-opens
returns-clause-opens c = readable_opens

pub returns-clause-shown : goal.returns-clause-shown
returns-clause-shown c = stands_shown
