use Rattle.height_store.proofs.Once.{opened_once, gains_once, purged_once, next_once, page_once, range_once}
use Rattle.height_store.proofs.laws.store_calls_have_one_answer.Goals as goal

pub returns-clause-opens : goal.returns-clause-opens
returns-clause-opens c = opened_once

pub returns-clause-publishes : goal.returns-clause-publishes
returns-clause-publishes c = gains_once

pub returns-clause-purges : goal.returns-clause-purges
returns-clause-purges c = purged_once

pub returns-clause-next : goal.returns-clause-next
returns-clause-next c = next_once

pub returns-clause-reads : goal.returns-clause-reads
returns-clause-reads c = page_once

pub returns-clause-ranges : goal.returns-clause-ranges
returns-clause-ranges c = range_once
