use Rattle.disk_model.specs.Spending.{spends_none, spends_then, spends_looks, spends_call}
use Rattle.disk_model.proofs.laws.laws_of_spending.Goals as goal

pub returns-clause-none : goal.returns-clause-none
returns-clause-none c = spends_none

pub returns-clause-joined : goal.returns-clause-joined
returns-clause-joined c = spends_then

pub returns-clause-looking : goal.returns-clause-looking
returns-clause-looking c = spends_looks

pub returns-clause-call : goal.returns-clause-call
returns-clause-call c = spends_call
