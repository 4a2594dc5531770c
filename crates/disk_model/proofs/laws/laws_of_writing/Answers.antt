use Rattle.disk_model.specs.Writing.{writes_call, writes_then}
use Rattle.disk_model.proofs.laws.laws_of_writing.Goals as goal

pub returns-clause-call : goal.returns-clause-call
returns-clause-call c = writes_call

pub returns-clause-joined : goal.returns-clause-joined
returns-clause-joined c = writes_then
