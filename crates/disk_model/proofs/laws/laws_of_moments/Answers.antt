use Rattle.std.proofs.Common.{IsTrue}
use Rattle.disk_model.specs.Moments.{since_from_now, since_from_later, each_since}
use Rattle.disk_model.proofs.laws.laws_of_moments.Goals as goal

pub returns-clause-now : goal.returns-clause-now
returns-clause-now c = since_from_now

pub returns-clause-later : goal.returns-clause-later
returns-clause-later c = since_from_later

pub returns-clause-each : goal.returns-clause-each
returns-clause-each c = λ old new test image leaves since. each_since old new (λ f. IsTrue (test f)) image leaves since
