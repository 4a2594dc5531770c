use Rattle.std.proofs.Common.{ap}
use Rattle.state_spec.specs.State.{State, state_from}
use Rattle.store_spec.proofs.Images.{opens_once, stands_open}
use Rattle.store_spec.proofs.laws.files_open_one_way.Goals as goal

pub returns-clause-once : goal.returns-clause-once
returns-clause-once c = λ files ps qs p q. opens_once files ps qs p q

pub returns-clause-stands : goal.returns-clause-stands
returns-clause-stands c = λ files ps p. stands_open files ps p

pub returns-clause-version : goal.returns-clause-version
unfolding state_from
returns-clause-version c = λ files p given. ap (λ (s : State). s.version) given.same_state
