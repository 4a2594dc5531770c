use Rattle.height_store.specs.Needed.{needed_stay, pinned_stay, staged_stay, stages_left, needed_left, needed_same}
use Rattle.height_store.proofs.laws.sweeps_leave_what_is_needed.Goals as goal

pub returns-clause-needed : goal.returns-clause-needed
returns-clause-needed c = needed_stay

pub returns-clause-pinned : goal.returns-clause-pinned
returns-clause-pinned c = pinned_stay

pub returns-clause-staged : goal.returns-clause-staged
returns-clause-staged c = staged_stay

pub returns-clause-same : goal.returns-clause-same
returns-clause-same c = needed_same

pub returns-clause-pages : goal.returns-clause-pages
returns-clause-pages c = needed_left

pub returns-clause-stages : goal.returns-clause-stages
returns-clause-stages c = stages_left
