use Rattle.disk_model.specs.Laws.{under_way_from_before, under_way_from_done, under_way_apart, done_is_sound, under_way_is_sound}
use Rattle.disk_model.proofs.laws.laws_of_calls.Goals as goal

pub returns-clause-before : goal.returns-clause-before
returns-clause-before c = under_way_from_before

pub returns-clause-after : goal.returns-clause-after
returns-clause-after c = under_way_from_done

pub returns-clause-apart : goal.returns-clause-apart
returns-clause-apart c = under_way_apart

pub returns-clause-sound : goal.returns-clause-sound
returns-clause-sound c = done_is_sound

pub returns-clause-sound_within : goal.returns-clause-sound_within
returns-clause-sound_within c = under_way_is_sound
