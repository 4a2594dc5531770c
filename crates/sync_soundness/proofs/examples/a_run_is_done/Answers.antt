use Rattle.std.proofs.Common.{◌≡◌, ◌++◌, true, [], Some, refl, arith}
use Rattle.std.specs.Option.{option_map}
use Rattle.sync_spec.specs.Computing.{syncs_compute}
use Rattle.sync_spec.specs.Events.{no_events}
use Rattle.sync_spec.specs.Sync.{Sync, Told, ready, sync_step, sync_to}
use Rattle.sync_spec.specs.SyncExample.{target, seven_turns, without_events}
use Rattle.sync_soundness.specs.Runs.{after_steps}
use Rattle.sync_soundness.specs.RunExample.{example_steps, example_done}
use Rattle.sync_soundness.proofs.Tested.{are_byte_events, steps_tested, mapped}
use Rattle.sync_soundness.proofs.examples.a_run_is_done.Goals as goal

abbrev told : Sync → Told
told s = (sync_step [] s no_events).told

is_done : option_map told (after_steps (sync_to 1 target 2) example_steps) ≡ Some (ready example_done)
unfolding syncs_compute
is_done = refl

are_bytes : are_byte_events (seven_turns 1 ++ without_events 2) ≡ true
unfolding syncs_compute
are_bytes = refl

pub returns : goal.returns
returns c =
    let m = mapped told (after_steps (sync_to 1 target 2) example_steps) (ready example_done) is_done in
    (m.0, record { few_peers = omega arith; good = steps_tested (seven_turns 1 ++ without_events 2) are_bytes; goes_on = m.1 }, m.2)
