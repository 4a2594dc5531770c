use Rattle.std.proofs.Common.{◌≡◌, false, drop}
use Rattle.disk_model.specs.Images.{is_marked_after}
use Rattle.disk_model.proofs.image.is_loose.Given as goal

abbrev pub invariant-loop-event : goal.invariant-loop-event
invariant-loop-event l = is_marked_after l.name l.is (drop l.event-index l.events) ≡ is_marked_after l.name false l.events
