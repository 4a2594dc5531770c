use Rattle.std.proofs.Common.{◌≡◌}
use Rattle.disk_model.specs.Record.{files_in}
use Rattle.disk_model.specs.Images.{spoiled_in}
use Rattle.disk_model.proofs.image.spoil_loose.Given as goal

abbrev pub invariant-loop-name : goal.invariant-loop-name
invariant-loop-name l = spoiled_in l.how l.events l.name-iterator (files_in l.files.entries) ≡ spoiled_in l.how l.events l.reading.entries (files_in l.initial.files.entries)
