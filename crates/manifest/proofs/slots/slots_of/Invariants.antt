use Rattle.std.proofs.Common.{◌≡◌, ◌+◌, ◌++◌, drop}
use Rattle.state_spec.specs.ManifestText.{slots}
use Rattle.manifest.proofs.slots.slots_of.Given as goal

abbrev pub invariant-loop-number : goal.invariant-loop-number
invariant-loop-number l = l.found.items ++ slots (l.first + l.number) (drop l.number l.files) ≡ slots l.first l.files
