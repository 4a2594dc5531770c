use Rattle.std.proofs.Common.{◌≡◌, false, map, take}
use Rattle.tree_spec.specs.Witness.{begins_some}
use Rattle.witness.proofs.showing.begins_some.Given as goal

abbrev pub invariant-loop-rest : goal.invariant-loop-rest
invariant-loop-rest l = begins_some l.label (map (λ p. p.now) (take l.rest-index l.rests)) ≡ false
