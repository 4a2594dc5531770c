use Rattle.std.proofs.Common.{◌≡◌, map, take}
use Rattle.tree_spec.specs.Witness.{rests, going_on}
use Rattle.witness.proofs.showing.going_on.Given as goal

abbrev pub invariant-loop-rest : goal.invariant-loop-rest
invariant-loop-rest l = map (λ p. p.now) l.kept.items ≡ going_on (rests l.label (map (λ p. p.now) (take l.rest-index l.rests)))
