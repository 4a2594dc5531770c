use Rattle.std.proofs.Common.{◌≡◌, map, take, filter, option_map}
use Rattle.witness.specs.Parts.{begins_between}
use Rattle.witness.proofs.showing.between.Given as goal

abbrev pub invariant-loop-rest : goal.invariant-loop-rest
invariant-loop-rest l = map (λ p. p.now) l.kept.items ≡ filter (begins_between (option_map (λ s. s.now) l.low) (option_map (λ s. s.now) l.high)) (map (λ p. p.now) (take l.rest-index l.rests))
