use Rattle.std.proofs.Common.{map, take}
use Rattle.witness.proofs.Witnesses.{Gathered}
use Rattle.witness.proofs.showing.shown.Given as goal

abbrev pub invariant-loop-path : goal.invariant-loop-path
invariant-loop-path l = Gathered (map (λ p. p.now) l.rests.items) (take l.path-index l.paths)
