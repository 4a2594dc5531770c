use Rattle.manifest.proofs.Judging.{Judged}
use Rattle.manifest.proofs.hashes.wrong_hash.Given as goal

abbrev pub invariant-loop-number : goal.invariant-loop-number
invariant-loop-number l = Judged l.files l.chunks l.number l.at l.begin
