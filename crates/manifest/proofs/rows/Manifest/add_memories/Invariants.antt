use Rattle.std.proofs.Common.{map}
use Rattle.manifest.proofs.Memories.{Half}
use Rattle.manifest.proofs.rows.Manifest.add_memories.Given as goal

abbrev pub invariant-loop-i : goal.invariant-loop-i
invariant-loop-i l = Half l.initial.self.version l.self l.sys.canisters (map (λ hashes. hashes.items) l.sums) l.i
