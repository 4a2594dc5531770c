use Rattle.hash_domain.specs.Counted.{HasFirst}
use Rattle.hash_domain.proofs.all_chunks.add_each.Given as goal

abbrev pub invariant-chunks : goal.invariant-chunks
invariant-chunks l = HasFirst l.fn.hashes.items l.bytes l.first → HasFirst l.hashes.items l.bytes l.i
