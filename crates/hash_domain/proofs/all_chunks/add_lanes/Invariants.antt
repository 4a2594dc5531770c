use Rattle.std.proofs.Common.{◌+◌}
use Rattle.hash_domain.specs.Counted.{HasFirst}
use Rattle.hash_domain.proofs.all_chunks.add_lanes.Given as goal

abbrev pub invariant-lanes : goal.invariant-lanes
invariant-lanes l = HasFirst l.fn.hashes.items l.bytes l.first → HasFirst l.hashes.items l.bytes (l.first + l.j)
