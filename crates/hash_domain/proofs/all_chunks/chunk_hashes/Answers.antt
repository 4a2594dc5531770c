use Rattle.std.proofs.Common.{arith}
use Rattle.hash_domain.proofs.Counting.{first_empty, first_all}
use Rattle.hash_domain.proofs.all_chunks.chunk_hashes.Goals as goal

pub groups-init : goal.groups-init
groups-init c = first_empty c.in_ok-hashes.hashes.items c.args.bytes.now _ c.in_ok-hashes.ensures.items (omega arith)

pub returns : goal.returns
returns c = first_all c.groups.hashes.items c.args.bytes.now _ (omega arith) c.groups.invariant
