use Rattle.std.proofs.Common.{arith}
use Rattle.hash_lanes.proofs.EachLane.{below_eight}
use Rattle.hash_domain.proofs.all_chunks_tests.are_right.Goals as goal

pub hash_chunks-state-requires-clause-inside : goal.hash_chunks-state-requires-clause-inside
hash_chunks-state-requires-clause-inside c = below_eight _ (omega arith) (omega arith) (omega arith) (omega arith) (omega arith) (omega arith) (omega arith) (omega arith)
