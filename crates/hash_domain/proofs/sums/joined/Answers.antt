use Rattle.hash_domain.proofs.Zeros.{zeros_of_none, joined_more}
use Rattle.hash_domain.proofs.sums.joined.Goals as goal

pub bytes-init : goal.bytes-init
bytes-init c = zeros_of_none

pub bytes-preserved : goal.bytes-preserved
bytes-preserved c = joined_more c.args.run.now c.bytes.byte-index c.bytes.all c.bytes-test.true c.bytes.invariant
