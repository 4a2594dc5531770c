use Rattle.byte_codec.proofs.LebSteps.{IsWritten}
use Rattle.byte_codec.proofs.leb128.leb_write.Given as goal

abbrev pub invariant-loop-left : goal.invariant-loop-left
invariant-loop-left l = IsWritten l.n l.left l.count l.bytes

abbrev pub decreases-loop-left : goal.decreases-loop-left
decreases-loop-left l = l.left
