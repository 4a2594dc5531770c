use Rattle.std.proofs.Common.{ℕ, List, subst}
use Rattle.format_spec.specs.Bytes.{leb}
use Rattle.byte_codec.specs.Gives.{Writes}
use Rattle.byte_codec.proofs.LebSteps.{written_more, written_last}
use Rattle.byte_codec.proofs.leb128.leb_write.Goals as goal

pub loop-left-preserved : goal.loop-left-preserved
loop-left-preserved c = written_more c.args.n c.loop-left.left c.loop-left.count c.loop-left.bytes c.loop-left.invariant c.loop-left-test.true

pub returns : goal.returns
unfolding leb
returns c = subst (λ (text : List ℕ). Writes c.bytes.result c.args.out.now c.bytes.new.self text) (written_last c.args.n c.loop-left.left c.loop-left.count c.loop-left.bytes c.loop-left.invariant c.loop-left-test.false) c.bytes.ensures
