use Rattle.std.proofs.Common.{arith}
use Rattle.layer_stack.proofs.Unions.{in_place}
use Rattle.layer_stack.proofs.merging.put_in_place.Goals as goal

pub returns : goal.returns
returns c =
    in_place c.args.layers.now.items c.args.from (omega (arith, c.requires.within)) c.args.count c.loop-i._i c.args.file c.loop-i.layers.items
    (omega (arith, c.requires.some, c.loop-i-test.false, c.loop-i.auto._i-end)) c.requires.within c.loop-i.invariant
