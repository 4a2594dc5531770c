use Rattle.std.proofs.Common.{arith}
use Rattle.hash_tree.proofs.Levelling.{label_there, ends_label, ends_at_all, one_here, more_here, differ, alike}
use Rattle.hash_tree.proofs.entries.end_of_label.Goals as goal

pub label_of-label-requires : goal.label_of-label-requires
label_of-label-requires c = label_there _ c.args.from c.args.from c.args.to _ (omega arith) c.requires.some c.requires.within c.requires.level

pub loop-i-init : goal.loop-i-init
loop-i-init c = one_here _ c.args.from _ _ c.label_of-label.ensures

pub label_of-requires : goal.label_of-requires
label_of-requires c = label_there _ c.args.from c.loop-i.i c.args.to _ (omega arith) (omega arith) c.requires.within c.requires.level

pub returns-then-ne : goal.returns-then-ne
returns-then-ne c = ends_label _ c.args.from c.loop-i.i c.args.to _ _ _ (omega arith) (omega arith) c.requires.level c.label_of-label.ensures c.loop-i.invariant c.label_of.ensures
    (differ _ _ _ c.ne.ensures c.if-ne.true)

pub loop-i-preserved : goal.loop-i-preserved
loop-i-preserved c = more_here _ c.args.from c.loop-i.i _ _ _ (omega arith) c.loop-i.invariant c.label_of.ensures (alike _ _ _ c.ne.ensures c.if-ne.false)

pub returns : goal.returns
returns c = ends_at_all _ c.args.from c.loop-i.i c.args.to _ _ c.requires.some (omega arith) c.loop-i-test.false c.loop-i.invariant
