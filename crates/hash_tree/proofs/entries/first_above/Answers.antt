use Rattle.std.proofs.Common.{arith}
use Rattle.hash_tree.proofs.Levelling.{kept_level, parted, more_below, none_below, greater_by, not_greater_by}
use Rattle.hash_tree.proofs.entries.first_above.Goals as goal

pub loop-i-init : goal.loop-i-init
loop-i-init c = none_below c.args.from _ _

pub returns-then-is_gt : goal.returns-then-is_gt
returns-then-is_gt c =
    parted c.args.from c.loop-i.i _ _ _ (omega arith) (omega arith) (kept_level c.args.sys.now c.args.from c.entries-i-end.ensures.kept c.requires.within)
    c.loop-i.invariant c.label_of.ensures (greater_by _ _ _ _ _ c.is_gt.ensures c.cmp.ensures c.bytes.ensures.value c.if-is_gt.true)

pub loop-i-preserved : goal.loop-i-preserved
loop-i-preserved c =
    more_below c.args.from c.loop-i.i _ _ _ (omega arith) c.requires.free c.loop-i.invariant c.label_of.ensures (not_greater_by _ _ _ _ _ c.is_gt.ensures c.cmp.ensures c.bytes.ensures.value c.if-is_gt.false)
