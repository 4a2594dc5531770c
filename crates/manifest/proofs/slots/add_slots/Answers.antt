use Rattle.manifest.proofs.Slotting.{slots_more}
use Rattle.manifest.proofs.slots.add_slots.Goals as goal

pub loop-i-preserved : goal.loop-i-preserved
loop-i-preserved c =
    slots_more c.args.file c.args.size c.loop-i.i c.min.result c.args.found.now.items c.loop-i.found.items c.push.new.self.items
    c.min.ensures c.in_ok-push.ensures.items c.loop-i.invariant
