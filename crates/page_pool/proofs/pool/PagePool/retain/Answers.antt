use Rattle.std.proofs.Common.{refl, arith}
use Rattle.page_pool.proofs.Sound.{live-used, sound-write, seen-count, count-is}
use Rattle.page_pool.proofs.pool.PagePool.retain.Goals as goal

pub invariant_of-self : goal.invariant_of-self
invariant_of-self c =
    let used = live-used c.self.inside.slots.items c.slot.inside.0 c.index_mut.result.now (rw (← c.self.view_is, ← c.slot.view_is) at c.requires.live) c.index_mut.ensures.value in
    sound-write c.self.inside.slots.items c.self.inside.free c.self.inside.spare c.slot.inside.0 c.index_mut.result.now _ c.self.invariant used.0 used.1 (omega arith)

pub returns : goal.returns
returns c =
    let used = live-used c.self.inside.slots.items c.slot.inside.0 c.index_mut.result.now (rw (← c.self.view_is, ← c.slot.view_is) at c.requires.live) c.index_mut.ensures.value in
    let count = count-is c.self.inside.slots.items c.self.inside.spare c.slot.inside.0 c.index_mut.result.now used.0 used.1 in
    rw (← c.self.view_is, ← c.slot.view_is, count) (seen-count c.self.inside.slots.items c.self.inside.spare c.slot.inside.0 c.index_mut.result.now used.0 used.1 _ (omega arith) refl)
