use Rattle.std.proofs.Common.{◌∙◌, refl, sym}
use Rattle.page_pool.proofs.Sound.{live-used, sound-write, seen-bytes, bytes-is}
use Rattle.page_pool.proofs.pool.PagePool.page_mut.Goals as goal

pub invariant_of-self-lent : goal.invariant_of-self-lent
invariant_of-self-lent c w =
    let used = live-used c.self.inside.slots.items c.slot.inside.0 c.index_mut.result.now (rw (← c.self.view_is, ← c.slot.view_is) at c.requires.live) c.index_mut.ensures.value in
    sound-write c.self.inside.slots.items c.self.inside.free c.self.inside.spare c.slot.inside.0 c.index_mut.result.now _ c.self.invariant used.0 used.1 used.1

pub returns : goal.returns
returns c =
    let used = live-used c.self.inside.slots.items c.slot.inside.0 c.index_mut.result.now (rw (← c.self.view_is, ← c.slot.view_is) at c.requires.live) c.index_mut.ensures.value in (
      (refl, λ w. rw (← c.self.view_is, ← c.slot.view_is) (seen-bytes c.self.inside.slots.items c.self.inside.spare c.slot.inside.0 c.index_mut.result.now used.0 used.1 _ refl)),
      record { writes_back = tt; value = rw (← c.self.view_is, ← c.slot.view_is) (c.deref_mut.ensures.value ∙ sym (bytes-is c.self.inside.slots.items c.self.inside.spare c.slot.inside.0 c.index_mut.result.now used.0 used.1)) },
    )
