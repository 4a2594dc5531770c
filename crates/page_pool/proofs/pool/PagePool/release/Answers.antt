use Rattle.std.proofs.Common.{◌-◌, ◌+◌, None, refl, arith, add-one}
use Rattle.page_pool.specs.declared.slot.Slot.{Slot}
use Rattle.page_pool.proofs.Sound.{live-used, sound-free, sound-write, spare-small, free-page, seen-page, seen-count, count-is}
use Rattle.page_pool.proofs.pool.PagePool.release.Goals as goal

pub overflow_add-self : goal.overflow_add-self
overflow_add-self c =
    let used = live-used c.self.inside.slots.items c.slot.inside.0 c.index_mut-shared.result.now (rw (← c.self.view_is, ← c.slot.view_is) at c.requires) c.index_mut-shared.ensures.value in
    let few = spare-small c.self.inside.slots.items c.self.inside.free c.self.inside.spare c.slot.inside.0 c.index_mut-shared.result.now c.self.invariant used.0 used.1 in
    omega (arith, c.self.invariant.small)

pub invariant_of-self : goal.invariant_of-self
invariant_of-self c =
    let used = live-used c.self.inside.slots.items c.slot.inside.0 c.index_mut-shared.result.now (rw (← c.self.view_is, ← c.slot.view_is) at c.requires) c.index_mut-shared.ensures.value in
    rw add-one (sound-free c.self.inside.slots.items c.self.inside.free c.self.inside.spare c.slot.inside.0 c.index_mut-shared.result.now _ c.self.invariant used.0 used.1 c.if-shared-eq0.true refl)

pub invariant_of-self-else-shared-eq0 : goal.invariant_of-self-else-shared-eq0
invariant_of-self-else-shared-eq0 c =
    let used = live-used c.self.inside.slots.items c.slot.inside.0 c.index_mut-shared.result.now (rw (← c.self.view_is, ← c.slot.view_is) at c.requires) c.index_mut-shared.ensures.value in
    sound-write c.self.inside.slots.items c.self.inside.free c.self.inside.spare c.slot.inside.0 c.index_mut-shared.result.now _ c.self.invariant used.0 used.1 (omega (arith, c.if-shared-eq0.false))

pub returns-then-shared-eq0-clause-last : goal.returns-then-shared-eq0-clause-last
returns-then-shared-eq0-clause-last c =
    let freed : Slot = record {
      count = c.index_mut-shared.result.now.count - 1;
      next = c.self.inside.free;
      bytes = c.index_mut-shared.result.now.bytes;
    } in
    rw (← c.self.view_is, ← c.slot.view_is) (λ last. seen-page c.self.inside.slots.items (c.self.inside.spare + 1) c.slot.inside.0 freed None (free-page freed c.if-shared-eq0.true))

pub returns-else-shared-eq0-clause-shared : goal.returns-else-shared-eq0-clause-shared
returns-else-shared-eq0-clause-shared c =
    let used = live-used c.self.inside.slots.items c.slot.inside.0 c.index_mut-shared.result.now (rw (← c.self.view_is, ← c.slot.view_is) at c.requires) c.index_mut-shared.ensures.value in
    let count = count-is c.self.inside.slots.items c.self.inside.spare c.slot.inside.0 c.index_mut-shared.result.now used.0 used.1 in
    rw (← c.self.view_is, ← c.slot.view_is, count) (λ shared. seen-count c.self.inside.slots.items c.self.inside.spare c.slot.inside.0 c.index_mut-shared.result.now used.0 used.1 _ (omega (arith, c.if-shared-eq0.false)) refl)
