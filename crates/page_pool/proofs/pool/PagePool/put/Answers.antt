use Rattle.std.proofs.Common.{◌-◌, refl, arith}
use Rattle.std.proofs.lemmas.List.{length-map}
use Rattle.page_pool.specs.Chains.{page_of}
use Rattle.page_pool.proofs.Sound.{put-within, put-free, sound-put, seen-page}
use Rattle.page_pool.proofs.pool.PagePool.put.Goals as goal

pub index_mut-slot-requires : goal.index_mut-slot-requires
index_mut-slot-requires c =
    let below = put-within c.self.inside.slots.items c.self.inside.free c.self.inside.spare c.self.invariant (rw (← c.self.view_is) at c.requires) in omega arith

pub invariant_of-self : goal.invariant_of-self
invariant_of-self c =
    sound-put c.self.inside.slots.items c.self.inside.free c.self.inside.spare c.self.invariant (rw (← c.self.view_is) at c.requires) c.index_mut-slot.result.now _ c.index_mut-slot.ensures.value (omega arith)

pub returns-clause-free : goal.returns-clause-free
returns-clause-free c =
    rw (← c.self.view_is) (put-free c.self.inside.slots.items c.self.inside.free c.self.inside.spare c.self.invariant (rw (← c.self.view_is) at c.requires) c.index_mut-slot.result.now c.index_mut-slot.ensures.value)

pub returns-clause-within : goal.returns-clause-within
returns-clause-within c =
    let below = put-within c.self.inside.slots.items c.self.inside.free c.self.inside.spare c.self.invariant (rw (← c.self.view_is) at c.requires) in
    rw (← c.self.view_is) (omega (arith, length-map c.self.inside.slots.items page_of))

pub returns-clause-put : goal.returns-clause-put
returns-clause-put c = rw (← c.self.view_is) (seen-page c.self.inside.slots.items (c.self.inside.spare - 1) c.self.inside.free _ _ refl)
