use Rattle.std.proofs.Common.{inl, inr}
use Rattle.slot_links.proofs.Sound.{fields, next-linked, next-alone, distinct}
use Rattle.slot_links.proofs.links.Links.next.Goals as goal

pub returns-then-node-item-clause-linked : goal.returns-then-node-item-clause-linked
returns-then-node-item-clause-linked c =
    let small = (rw (← c.self.view_is) at c.requires) in
    rw (← c.self.view_is) (λ k is. (next-linked (fields c.self.inside) c.args.item c.index-node.result.now k c.self.invariant small c.index-node.ensures is).0 c.if-node-self.true c.if-node-item.true)

pub returns-then-node-item-clause-unlinked : goal.returns-then-node-item-clause-unlinked
returns-then-node-item-clause-unlinked c =
    let small = (rw (← c.self.view_is) at c.requires) in
    rw (← c.self.view_is) (λ free. absurd (c.if-node-item.true (next-alone (fields c.self.inside) c.args.item c.index-node.result.now c.self.invariant small c.index-node.ensures free)))

pub returns-else-node-self-clause-linked : goal.returns-else-node-self-clause-linked
returns-else-node-self-clause-linked c =
    let small = (rw (← c.self.view_is) at c.requires) in
    let either = c.else-node-self.either in
    rw (← c.self.view_is) (λ k is.
    (next-linked (fields c.self.inside) c.args.item c.index-node.result.now k c.self.invariant small c.index-node.ensures is).1 (elim either [ inl h ↦ inr h.1 | inr h ↦ inl h ]))

pub returns-then-node-item-clause-distinct : goal.returns-then-node-item-clause-distinct
returns-then-node-item-clause-distinct c = rw (← c.self.view_is) (distinct (fields c.self.inside) c.self.invariant)

pub returns-else-node-self-clause-distinct : goal.returns-else-node-self-clause-distinct
returns-else-node-self-clause-distinct c = rw (← c.self.view_is) (distinct (fields c.self.inside) c.self.invariant)
