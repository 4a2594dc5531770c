use Rattle.std.proofs.Common.{arith}
use Rattle.slot_links.proofs.Sound.{fields, seen-count, row-first, distinct}
use Rattle.slot_links.proofs.links.Links.first.Goals as goal

pub overflow_add-self-inside : goal.overflow_add-self-inside
overflow_add-self-inside c =
    let below = seen-count (fields c.self.inside) c.args.list (rw (← c.self.view_is) at c.requires) in
    omega arith

pub index-node-requires : goal.index-node-requires
index-node-requires c =
    let below = seen-count (fields c.self.inside) c.args.list (rw (← c.self.view_is) at c.requires) in
    omega arith

pub returns-then-node-self-clause-first : goal.returns-then-node-self-clause-first
returns-then-node-self-clause-first c =
    let f = fields c.self.inside in
    let below = seen-count f c.args.list (rw (← c.self.view_is) at c.requires) in
    rw (← c.self.view_is) ((row-first f c.args.list c.index-node.result.now c.self.invariant below c.index-node.ensures).0 c.if-node-self.true)

pub returns-else-node-self-clause-first : goal.returns-else-node-self-clause-first
returns-else-node-self-clause-first c =
    let f = fields c.self.inside in
    let below = seen-count f c.args.list (rw (← c.self.view_is) at c.requires) in
    rw (← c.self.view_is) ((row-first f c.args.list c.index-node.result.now c.self.invariant below c.index-node.ensures).1 c.if-node-self.false)

pub returns-then-node-self-clause-distinct : goal.returns-then-node-self-clause-distinct
returns-then-node-self-clause-distinct c = rw (← c.self.view_is) (distinct (fields c.self.inside) c.self.invariant)

pub returns-else-node-self-clause-distinct : goal.returns-else-node-self-clause-distinct
returns-else-node-self-clause-distinct c = rw (← c.self.view_is) (distinct (fields c.self.inside) c.self.invariant)
