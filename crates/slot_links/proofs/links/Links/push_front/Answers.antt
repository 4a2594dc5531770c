use Rattle.std.proofs.Common.{arith}
use Rattle.slot_links.proofs.Sound.{fields}
use Rattle.slot_links.proofs.Puts.{in-lists, first-within, put-front}
use Rattle.slot_links.proofs.links.Links.push_front.Goals as goal

pub overflow_add-begin : goal.overflow_add-begin
overflow_add-begin c = omega (arith, in-lists (fields c.self.inside) _ c.args.list c.args.item (c.self.view_is, c.self.invariant, c.requires.list, c.requires.item, c.requires.unlinked))

pub index-after-requires : goal.index-after-requires
index-after-requires c = omega (arith, in-lists (fields c.self.inside) _ c.args.list c.args.item (c.self.view_is, c.self.invariant, c.requires.list, c.requires.item, c.requires.unlinked))

pub index_mut-requires : goal.index_mut-requires
index_mut-requires c = omega (arith, in-lists (fields c.self.inside) _ c.args.list c.args.item (c.self.view_is, c.self.invariant, c.requires.list, c.requires.item, c.requires.unlinked))

pub index_mut-requires-3 : goal.index_mut-requires-3
index_mut-requires-3 c = let within = first-within (fields c.self.inside) _ c.args.list c.args.item (c.self.view_is, c.self.invariant, c.requires.list, c.requires.item, c.requires.unlinked) c.index-after.result.now c.index-after.ensures in omega arith

pub invariant_of-self : goal.invariant_of-self
invariant_of-self c = (put-front (fields c.self.inside) _ c.args.list c.args.item (c.self.view_is, c.self.invariant, c.requires.list, c.requires.item, c.requires.unlinked) c.index-after.result.now c.index-after.ensures).0

pub returns : goal.returns
returns c = (put-front (fields c.self.inside) _ c.args.list c.args.item (c.self.view_is, c.self.invariant, c.requires.list, c.requires.item, c.requires.unlinked) c.index-after.result.now c.index-after.ensures).1
