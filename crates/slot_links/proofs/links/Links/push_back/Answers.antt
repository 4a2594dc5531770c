use Rattle.std.proofs.Common.{arith}
use Rattle.slot_links.proofs.Sound.{fields}
use Rattle.slot_links.proofs.Puts.{in-lists, last-within, put-back}
use Rattle.slot_links.proofs.links.Links.push_back.Goals as goal

pub overflow_add-end : goal.overflow_add-end
overflow_add-end c = omega (arith, in-lists (fields c.self.inside) _ c.args.list c.args.item (c.self.view_is, c.self.invariant, c.requires.list, c.requires.item, c.requires.unlinked))

pub index-before-requires : goal.index-before-requires
index-before-requires c = omega (arith, in-lists (fields c.self.inside) _ c.args.list c.args.item (c.self.view_is, c.self.invariant, c.requires.list, c.requires.item, c.requires.unlinked))

pub index_mut-requires : goal.index_mut-requires
index_mut-requires c = let within = last-within (fields c.self.inside) _ c.args.list c.args.item (c.self.view_is, c.self.invariant, c.requires.list, c.requires.item, c.requires.unlinked) c.index-before.result.now c.index-before.ensures in omega arith

pub index_mut-requires-3 : goal.index_mut-requires-3
index_mut-requires-3 c = omega (arith, in-lists (fields c.self.inside) _ c.args.list c.args.item (c.self.view_is, c.self.invariant, c.requires.list, c.requires.item, c.requires.unlinked))

pub invariant_of-self : goal.invariant_of-self
invariant_of-self c = (put-back (fields c.self.inside) _ c.args.list c.args.item (c.self.view_is, c.self.invariant, c.requires.list, c.requires.item, c.requires.unlinked) c.index-before.result.now c.index-before.ensures).0

pub returns : goal.returns
returns c = (put-back (fields c.self.inside) _ c.args.list c.args.item (c.self.view_is, c.self.invariant, c.requires.list, c.requires.item, c.requires.unlinked) c.index-before.result.now c.index-before.ensures).1
