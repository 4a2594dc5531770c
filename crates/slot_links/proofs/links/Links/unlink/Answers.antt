use Rattle.std.proofs.Common.{◌∙◌, ap}
use Rattle.slot_links.specs.Lists.{lists_without}
use Rattle.slot_links.proofs.Sound.{fields, seen-in, sound-unlinked, seen-unlinked}
use Rattle.slot_links.proofs.links.Links.unlink.Goals as goal

pub invariant_of-self : goal.invariant_of-self
invariant_of-self c =
    let f = fields c.self.inside in
    let linked = rw (← c.self.view_is) at c.requires.linked in
    let small = rw (← c.self.view_is) at c.requires.item in
    sound-unlinked f c.self.invariant c.args.item c.index-before.result.now c.index-after.result.now linked.0 small (seen-in f linked.0 c.args.item linked.1) c.index-before.ensures c.index-after.ensures

pub returns : goal.returns
returns c =
    let f = fields c.self.inside in
    let linked = rw (← c.self.view_is) at c.requires.linked in
    let small = rw (← c.self.view_is) at c.requires.item in
    seen-unlinked f c.self.invariant c.args.item c.index-before.result.now c.index-after.result.now linked.0 small (seen-in f linked.0 c.args.item linked.1) c.index-before.ensures c.index-after.ensures
    ∙ ap (λ l. lists_without l c.args.item) c.self.view_is
