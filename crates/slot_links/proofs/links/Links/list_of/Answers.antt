use Rattle.std.proofs.Common.{◌∙◌}
use Rattle.slot_links.proofs.Sound.{fields, owner-read, owner-linked, owner-free, owner-cases, distinct}
use Rattle.slot_links.proofs.links.Links.list_of.Goals as goal

pub returns-clause-linked : goal.returns-clause-linked
returns-clause-linked c =
    let f = fields c.self.inside in
    let small = rw (← c.self.view_is) at c.requires in
    rw (← c.self.view_is) (λ k is. owner-read f c.args.item c.index.result.now c.self.invariant small c.index.ensures ∙ owner-linked f c.args.item k c.self.invariant is)

pub returns-clause-unlinked : goal.returns-clause-unlinked
returns-clause-unlinked c =
    let f = fields c.self.inside in
    let small = rw (← c.self.view_is) at c.requires in
    rw (← c.self.view_is) (λ free. owner-read f c.args.item c.index.result.now c.self.invariant small c.index.ensures ∙ owner-free f c.args.item c.self.invariant small free)

pub returns-clause-cases : goal.returns-clause-cases
returns-clause-cases c =
    let f = fields c.self.inside in
    let small = rw (← c.self.view_is) at c.requires in
    rw (← c.self.view_is) (owner-cases f c.args.item c.index.result.now c.self.invariant small (owner-read f c.args.item c.index.result.now c.self.invariant small c.index.ensures))

pub returns-clause-distinct : goal.returns-clause-distinct
returns-clause-distinct c = rw (← c.self.view_is) (distinct (fields c.self.inside) c.self.invariant)
