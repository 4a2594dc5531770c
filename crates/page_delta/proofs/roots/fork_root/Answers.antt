use Rattle.std.proofs.Common.{ℕ, ap, subst, arith}
use Rattle.slab.specs.Slab.{Slab}
use Rattle.page_delta.specs.Totals.{total}
use Rattle.page_delta.specs.Nodes.{pages_below}
use Rattle.page_delta.specs.Roots.{roots, AddsRoot}
use Rattle.page_delta.specs.Shared.{slots_in}
use Rattle.page_delta.specs.declared.node.Node.{Node}
use Rattle.page_delta.specs.declared.roots.Root.{Root}
use Rattle.page_delta.proofs.Rooted.{kept-live}
use Rattle.page_delta.proofs.RootCopies.{same-root, few-kept}
use Rattle.page_delta.proofs.RootCalls.{Added, added-at, kept-added, adds-root, raised, shared-raise, places-raise, len-raise, held-raise, pages-raised, root-raised}
use Rattle.page_delta.proofs.roots.fork_root.Goals.{After-insert_reserved}
use Rattle.page_delta.proofs.roots.fork_root.Goals as goal

pub raise-requires-clause-room : goal.raise-requires-clause-room
raise-requires-clause-room c =
    let few = few-kept c.args.nodes.now.slots c.args.ids.now.slots c.index-root.result.now.node c.requires.kept in
    omega (arith, few)

added : (c : After-insert_reserved) → Added c.args.ids.now.slots c.insert_reserved.new.self.slots c.in_ok-fork.fork c.index-root.result.now
added c =
    let new = c.insert_reserved.ensures in
    added-at c.args.ids.now.slots c.make_id.new.ids.slots c.insert_reserved.new.self.slots c.insert_reserved.result c.in_ok-fork.fork c.index-root.result.now
    (omega (arith, new.key, c.in_ok-fork.ensures.id)) c.make_id.ensures.ids new.was_vacant new.updates.changed new.updates.others

pub returns-clause-kept : goal.returns-clause-kept
returns-clause-kept c =
    let ids = c.args.ids.now.slots in
    let xs = c.args.nodes.now.slots in
    let root = c.index-root.result.now in
    let is = rw c.make_id.ensures.ids at c.index-root.ensures in
    let live = kept-live xs ids c.args.id root c.requires.kept is in
    let a = added (goal.at.returns-clause-kept c).After-insert_reserved in
    let counts : ℕ → ℕ = λ slot. total (slots_in slot) xs in
    let now = ap (λ (n : Slab Node). n.slots) c.raise.ensures in
    rw now (
    kept-added ids c.insert_reserved.new.self.slots c.in_ok-fork.fork root a xs (raised xs root.node live)
    (root-raised ids c.insert_reserved.new.self.slots c.in_ok-fork.fork c.args.id root xs live a c.requires.kept is)
    counts (λ slot. 0) (shared-raise xs root.node live counts (λ m. total (roots m) ids) (λ slot. 0) c.requires.kept.shared)
    (places-raise xs root.node live)
    (let len = len-raise xs root.node live in omega (arith, len, c.requires.kept.few_nodes))
    (rw c.make_id.ensures.ids at c.in_ok-fork.ensures.few))

pub returns-clause-added : goal.returns-clause-added
returns-clause-added c = λ r r_is.
    let ids = c.args.ids.now.slots in
    let xs = c.args.nodes.now.slots in
    let root = c.index-root.result.now in
    let is = rw c.make_id.ensures.ids at c.index-root.ensures in
    let live = kept-live xs ids c.args.id root c.requires.kept is in
    let a = added (goal.at.returns-clause-added c).After-insert_reserved in
    let now = ap (λ (n : Slab Node). n.slots) c.raise.ensures in
    let eq = same-root root r _ is r_is in
    rw now (
    subst (λ (r : Root). AddsRoot xs (raised xs root.node live) ids c.insert_reserved.new.self.slots c.in_ok-fork.fork
    (pages_below xs r.node)) eq
    (adds-root ids c.insert_reserved.new.self.slots c.in_ok-fork.fork root a xs (raised xs root.node live)
    (root-raised ids c.insert_reserved.new.self.slots c.in_ok-fork.fork c.args.id root xs live a c.requires.kept is)
    (pages_below xs root.node) (pages-raised xs root.node live) (held-raise xs root.node live)))
