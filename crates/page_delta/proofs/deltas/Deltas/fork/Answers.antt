use Rattle.std.proofs.Common.{Option, ◌∙◌, sym, ap, subst}
use Rattle.page_delta.specs.Delta.{Pages, Adds, pages_in, Holds}
use Rattle.page_delta.specs.Nodes.{pages_below}
use Rattle.page_delta.specs.Roots.{map_below}
use Rattle.page_delta.proofs.RootPuts.{the-root}
use Rattle.page_delta.proofs.Seen.{seen, map-seen, seen-live, seen-adds, seen-held-same, seen-unchanged}
use Rattle.page_delta.proofs.deltas.Deltas.fork.Goals as goal

pub returns-clause-added : goal.returns-clause-added
returns-clause-added c =
    let live = seen-live c.self.inside.nodes.slots c.self.inside.ids.slots c.id.inside.0 (rw (← c.self.view_is, ← c.id.view_is) at c.requires.live) in
    let r = the-root c.self.inside.ids.slots c.id.inside.0 live in
    let a = seen-adds c.self.inside.nodes.slots c.fork_root.new.nodes.slots c.self.inside.ids.slots c.fork_root.new.ids.slots c.in_ok-fork.fork (pages_below c.self.inside.nodes.slots r.0.node) (c.in_ok-fork.ensures.added r.0 r.1) in
    let same = ap (λ (m : Option Pages). pages_in m) (map-seen c.self.inside.nodes.slots c.self.inside.ids.slots c.id.inside.0 ∙ ap (map_below c.self.inside.nodes.slots) r.1) in
    rw (← c.self.view_is, ← c.id.view_is) (subst (λ (p : Pages). Adds (seen c.self.inside.nodes.slots c.self.inside.ids.slots) (seen c.fork_root.new.nodes.slots c.fork_root.new.ids.slots) c.in_ok-fork.fork p) (sym same) a)

pub returns-clause-holds : goal.returns-clause-holds
returns-clause-holds c =
    let live = seen-live c.self.inside.nodes.slots c.self.inside.ids.slots c.id.inside.0 (rw (← c.self.view_is, ← c.id.view_is) at c.requires.live) in
    let r = the-root c.self.inside.ids.slots c.id.inside.0 live in
    let a = c.in_ok-fork.ensures.added r.0 r.1 in
    seen-held-same c.self.inside.nodes.slots c.fork_root.new.nodes.slots c.self.inside.ids.slots c.fork_root.new.ids.slots c.args.pool.now (subst (λ d. Holds c.args.pool.now d) (sym c.self.view_is) c.requires.holds) c.fork_root.ensures.kept a.held

pub returns-in_err-fork-clause-holds : goal.returns-in_err-fork-clause-holds
returns-in_err-fork-clause-holds c =
    seen-unchanged c.self.inside.nodes.slots c.fork_root.new.nodes.slots c.self.inside.ids.slots c.fork_root.new.ids.slots c.args.pool.now c.in_err-fork.ensures.err c.in_err-fork.ensures.err_ids (subst (λ d. Holds c.args.pool.now d) (sym c.self.view_is) c.requires.holds)
