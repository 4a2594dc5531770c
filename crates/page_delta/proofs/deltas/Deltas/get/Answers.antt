use Rattle.std.proofs.Common.{◌∙◌, sym, arith}
use Rattle.page_delta.proofs.Rooted.{kept-closed}
use Rattle.page_delta.proofs.Seen.{get-found, get-past}
use Rattle.page_delta.proofs.deltas.Deltas.get.Goals as goal

pub look-requires-clause-closed : goal.look-requires-clause-closed
look-requires-clause-closed c = kept-closed c.self.inside.nodes.slots c.self.inside.ids.slots c.self.invariant

pub returns-then-page-ge1048576 : goal.returns-then-page-ge1048576
returns-then-page-ge1048576 c =
    rw (← c.self.view_is, ← c.id.view_is) (sym (get-past c.self.inside.nodes.slots c.self.inside.ids.slots c.id.inside.0 c.index.result.now c.args.page c.index.ensures c.if-page-ge1048576.true))

pub returns : goal.returns
returns c =
    rw (← c.self.view_is, ← c.id.view_is) (c.look.ensures ∙ sym (get-found c.self.inside.nodes.slots c.self.inside.ids.slots c.id.inside.0 c.index.result.now c.args.page c.index.ensures (omega (arith, c.if-page-ge1048576.false))))
