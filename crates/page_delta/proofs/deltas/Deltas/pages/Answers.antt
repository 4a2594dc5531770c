use Rattle.page_delta.proofs.Seen.{seen-rising}
use Rattle.page_delta.proofs.deltas.Deltas.pages.Goals as goal

pub returns-clause-rising : goal.returns-clause-rising
returns-clause-rising c =
    rw (← c.self.view_is, ← c.id.view_is) (seen-rising c.self.inside.nodes.slots c.self.inside.ids.slots c.id.inside.0 c.index.result.now c.index.ensures)
