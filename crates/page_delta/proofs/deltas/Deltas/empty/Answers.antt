use Rattle.std.proofs.Common.{[], sym, subst}
use Rattle.page_delta.specs.Delta.{Holds}
use Rattle.page_delta.proofs.Seen.{seen-adds, seen-held-same}
use Rattle.page_delta.proofs.deltas.Deltas.empty.Goals as goal

pub returns-clause-added : goal.returns-clause-added
returns-clause-added c =
    rw (← c.self.view_is) (seen-adds c.self.inside.nodes.slots c.new_root.new.nodes.slots c.self.inside.ids.slots c.new_root.new.ids.slots c.in_ok-id.id [] c.in_ok-id.ensures.added)

pub returns-clause-holds : goal.returns-clause-holds
returns-clause-holds c = λ pool holds.
    seen-held-same c.self.inside.nodes.slots c.new_root.new.nodes.slots c.self.inside.ids.slots c.new_root.new.ids.slots pool (subst (λ d. Holds pool d) (sym c.self.view_is) holds) c.in_ok-id.ensures.kept c.in_ok-id.ensures.added.held
