use Rattle.page_delta.proofs.Seen.{held-viewed, seen-held, all-dead, unused}
use Rattle.page_delta.proofs.Reached.{no-nodes}
use Rattle.page_delta.proofs.Calls.{drops}
use Rattle.page_delta.proofs.deltas.Deltas.drop_into.Goals as goal

pub drop_root-requires-clause-held : goal.drop_root-requires-clause-held
drop_root-requires-clause-held c =
    let h0 = held-viewed c.self.inside.nodes.slots c.self.inside.ids.slots c.args.pool.now c.self.view_is c.requires.holds in
    h0

pub returns-clause-dropped : goal.returns-clause-dropped
returns-clause-dropped c =
    rw (← c.self.view_is, ← c.id.view_is)
    (drops c.self.inside.nodes.slots c.drop_root.new.nodes.slots c.self.inside.ids.slots c.drop_root.new.ids.slots c.args.pool.now c.drop_root.new.pool c.id.inside.0 c.drop_root.ensures.held c.drop_root.ensures.gone c.drop_root.ensures.others c.drop_root.ensures.keeps)

pub returns-clause-holds : goal.returns-clause-holds
returns-clause-holds c = seen-held c.drop_root.new.nodes.slots c.drop_root.new.ids.slots c.drop_root.new.pool c.drop_root.ensures.kept c.drop_root.ensures.held

pub returns-clause-all : goal.returns-clause-all
returns-clause-all c = λ none.
    unused c.drop_root.new.pool c.drop_root.ensures.held.counted (c.drop_root.ensures.none (all-dead c.drop_root.new.nodes.slots c.drop_root.new.ids.slots none))

pub returns-clause-all_nodes : goal.returns-clause-all_nodes
returns-clause-all_nodes c = λ none.
    no-nodes c.drop_root.new.nodes.slots c.drop_root.new.ids.slots c.drop_root.ensures.kept (all-dead c.drop_root.new.nodes.slots c.drop_root.new.ids.slots none)
