use Rattle.page_delta.proofs.Seen.{held-viewed, seen-held}
use Rattle.page_delta.proofs.KeepCalls.{keeps, undone}
use Rattle.page_delta.proofs.deltas.Deltas.keep_after.Goals as goal
use Rattle.format_spec.proofs.Lists.{on_err}

pub keep_root-requires-clause-held : goal.keep_root-requires-clause-held
keep_root-requires-clause-held c = held-viewed c.self.inside.nodes.slots c.self.inside.ids.slots c.args.pool.now c.self.view_is c.requires.holds

pub returns-clause-kept : goal.returns-clause-kept
returns-clause-kept c =
    rw (← c.self.view_is, ← c.id.view_is)
    (keeps c.self.inside.nodes.slots c.keep_root.new.nodes.slots c.self.inside.ids.slots c.keep_root.new.ids.slots c.args.pool.now
    c.keep_root.new.pool c.keep_root.ensures.held c.keep_root.ensures.keeps c.id.inside.0 c.in_ok-kept.kept c.args.b
    c.in_ok-kept.ensures.added)

pub returns-clause-holds : goal.returns-clause-holds
returns-clause-holds c = seen-held c.keep_root.new.nodes.slots c.keep_root.new.ids.slots c.keep_root.new.pool c.keep_root.ensures.kept
    c.keep_root.ensures.held

pub returns-in_err-kept-clause-err : goal.returns-in_err-kept-clause-err
returns-in_err-kept-clause-err c =
    on_err c.from_residual.result (rw (← c.self.view_is)
    (undone c.self.inside.nodes.slots c.keep_root.new.nodes.slots c.self.inside.ids.slots c.keep_root.new.ids.slots c.args.pool.now
    c.keep_root.new.pool c.keep_root.ensures.held c.keep_root.ensures.keeps c.in_err-kept.ensures.err))

pub returns-in_err-kept-clause-holds : goal.returns-in_err-kept-clause-holds
returns-in_err-kept-clause-holds c = seen-held c.keep_root.new.nodes.slots c.keep_root.new.ids.slots c.keep_root.new.pool
    c.keep_root.ensures.kept c.keep_root.ensures.held
