use Rattle.sys_state.proofs.Entries.{entry_deleted}
use Rattle.sys_state.proofs.state.SysState.del.Goals as goal

pub invariant_of-self : goal.invariant_of-self
invariant_of-self c =
    let done = entry_deleted _ c.self.invariant.0 c.args.path.now c.in-Ok.i (rw (← c.self.view_is) at c.in-Ok.ensures) in
    rw c.remove.ensures.items (done.0, c.self.invariant.1)

pub returns-clause-deleted : goal.returns-clause-deleted
returns-clause-deleted c =
    let done = entry_deleted _ c.self.invariant.0 c.args.path.now c.in-Ok.i (rw (← c.self.view_is) at c.in-Ok.ensures) in
    rw (← c.self.view_is) (rw c.remove.ensures.items done.1)
