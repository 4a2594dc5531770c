use Rattle.std.proofs.Common.{arith}
use Rattle.sys_state.proofs.Canisters.{removes}
use Rattle.sys_state.proofs.state.SysState.remove.Goals as goal

pub invariant_of-self : goal.invariant_of-self
invariant_of-self c =
    let done = removes _ c.self.invariant.0 c.args.id.now c.in-Ok.i (rw (← c.self.view_is) at c.in-Ok.ensures) c.remove-record.result c.remove-record.ensures.value in
    rw c.remove-record.ensures.items (done.kept, omega (arith, done.pages, c.self.invariant.1))

pub returns-clause-removed : goal.returns-clause-removed
returns-clause-removed c =
    let done = removes _ c.self.invariant.0 c.args.id.now c.in-Ok.i (rw (← c.self.view_is) at c.in-Ok.ensures) c.remove-record.result c.remove-record.ensures.value in
    rw (← c.self.view_is) (rw c.remove-record.ensures.items done.removes)
