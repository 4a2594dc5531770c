use Rattle.std.proofs.Common.{arith}
use Rattle.sys_state.proofs.Canisters.{installs}
use Rattle.sys_state.proofs.state.SysState.set_module.Goals as goal

pub invariant_of-self : goal.invariant_of-self
invariant_of-self c =
    let done = installs _ c.self.invariant.0 c.args.id.now c.in-Ok.i (rw (← c.self.view_is) at c.in-Ok.ensures) c.args.module c.index_mut.result.now c.index_mut.ensures.value c.bytes_of-bytes.ensures c.requires in
    (done.kept, omega (arith, done.pages, c.self.invariant.1))

pub returns-clause-changed : goal.returns-clause-changed
returns-clause-changed c =
    let done = installs _ c.self.invariant.0 c.args.id.now c.in-Ok.i (rw (← c.self.view_is) at c.in-Ok.ensures) c.args.module c.index_mut.result.now c.index_mut.ensures.value c.bytes_of-bytes.ensures c.requires in
    rw (← c.self.view_is) done.changes
