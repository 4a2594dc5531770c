use Rattle.std.proofs.Common.{arith}
use Rattle.sys_state.proofs.Canisters.{certifies}
use Rattle.sys_state.proofs.state.SysState.set_certified.Goals as goal

pub invariant_of-self : goal.invariant_of-self
invariant_of-self c =
    let done = certifies _ c.self.invariant.0 c.args.id.now c.in-Ok.i (rw (← c.self.view_is) at c.in-Ok.ensures) c.args.bytes c.index_mut.result.now c.index_mut.ensures.value (rw c.bytes-bytes.ensures.value at c.bytes-bytes.ensures.bytes) c.requires in
    (done.kept, omega (arith, done.pages, c.self.invariant.1))

pub returns-clause-changed : goal.returns-clause-changed
returns-clause-changed c =
    let done = certifies _ c.self.invariant.0 c.args.id.now c.in-Ok.i (rw (← c.self.view_is) at c.in-Ok.ensures) c.args.bytes c.index_mut.result.now c.index_mut.ensures.value (rw c.bytes-bytes.ensures.value at c.bytes-bytes.ensures.bytes) c.requires in
    rw (← c.self.view_is) done.changes
