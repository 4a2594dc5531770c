use Rattle.std.proofs.Common.{arith}
use Rattle.sys_state.proofs.Canisters.{extends}
use Rattle.sys_state.proofs.state.SysState.extend.Goals as goal

pub invariant_of-self-2 : goal.invariant_of-self-2
invariant_of-self-2 c =
    let x = c.index_mut.result.now in
    let done = extends _ c.self.invariant.0 c.args.id.now c.in-Ok.i (rw (← c.self.view_is) at c.in-Ok.ensures) c.args.version c.args.mem c.args.pages x c.set_pages.new.self c.index_mut.ensures.value
    (rw (← c.pages-old.ensures) c.set_pages.ensures) (omega (arith, c.pages-old.ensures, c.memory_limit.ensures.limit)) (omega (arith, c.self.invariant.1, c.state_limit.ensures.limit)) in
    (done.kept, omega (arith, done.pages, c.self.invariant.1))

pub returns-clause-extended : goal.returns-clause-extended
returns-clause-extended c =
    let x = c.index_mut.result.now in
    let done = extends _ c.self.invariant.0 c.args.id.now c.in-Ok.i (rw (← c.self.view_is) at c.in-Ok.ensures) c.args.version c.args.mem c.args.pages x c.set_pages.new.self c.index_mut.ensures.value
    (rw (← c.pages-old.ensures) c.set_pages.ensures) (omega (arith, c.pages-old.ensures, c.memory_limit.ensures.limit)) (omega (arith, c.self.invariant.1, c.state_limit.ensures.limit)) in
    rw (← c.self.view_is) done.changes
