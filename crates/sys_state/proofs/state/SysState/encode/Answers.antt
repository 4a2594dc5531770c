use Rattle.std.proofs.Common.{rules}
use Rattle.sys_state.proofs.Kept.{canisters_fit}
use Rattle.sys_state.proofs.Text.{text_is}
use Rattle.sys_state.proofs.state.SysState.encode.Goals as goal

pub canisters_size-requires : goal.canisters_size-requires
canisters_size-requires c = rw c.deref.ensures.value (canisters_fit _ c.self.invariant.0)

pub write_canisters-requires : goal.write_canisters-requires
write_canisters-requires c = rw c.deref-3.ensures.value (canisters_fit _ c.self.invariant.0)

pub returns-clause-text : goal.returns-clause-text
returns-clause-text c = rw (← text_is c.args.self.now) (search rules)
