use Rattle.std.specs.Prelude.{Ok, Err}
use Rattle.format_spec.specs.Bytes.{bytes_cmp}
use Rattle.state_spec.proofs.Keys.{ids_total, ids_apart}
use Rattle.sys_state.proofs.Kept.{ids_sorted}
use Rattle.state_spec.proofs.Places.{placed}
use Rattle.sys_state.proofs.state.SysState.place.Goals as goal

pub returns-in-Ok : goal.returns-in-Ok
returns-in-Ok c = rw (← c.self.view_is) (placed bytes_cmp ids_total ids_apart c.args.id.now c.self.inside.canisters.items (ids_sorted _ c.self.invariant.0) (Ok c.in-Ok.i) (rw c.deref.ensures.value at c.in-Ok.ensures.bound) (rw c.deref.ensures.value at c.in-Ok.ensures.position))

pub returns-in-Err : goal.returns-in-Err
returns-in-Err c = rw (← c.self.view_is) (placed bytes_cmp ids_total ids_apart c.args.id.now c.self.inside.canisters.items (ids_sorted _ c.self.invariant.0) (Err c.in-Err.i) (rw c.deref.ensures.value at c.in-Err.ensures.bound) (rw c.deref.ensures.value at c.in-Err.ensures.position))
