use Rattle.format_spec.specs.Bytes.{path_cmp}
use Rattle.state_spec.proofs.Keys.{paths_total, paths_apart}
use Rattle.sys_state.proofs.Entries.{entries_of}
use Rattle.state_spec.proofs.Places.{placed}
use Rattle.sys_state.proofs.state.SysState.entry_place.Goals as goal

pub returns : goal.returns
returns c = rw (← c.self.view_is) (placed path_cmp paths_total paths_apart c.args.path.now c.self.inside.entries.items (entries_of _ c.self.invariant.0).paths_ascend c.search.result (rw c.deref.ensures.value at c.search.ensures.bound) (rw c.deref.ensures.value at c.search.ensures.position))
