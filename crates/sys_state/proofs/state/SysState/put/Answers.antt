use Rattle.state_spec.specs.State.{is_path}
use Rattle.format_spec.specs.Bytes.{IsBytes}
use Rattle.std.specs.List.{AllByRecursion}
use Rattle.std.proofs.Common.{ap, sym, ◌∙◌, arith, subst}
use Rattle.sys_state.proofs.Entries.{value_put, entry_put, nothing_refused}
use Rattle.sys_state.proofs.state.SysState.put.Goals as goal

pub invariant_of-self : goal.invariant_of-self
invariant_of-self c =
    let done = value_put _ c.self.invariant.0 c.args.path c.in-Ok.i (rw (← c.self.view_is) at c.in-Ok.ensures) c.args.value c.index_mut.result.now c.index_mut.ensures.value (rw c.bytes-bytes.ensures.value at c.bytes-bytes.ensures.bytes) c.requires in
    (done.0, c.self.invariant.1)

pub returns-in-Ok-clause-put : goal.returns-in-Ok-clause-put
returns-in-Ok-clause-put c =
    let done = value_put _ c.self.invariant.0 c.args.path c.in-Ok.i (rw (← c.self.view_is) at c.in-Ok.ensures) c.args.value c.index_mut.result.now c.index_mut.ensures.value (rw c.bytes-bytes.ensures.value at c.bytes-bytes.ensures.bytes) c.requires in
    rw (← c.self.view_is) done.1

pub returns-in-Ok-clause-answer : goal.returns-in-Ok-clause-answer
returns-in-Ok-clause-answer c =
    rw (← c.self.view_is, nothing_refused _ c.self.invariant.0 c.args.path c.in-Ok.i (rw (← c.self.view_is) at c.in-Ok.ensures) (sym c.is_reserved.ensures ∙ c.if-is_reserved.false)) tt

pub invariant_of-self-in-Err : goal.invariant_of-self-in-Err
invariant_of-self-in-Err c =
    let path = c.args.path in
    let done = entry_put _ c.self.invariant.0 path c.in-Err.i (rw (← c.self.view_is) at c.in-Err.ensures) c.args.value (rw c.deref.ensures.value at (sym c.conflicts.ensures ∙ c.if-conflicts.false))
    (ap is_path (sym c.path.view_is) ∙ c.path.invariant.0) (subst (AllByRecursion IsBytes) c.path.view_is c.path.invariant.1) (sym c.is_reserved.ensures ∙ c.if-is_reserved.false)
    (rw c.bytes-bytes.ensures.value at c.bytes-bytes.ensures.bytes) c.requires (omega (arith, c.len.ensures)) in
    rw c.in_ok-insert-in-Err.ensures.items (done.0, c.self.invariant.1)

pub returns-in_ok-insert-in-Err-clause-put : goal.returns-in_ok-insert-in-Err-clause-put
returns-in_ok-insert-in-Err-clause-put c =
    let path = c.args.path in
    let done = entry_put _ c.self.invariant.0 path c.in-Err.i (rw (← c.self.view_is) at c.in-Err.ensures) c.args.value (rw c.deref.ensures.value at (sym c.conflicts.ensures ∙ c.if-conflicts.false))
    (ap is_path (sym c.path.view_is) ∙ c.path.invariant.0) (subst (AllByRecursion IsBytes) c.path.view_is c.path.invariant.1) (sym c.is_reserved.ensures ∙ c.if-is_reserved.false)
    (rw c.bytes-bytes.ensures.value at c.bytes-bytes.ensures.bytes) c.requires (omega (arith, c.len.ensures)) in
    rw (← c.self.view_is) (rw c.in_ok-insert-in-Err.ensures.items done.1)
