use Rattle.std.proofs.Common.{◌≡◌, ap, sym, ◌∙◌, arith}
use Rattle.std.specs.List.{insert}
use Rattle.sys_state.specs.Calls.{newborn}
use Rattle.sys_state.proofs.Canisters.{creates}
use Rattle.sys_state.proofs.state.SysState.create.Goals as goal
use Rattle.state_spec.proofs.Names.{id_test}

pub invariant_of-self-2 : goal.invariant_of-self-2
invariant_of-self-2 c =
    let id = c.args.id in
    let items : c.insert.new.self.items ≡ insert c.self.inside.canisters.items c.in-Err.i (id, newborn c.args.birth) = c.in_ok-insert.ensures.items ∙ ap (λ r. insert c.self.inside.canisters.items c.in-Err.i (id, r)) c.in_ok-record.ensures in
    let done = creates _ c.self.invariant.0 id c.in-Err.i (rw (← c.self.view_is) at c.in-Err.ensures) c.args.birth (omega arith) (id_test id (rw c.bytes-bytes.ensures.value at c.bytes-bytes.ensures.id)) (rw c.bytes-bytes.ensures.value at c.bytes-bytes.ensures.bytes) (omega (arith, c.len.ensures)) in
    rw items (done.kept, c.self.invariant.1 ∙ sym done.pages)

pub returns-clause-created : goal.returns-clause-created
returns-clause-created c =
    let id = c.args.id in
    let items : c.insert.new.self.items ≡ insert c.self.inside.canisters.items c.in-Err.i (id, newborn c.args.birth) = c.in_ok-insert.ensures.items ∙ ap (λ r. insert c.self.inside.canisters.items c.in-Err.i (id, r)) c.in_ok-record.ensures in
    let done = creates _ c.self.invariant.0 id c.in-Err.i (rw (← c.self.view_is) at c.in-Err.ensures) c.args.birth (omega arith) (id_test id (rw c.bytes-bytes.ensures.value at c.bytes-bytes.ensures.id)) (rw c.bytes-bytes.ensures.value at c.bytes-bytes.ensures.bytes) (omega (arith, c.len.ensures)) in
    rw (← c.self.view_is) (rw items done.creates)
