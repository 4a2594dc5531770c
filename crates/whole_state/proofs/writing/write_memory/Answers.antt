use Rattle.std.proofs.Common.{Ok, arith, refl}
use Rattle.disk_model.specs.Writing.{write_done, write_failed, write_stopped, wrote_none}
use Rattle.whole_state.specs.Written.{is_given_since}
use Rattle.whole_state.proofs.Giving.{next_written, counted_as, empty_costs, some_costs}
use Rattle.whole_state.proofs.writing.write_memory.Goals as goal

pub returns-in_err-write_whole-clause-writes : goal.returns-in_err-write_whole-clause-writes
returns-in_err-write_whole-clause-writes g c =
    write_failed g.D.Disk c.write_whole.result _ _ _ _ _ _ _ c.from_residual.ensures.1 c.in_err-write_whole.was (omega (arith, some_costs c.args.memory.now c.if-is_empty.ensures))
    (next_written g.D.Disk c.write_whole.result _ c.args.store.now c.next_number-number.new.self c.next_number-number.result _ _ c.next_number-number.ensures.number c.next_number-number.ensures.store c.write_whole.ensures.writes)

pub returns-in_err-push-clause-writes : goal.returns-in_err-push-clause-writes
returns-in_err-push-clause-writes g c =
    write_stopped g.D.Disk c.write_whole.result _ _ _ _ _ _ c.from_residual-in_err-push.ensures.1 (omega (arith, some_costs c.args.memory.now c.if-is_empty.ensures))
    (next_written g.D.Disk c.write_whole.result _ c.args.store.now c.next_number-number.new.self c.next_number-number.result _ _ c.next_number-number.ensures.number c.next_number-number.ensures.store c.write_whole.ensures.writes)

pub returns-then-is_empty-clause-writes : goal.returns-then-is_empty-clause-writes
returns-then-is_empty-clause-writes g c =
    counted_as g.D.Disk _ _ 0 _ _ _ (empty_costs c.args.memory.now c.if-is_empty.ensures)
    (write_done g.D.Disk (Ok tt) tt _ _ 0 _ _ refl (wrote_none g.D.Disk (is_given_since c.args.store.now c.args.store.now) c.args.disk.now))

pub returns-clause-writes : goal.returns-clause-writes
returns-clause-writes g c =
    counted_as g.D.Disk _ _ _ _ _ _ (some_costs c.args.memory.now c.if-is_empty.ensures)
    (write_done g.D.Disk c.write_whole.result _ _ _ _ _ _ c.in_ok-write_whole.was
    (next_written g.D.Disk c.write_whole.result _ c.args.store.now c.next_number-number.new.self c.next_number-number.result _ _ c.next_number-number.ensures.number c.next_number-number.ensures.store c.write_whole.ensures.writes))
