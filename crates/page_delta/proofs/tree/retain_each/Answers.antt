use Rattle.std.proofs.Common.{◌∙◌}
use Rattle.page_delta.proofs.Counting.{item-is}
use Rattle.page_delta.proofs.Pools.{retained-none, retain-step, retain-pass, retain-room}
use Rattle.page_delta.proofs.tree.retain_each.Goals as goal
use Rattle.page_delta.proofs.tree.retain_each.Goals.{in-Some, in_default}

pub loop-entry-init : goal.loop-entry-init
loop-entry-init c = retained-none c.args.pool.now c.requires.counted

pub retain-requires-clause-live : goal.retain-requires-clause-live
retain-requires-clause-live c =
    let here = item-is c.args.entries.now c.loop-entry.entry-index c.entry-item.result c.loop-entry-test.true c.entry-item.is ∙ c.in-Some.is in
    (retain-room c.args.pool.now c.loop-entry.pool c.args.entries.now c.loop-entry.entry-index c.in-Some.entry.slot c.loop-entry.invariant c.loop-entry-test.true
    (c.requires.live c.loop-entry.entry-index c.in-Some.entry here) c.requires.counted (c.requires.room c.in-Some.entry.slot)).0

pub retain-requires-clause-room : goal.retain-requires-clause-room
retain-requires-clause-room c =
    let here = item-is c.args.entries.now c.loop-entry.entry-index c.entry-item.result c.loop-entry-test.true c.entry-item.is ∙ c.in-Some.is in
    (retain-room c.args.pool.now c.loop-entry.pool c.args.entries.now c.loop-entry.entry-index c.in-Some.entry.slot c.loop-entry.invariant c.loop-entry-test.true
    (c.requires.live c.loop-entry.entry-index c.in-Some.entry here) c.requires.counted (c.requires.room c.in-Some.entry.slot)).1

pub loop-entry-preserved : goal.loop-entry-preserved
loop-entry-preserved c =
    let old = c.args.pool.now in
    let pool = c.loop-entry.pool in
    let es = c.args.entries.now in
    let i = c.loop-entry.entry-index in
    let item = item-is es i c.entry-item.result c.loop-entry-test.true c.entry-item.is in
    elim c.match-entry.branch [
      | in-Some w ↦
          let entry = w.in-Some.entry in
          let here = item ∙ w.in-Some.is in
          let room = retain-room old pool es i entry.slot c.loop-entry.invariant c.loop-entry-test.true (c.requires.live i entry here) c.requires.counted (c.requires.room entry.slot) in
          rw w.pool-is (retain-step old pool w.retain.new.self es i entry c.loop-entry.invariant here c.loop-entry-test.true room.0 w.retain.ensures)
      | in_default w ↦ rw w.pool-is (retain-pass old pool es i c.loop-entry.invariant (item ∙ w.in_default.is) c.loop-entry-test.true)
    ]
