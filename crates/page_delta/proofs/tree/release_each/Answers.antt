use Rattle.std.proofs.Common.{◌∙◌}
use Rattle.page_delta.proofs.Counting.{item-is}
use Rattle.page_delta.proofs.Pools.{released-none, release-step, release-pass, release-live}
use Rattle.page_delta.proofs.tree.release_each.Goals as goal
use Rattle.page_delta.proofs.tree.release_each.Goals.{in-Some, in_default}

pub loop-entry-init : goal.loop-entry-init
loop-entry-init c = released-none c.args.pool.now c.requires.counted

pub release-requires : goal.release-requires
release-requires c =
    let here = item-is c.args.entries.now c.loop-entry.entry-index c.entry-item.result c.loop-entry-test.true c.entry-item.is ∙ c.in-Some.is in
    release-live c.args.pool.now c.loop-entry.pool c.args.entries.now c.loop-entry.entry-index c.in-Some.entry c.loop-entry.invariant here c.loop-entry-test.true c.requires.enough

pub loop-entry-preserved : goal.loop-entry-preserved
loop-entry-preserved c =
    let old = c.args.pool.now in
    let pool = c.loop-entry.pool in
    let es = c.args.entries.now in
    let i = c.loop-entry.entry-index in
    let item = item-is es i c.entry-item.result c.loop-entry-test.true c.entry-item.is in
    elim c.match-entry.branch [
      | in-Some w ↦
          let live = release-live old pool es i w.in-Some.entry c.loop-entry.invariant (item ∙ w.in-Some.is) c.loop-entry-test.true c.requires.enough in
          rw w.pool-is (release-step old pool w.release.new.self es i w.in-Some.entry c.loop-entry.invariant (item ∙ w.in-Some.is) c.loop-entry-test.true live w.release.ensures.last w.release.ensures.shared)
      | in_default w ↦ rw w.pool-is (release-pass old pool es i c.loop-entry.invariant (item ∙ w.in_default.is) c.loop-entry-test.true)
    ]
