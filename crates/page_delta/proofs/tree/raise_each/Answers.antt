use Rattle.std.proofs.Common.{◌+◌, take, arith}
use Rattle.page_delta.specs.Nodes.{node_at, count_in, once}
use Rattle.page_delta.specs.Totals.{total}
use Rattle.page_delta.proofs.Counting.{raise-step, pass-step, raise-room, len-recounted}
use Rattle.page_delta.proofs.tree.raise_each.Goals as goal
use Rattle.page_delta.proofs.tree.raise_each.Goals.{in-Some, in_default}

pub raise-requires-clause-room : goal.raise-requires-clause-room
raise-requires-clause-room c =
    (raise-room c.args.nodes.now.slots c.loop-child.nodes.slots c.args.children.now c.loop-child.child-index c.in-Some.child c.loop-child.invariant.each c.loop-child-test.true (c.requires.live c.loop-child.child-index c.in-Some.child c.in-Some.is) (c.requires.room c.in-Some.child)).1

pub loop-child-preserved : goal.loop-child-preserved
loop-child-preserved c =
    elim c.match-child.branch [
      | in-Some w ↦
          let each = raise-step c.args.nodes.now.slots c.loop-child.nodes.slots c.args.children.now c.loop-child.child-index w.in-Some.child c.loop-child.invariant.each w.in-Some.is c.loop-child-test.true (c.requires.live c.loop-child.child-index w.in-Some.child w.in-Some.is) in
          rw (w.nodes-is, w.raise.ensures) record {
            each = each;
            grows = record {
              len = (let len = len-recounted c.args.nodes.now.slots _ (λ m. count_in (node_at c.args.nodes.now.slots m) + total (once m) (take (c.loop-child.child-index + 1) c.args.children.now)) each in omega (arith, len));
              capacity = c.loop-child.invariant.grows.capacity;
            };
          }
      | in_default w ↦
          rw w.nodes-is record {
            each = pass-step c.args.nodes.now.slots c.loop-child.nodes.slots c.args.children.now c.loop-child.child-index c.loop-child.invariant.each w.in_default.is c.loop-child-test.true;
            grows = c.loop-child.invariant.grows;
          }
    ]
