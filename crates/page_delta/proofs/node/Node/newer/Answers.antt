use Rattle.std.proofs.Common.{◌∙◌, sym}
use Rattle.page_delta.proofs.LeafCopies.{newer-start, newer-pass, newer-old, newer-take}
use Rattle.page_delta.proofs.node.Node.newer.Goals as goal
use Rattle.page_delta.proofs.node.Node.newer.Goals.{in-Some+then-entry-b, in-Some+else-entry-b, in_default}

pub loop-digit-init : goal.loop-digit-init
loop-digit-init c = newer-start c.args.b c.args.self.now c.empty-leaf.result c.empty-leaf.ensures

pub loop-digit-preserved : goal.loop-digit-preserved
loop-digit-preserved c =
    elim c.match-entry.branch [
      | in-Some+then-entry-b w ↦ rw (w.leaf-is, w.pages-is, w.set_entry.ensures)
          (newer-take c.args.b c.args.self.now c.loop-digit.leaf c.loop-digit.pages c.loop-digit.digit w.in-Some.entry
          c.loop-digit.invariant c.loop-digit-test.true (sym c.entry.ensures ∙ w.in-Some.is) w.if-entry-b.true)
      | in-Some+else-entry-b w ↦ rw (w.leaf-is, w.pages-is)
          (newer-old c.args.b c.args.self.now c.loop-digit.leaf c.loop-digit.pages c.loop-digit.digit w.in-Some.entry
          c.loop-digit.invariant c.loop-digit-test.true (sym c.entry.ensures ∙ w.in-Some.is) w.if-entry-b.false)
      | in_default w ↦ rw (w.leaf-is, w.pages-is)
          (newer-pass c.args.b c.args.self.now c.loop-digit.leaf c.loop-digit.pages c.loop-digit.digit c.loop-digit.invariant
          c.loop-digit-test.true (sym c.entry.ensures ∙ w.in_default.is))
    ]
