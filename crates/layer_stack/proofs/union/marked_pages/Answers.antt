use Rattle.std.proofs.Common.{false, get_or, ℕ, ap, ◌∙◌, Vec, Global}
use Rattle.layer_stack.proofs.Unions.{filtered_yes, filtered_no}
use Rattle.layer_stack.proofs.union.marked_pages.Goals as goal
use Rattle.layer_stack.proofs.union.marked_pages.Goals.{then-marks-page+in_ok-push, else-marks-page}

pub loop-page-preserved : goal.loop-page-preserved
loop-page-preserved c =
    let n = c.loop-page.page in
    let p = λ (page : ℕ). get_or c.args.marks.now page false in
    elim c.if-marks-page.branch [
      | then-marks-page+in_ok-push w ↦ ap (λ (v : Vec ℕ Global). v.items) w.pages-is ∙ filtered_yes p n c.loop-page.pages.items w.push.new.self.items c.loop-page.invariant w.if-marks-page.true w.in_ok-push.ensures.items
      | else-marks-page w ↦ ap (λ (v : Vec ℕ Global). v.items) w.pages-is ∙ filtered_no p n c.loop-page.pages.items c.loop-page.invariant w.if-marks-page.false
    ]
