use Rattle.std.proofs.Common.{◌∙◌, sym, ap}
use Rattle.witness.proofs.Rests.{rests_more, one_more, none_more, all_behind}
use Rattle.witness.proofs.showing.going_on.Goals as goal
use Rattle.witness.proofs.showing.going_on.Goals.{then-goes_on+in_ok-push, else-goes_on}

pub loop-rest-preserved : goal.loop-rest-preserved
loop-rest-preserved c =
    let l = c.args.label.now in
    let x = c.rest-item.result in
    elim c.if-goes_on.branch [
      | then-goes_on+in_ok-push w ↦
          one_more (λ p. p.now) l c.loop-rest.kept.items c.if-goes_on.kept.items x _ _ c.loop-rest.invariant (ap (λ k. k.items) w.kept-is ∙ w.in_ok-push.ensures.items) (sym w.if-goes_on.ensures.value) (all_behind x.now)
          ∙ sym (rests_more (λ p. p.now) l c.args.rests.now c.loop-rest.rest-index x c.loop-rest-test.true c.rest-item.is)
      | else-goes_on w ↦
          none_more (λ p. p.now) l c.loop-rest.kept.items c.if-goes_on.kept.items x _ c.loop-rest.invariant (ap (λ k. k.items) w.kept-is) (sym w.if-goes_on.ensures.value)
          ∙ sym (rests_more (λ p. p.now) l c.args.rests.now c.loop-rest.rest-index x c.loop-rest-test.true c.rest-item.is)
    ]
