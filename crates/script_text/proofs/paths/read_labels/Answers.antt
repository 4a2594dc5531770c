use Rattle.std.proofs.Common.{◌∙◌, sym}
use Rattle.script_text.specs.Words.{label_of}
use Rattle.script_text.proofs.Each.{behind_nothing, step_more, step_end}
use Rattle.script_text.proofs.paths.read_labels.Goals as goal

pub loop-word-init : goal.loop-word-init
loop-word-init c = rw c.new-labels.ensures.items (behind_nothing _)

pub loop-word-preserved : goal.loop-word-preserved
loop-word-preserved c =
    let words = c.args.words.now in
    rw c.in_ok-push.ensures.items (step_more label_of (λ w. w.now) words c.loop-word.word-index _ c.loop-word.labels.items c.in-Some.label _ c.loop-word-test.true (sym c.in-Some.is ∙ c.in_ok-label.ensures) c.loop-word.invariant)

pub returns : goal.returns
returns c = step_end label_of (λ w. w.now) c.args.words.now c.loop-word.word-index c.loop-word.labels.items _ c.loop-word-test.false c.loop-word.invariant
