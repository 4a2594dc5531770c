use Rattle.std.proofs.Common.{◌≡◌, ◌∙◌, sym, ap}
use Rattle.std.proofs.lemmas.Result.{IfOk-weaker}
use Rattle.sync_spec.specs.Messages.{gone, here}
use Rattle.sync_plan.specs.Views.{content_of, answer_of}
use Rattle.sync_plan.proofs.Contents.{answer_spelled}
use Rattle.sync_plan.proofs.answer.Answer.encode.Goals as goal

pub returns-in-Gone : goal.returns-in-Gone
returns-in-Gone c =
    let spelled = answer_spelled (answer_of c.args.self.now) gone (ap content_of c.in-Gone.is) in
    IfOk-weaker c.text_of.result _ _ (λ text e. e ∙ sym spelled) c.text_of.ensures

pub returns-in-Here : goal.returns-in-Here
returns-in-Here c =
    let bytes : content_of c.args.self.now.content ≡ here c.bytes.result.now = ap content_of c.in-Here.is ∙ ap here (sym c.bytes.ensures.value) in
    let spelled = answer_spelled (answer_of c.args.self.now) (here c.bytes.result.now) bytes in
    IfOk-weaker c.text_of-in-Here.result _ _ (λ text e. e ∙ sym spelled) c.text_of-in-Here.ensures
