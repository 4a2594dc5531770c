use Rattle.std.proofs.Common.{◌∙◌}
use Rattle.sync_plan.specs.Views.{ask_of, content_of}
use Rattle.sync_serve.proofs.Heights.{served_text}
use Rattle.sync_serve.proofs.answers.answer_to.Goals as goal

pub returns-clause-text : goal.returns-clause-text
returns-clause-text g c = λ told ps shows.
    c.in_ok-encode.ensures ∙ served_text _ (ask_of c.args.ask) (content_of c.in_ok-content.content) (c.in_ok-content.ensures.content told ps shows)
