use Rattle.std.proofs.Common.{◌≡◌, ◌∙◌, sym, ap, arith, rules, Option}
use Rattle.std.specs.Prelude.{option_map}
use Rattle.sync_spec.specs.Messages.{Content, ask_fields, read_answer}
use Rattle.sync_plan.specs.Views.{ask_of, content_of, answer_of}
use Rattle.sync_plan.proofs.Contents.{with_ask, no_ask, ask_first, answer_in}
use Rattle.sync_plan.proofs.answer.Answer.decode.Goals as goal

pub returns-in_default-clause-value : goal.returns-in_default-clause-value
returns-in_default-clause-value c = sym (no_ask c.args.bytes.now (omega arith) (rw c.new-reader.ensures at c.in_default.ensures))

pub returns : goal.returns
returns c =
    let s = c.args.bytes.now in
    let ask = ask_of c.in-Some.ask in
    let made : option_map answer_of c.map.result ≡ option_map (with_ask ask) (option_map content_of c.in_ok-content.content) = search rules in
    let first = ask_first s (omega arith) ask c.read_ask.new.reader (ap ask_fields (sym c.new-reader.ensures) ∙ c.in-Some.ensures) in
    let value : option_map answer_of c.map.result ≡ read_answer s = made ∙ ap (λ (content : Option Content). option_map (with_ask ask) content) c.in_ok-content.ensures ∙ sym first in
    record { value = value; spelled = answer_in s (λ i. omega (arith, c.type_inv.bytes i)) c.map.result value }
