use Rattle.std.proofs.Common.{◌≡◌, ◌++◌, ◌∷◌, [], ◌∙◌, ap, sym}
use Rattle.std.proofs.lemmas.Result.{on_ok_weaker}
use Rattle.script_text.specs.Commands.{parsed_line}
use Rattle.script_text.specs.Texts.{bad_line_text}
use Rattle.script_text.specs.declared.parsing.Parsed.TheVariants.{BadLine, Line}
use Rattle.state_manager.specs.Kept.{Keeps}
use Rattle.state_cli.proofs.Replies.{silent, bad, spoken, images_of}
use Rattle.state_cli.proofs.Standing.{keeps_images}
use Rattle.state_cli.proofs.answering.answer_into.Goals as goal

pub returns-in-Silent-clause-answer : goal.returns-in-Silent-clause-answer
returns-in-Silent-clause-answer g c =
    let line = c.args.line.now in
    silent g.D.Disk.tells (Keeps c.args.manager.now (g.D.Disk.view c.args.disk.now).state) line c.clear.new.self.items (sym c.in_ok-parse_line.ensures.parsed ∙ c.in-Silent.is) c.clear.ensures.items

pub returns-in_ok-push-in-BadLine-clause-answer : goal.returns-in_ok-push-in-BadLine-clause-answer
returns-in_ok-push-in-BadLine-clause-answer g c =
    let line = c.args.line.now in
    let text = c.in_ok-push-in-BadLine.ensures.items ∙ ap (λ t. t ++ 10 ∷ []) (c.in_ok-write_bad_line-in-BadLine.ensures ∙ ap (λ t. t ++ bad_line_text) c.clear.ensures.items) in
    bad g.D.Disk.tells (Keeps c.args.manager.now (g.D.Disk.view c.args.disk.now).state) line _ (sym c.in_ok-parse_line.ensures.parsed ∙ c.in-BadLine.is) text

pub returns-in-Line-clause-answer : goal.returns-in-Line-clause-answer
returns-in-Line-clause-answer g c =
    let line = c.args.line.now in
    let is : parsed_line line ≡ Line c.in-Line.command = sym c.in_ok-parse_line.ensures.parsed ∙ c.in-Line.is in
    on_ok_weaker c.answer_command.result (λ done. spoken g.D.Disk.tells (Keeps c.args.manager.now (g.D.Disk.view c.args.disk.now).state) line
    (Keeps c.answer_command.new.manager (g.D.Disk.view c.answer_command.new.disk).state) c.in-Line.command c.answer_command.new.out.items is done) c.answer_command.ensures.answer

pub returns-in-Line-clause-images : goal.returns-in-Line-clause-images
returns-in-Line-clause-images g c =
    let is : parsed_line c.args.line.now ≡ Line c.in-Line.command = sym c.in_ok-parse_line.ensures.parsed ∙ c.in-Line.is in
    images_of g.D.Disk.tells (Keeps c.args.manager.now (g.D.Disk.view c.args.disk.now).state) c.args.line.now (g.D.Disk.view c.args.disk.now) (g.D.Disk.view c.answer_command.new.disk) c.in-Line.command is c.answer_command.ensures.images

pub returns-in-Silent-clause-images : goal.returns-in-Silent-clause-images
returns-in-Silent-clause-images g c = λ tells m k. keeps_images c.args.manager.now (g.D.Disk.view c.args.disk.now) m _ k

pub returns-in_err-parse_line-clause-images : goal.returns-in_err-parse_line-clause-images
returns-in_err-parse_line-clause-images g c = λ tells m k. keeps_images c.args.manager.now (g.D.Disk.view c.args.disk.now) m _ k

pub returns-in_err-write_bad_line-in-BadLine-clause-images : goal.returns-in_err-write_bad_line-in-BadLine-clause-images
returns-in_err-write_bad_line-in-BadLine-clause-images g c = λ tells m k. keeps_images c.args.manager.now (g.D.Disk.view c.args.disk.now) m _ k

pub returns-in_err-push-in-BadLine-clause-images : goal.returns-in_err-push-in-BadLine-clause-images
returns-in_err-push-in-BadLine-clause-images g c = λ tells m k. keeps_images c.args.manager.now (g.D.Disk.view c.args.disk.now) m _ k

pub returns-in_ok-push-in-BadLine-clause-images : goal.returns-in_ok-push-in-BadLine-clause-images
returns-in_ok-push-in-BadLine-clause-images g c = λ tells m k. keeps_images c.args.manager.now (g.D.Disk.view c.args.disk.now) m _ k
