use Rattle.std.proofs.Common.{rules}
use Rattle.script_text.proofs.OtherWords.{read_other}
use Rattle.script_text.proofs.forms.read.Goals.{in_default-via-then-rest-lt5, in_default-via-else-rest-lt5+else-rest-lt6}
use Rattle.script_text.proofs.forms.read.Goals as goal

pub returns-in_default-clause-command : goal.returns-in_default-clause-command
returns-in_default-clause-command c = read_other (λ word. word.now) c.args.rest.now (λ n. elim c.in_default.branch [
  | in_default-via-then-rest-lt5 w ↦ search rules
  | in_default-via-else-rest-lt5+else-rest-lt6 w ↦ search rules
])
