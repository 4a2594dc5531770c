use Rattle.std.proofs.Common.{rules}
use Rattle.script_text.proofs.OtherWords.{write_other}
use Rattle.script_text.proofs.forms.write.Goals.{in_default-via-then-rest-lt4, in_default-via-else-rest-lt4+else-rest-lt5}
use Rattle.script_text.proofs.forms.write.Goals as goal

pub returns-in_default-clause-command : goal.returns-in_default-clause-command
returns-in_default-clause-command c = write_other (λ word. word.now) c.args.rest.now (λ n. elim c.in_default.branch [
  | in_default-via-then-rest-lt4 w ↦ search rules
  | in_default-via-else-rest-lt4+else-rest-lt5 w ↦ search rules
])
