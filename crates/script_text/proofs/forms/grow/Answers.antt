use Rattle.std.proofs.Common.{rules}
use Rattle.script_text.proofs.OtherWords.{grow_other}
use Rattle.script_text.proofs.forms.grow.Goals.{in_default-via-then-rest-lt3, in_default-via-else-rest-lt3+else-rest-lt4}
use Rattle.script_text.proofs.forms.grow.Goals as goal

pub returns-in_default-clause-command : goal.returns-in_default-clause-command
returns-in_default-clause-command c = grow_other (λ word. word.now) c.args.rest.now (λ n. elim c.in_default.branch [
  | in_default-via-then-rest-lt3 w ↦ search rules
  | in_default-via-else-rest-lt3+else-rest-lt4 w ↦ search rules
])
