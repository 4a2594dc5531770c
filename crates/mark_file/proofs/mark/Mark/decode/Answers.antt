use Rattle.mark_file.proofs.Wholes.{errors_alike}
use Rattle.mark_file.proofs.mark.Mark.decode.Goals as goal

pub returns-in-Ok-clause-exact : goal.returns-in-Ok-clause-exact
returns-in-Ok-clause-exact c = (_, c.in-Ok.ensures.exact.mark)

pub returns-in-Err-clause-exact : goal.returns-in-Err-clause-exact
returns-in-Err-clause-exact c = errors_alike _ _ c.in-Err.error c.in-Err.ensures.exact
