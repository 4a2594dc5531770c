use Rattle.mark_file.proofs.Wholes.{mark_fits}
use Rattle.mark_file.proofs.mark.Mark.decode_both.Goals as goal

pub returns-in-Ok-clause-fits : goal.returns-in-Ok-clause-fits
returns-in-Ok-clause-fits c = mark_fits _ _ c.in-Ok.ensures.mark.good
