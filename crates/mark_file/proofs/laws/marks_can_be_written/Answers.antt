use Rattle.mark_file.proofs.Wholes.{mark_fits}
use Rattle.mark_file.proofs.laws.marks_can_be_written.Goals as goal

pub returns : goal.returns
returns c = mark_fits
