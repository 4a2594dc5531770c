use Rattle.hash_lanes.proofs.EachLane.{shifts}
use Rattle.hash_lanes.proofs.words.shift.Goals as goal

pub returns : goal.returns
returns c = shifts c.args.k c.args.x c.fits-x.0
