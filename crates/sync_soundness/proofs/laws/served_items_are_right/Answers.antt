use Rattle.sync_soundness.proofs.Honest.{served_right, served_brings}
use Rattle.sync_soundness.proofs.laws.served_items_are_right.Goals as goal

pub returns : goal.returns
returns c = record { right = served_right; brings = served_brings }
