use Rattle.state_cli.proofs.Endings.{empty_stands}
use Rattle.state_cli.proofs.laws.an_empty_disk_stands_for_no_heights.Goals as goal

pub returns : goal.returns
returns c = empty_stands
