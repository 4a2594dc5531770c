use Rattle.std.proofs.Common.{◌∙◌, sym}
use Rattle.sync_plan.specs.Views.{item_of}
use Rattle.sync_core.specs.Linked.{numbers_of}
use Rattle.sync_core.proofs.Items.{has_number, has_no_number}
use Rattle.sync_core.proofs.fresh.Fresh.has.Goals as goal

pub returns-in-Some : goal.returns-in-Some
returns-in-Some c = c.has_number.ensures.has ∙ sym (has_number c.args.self.now.kind c.in-Some.number (item_of c.args.item) (numbers_of c.args.self.now.links) c.in-Some.ensures)

pub returns-in-None : goal.returns-in-None
returns-in-None c = sym (has_no_number c.args.self.now.kind (item_of c.args.item) (numbers_of c.args.self.now.links) c.in-None.ensures)
