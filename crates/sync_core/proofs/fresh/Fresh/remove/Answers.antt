use Rattle.std.proofs.Common.{◌∙◌, sym}
use Rattle.sync_plan.specs.Views.{item_of}
use Rattle.sync_core.specs.Linked.{numbers_of}
use Rattle.sync_core.proofs.Items.{has_number, has_no_number, items_moved, number_taken, none_taken}
use Rattle.sync_core.proofs.fresh.Fresh.remove.Goals as goal

pub returns-in-Some-clause-was : goal.returns-in-Some-clause-was
returns-in-Some-clause-was c = c.remove_number.ensures.was ∙ sym (has_number c.args.self.now.kind c.in-Some.number (item_of c.args.item) (numbers_of c.args.self.now.links) c.in-Some.ensures)

pub returns-in-None-clause-was : goal.returns-in-None-clause-was
returns-in-None-clause-was c = sym (has_no_number c.args.self.now.kind (item_of c.args.item) (numbers_of c.args.self.now.links) c.in-None.ensures)

pub returns-in-Some-clause-items : goal.returns-in-Some-clause-items
returns-in-Some-clause-items c =
    items_moved c.args.self.now.kind c.remove_number.new.self.kind _ _ c.remove_number.ensures.kind c.remove_number.ensures.numbers
    ∙ number_taken c.args.self.now.kind c.in-Some.number (item_of c.args.item) (numbers_of c.args.self.now.links) c.in-Some.ensures

pub returns-in-None-clause-items : goal.returns-in-None-clause-items
returns-in-None-clause-items c = none_taken c.args.self.now.kind (item_of c.args.item) (numbers_of c.args.self.now.links) c.in-None.ensures
