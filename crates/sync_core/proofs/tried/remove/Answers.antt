use Rattle.std.proofs.Common.{not, ◌∙◌, sym, ap}
use Rattle.sync_plan.specs.Views.{item_of}
use Rattle.sync_spec.specs.Core.{same_item}
use Rattle.sync_core.specs.Views.{wanted_of, all_wanted}
use Rattle.sync_core.proofs.Mapping.{filter_view}
use Rattle.sync_core.proofs.tried.remove.Goals as goal

pub returns-clause-items : goal.returns-clause-items
returns-clause-items c = ap all_wanted c.remove_from.ensures.items ∙ sym (filter_view wanted_of (λ w. not (same_item w.item (item_of c.args.item))) c.args.missing.now.items)
