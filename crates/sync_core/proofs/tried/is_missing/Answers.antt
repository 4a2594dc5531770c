use Rattle.std.proofs.Common.{◌∙◌, sym}
use Rattle.sync_plan.specs.Views.{item_of}
use Rattle.sync_spec.specs.Core.{same_item}
use Rattle.sync_core.specs.Views.{wanted_of}
use Rattle.sync_core.proofs.Mapping.{any_view}
use Rattle.sync_core.proofs.tried.is_missing.Goals as goal

pub returns : goal.returns
returns c = c.is_among.ensures ∙ sym (any_view wanted_of (λ w. same_item w.item (item_of c.args.item)) c.args.missing.now)
