use Rattle.std.proofs.Common.{◌∙◌, sym, ap, option_map}
use Rattle.sync_plan.specs.Views.{item_of}
use Rattle.sync_core.specs.declared.tried.Wanted.{Wanted}
use Rattle.sync_core.proofs.Finding.{find_items}
use Rattle.sync_core.proofs.tried.first_unasked.Goals as goal

pub returns-in-Some : goal.returns-in-Some
returns-in-Some c = ap (option_map (λ (w : Wanted). item_of w.item)) c.in-Some.ensures ∙ sym (find_items c.args.missing.now)

pub returns-in-None : goal.returns-in-None
returns-in-None c = ap (option_map (λ (w : Wanted). item_of w.item)) c.in-None.ensures ∙ sym (find_items c.args.missing.now)
