use Rattle.std.proofs.Common.{◌∙◌, List, option_map, find, ap}
use Rattle.sync_plan.specs.Views.{item_of}
use Rattle.sync_spec.specs.Core.{Core, is_unasked}
use Rattle.sync_core.specs.declared.tried.Wanted.{Wanted}
use Rattle.sync_core.specs.Fresh.{items_of}
use Rattle.sync_core.specs.Views.{all_wanted}
use Rattle.sync_core.proofs.Calls.{first_of_tried, first_of_fresh, seen_item}
use Rattle.sync_core.proofs.state.SyncCore.first_unasked.Goals as goal

pub returns-in-Some : goal.returns-in-Some
returns-in-Some c =
    first_of_tried (all_wanted c.self.inside.tried.items) (items_of c.self.inside.fresh) (item_of c.in-Some.item)
    (c.in-Some.ensures ∙ ap (λ (ws : List Wanted). option_map (λ w. w.item) (find is_unasked (all_wanted ws))) c.deref.ensures.value)
    ∙ ap (λ (k : Core). option_map (λ w. w.item) (find is_unasked k.missing)) c.self.view_is

pub returns-in-None : goal.returns-in-None
returns-in-None c =
    seen_item item_of c.first.result _ c.first.ensures
    ∙ first_of_fresh (all_wanted c.self.inside.tried.items) (items_of c.self.inside.fresh)
    (c.in-None.ensures ∙ ap (λ (ws : List Wanted). option_map (λ w. w.item) (find is_unasked (all_wanted ws))) c.deref.ensures.value)
    ∙ ap (λ (k : Core). option_map (λ w. w.item) (find is_unasked k.missing)) c.self.view_is
