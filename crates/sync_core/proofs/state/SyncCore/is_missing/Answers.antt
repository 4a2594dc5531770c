use Rattle.std.proofs.Common.{List, ◌∙◌, sym, ap}
use Rattle.sync_plan.specs.Views.{item_of}
use Rattle.sync_spec.specs.Core.{Core, has_item}
use Rattle.sync_core.specs.declared.tried.Wanted.{Wanted}
use Rattle.sync_core.specs.Fresh.{items_of}
use Rattle.sync_core.specs.Views.{all_wanted}
use Rattle.sync_core.proofs.Calls.{has_fresh, has_tried}
use Rattle.sync_core.proofs.state.SyncCore.is_missing.Goals as goal

pub returns-then-has : goal.returns-then-has
returns-then-has c =
    c.if-has.true
    ∙ has_fresh (all_wanted c.self.inside.tried.items) (items_of c.self.inside.fresh) (item_of c.args.item) (sym c.has.ensures ∙ c.if-has.true)
    ∙ ap (λ (k : Core). has_item k.missing (item_of c.args.item)) c.self.view_is

pub returns-else-has : goal.returns-else-has
returns-else-has c =
    c.is_missing.ensures
    ∙ ap (λ (ws : List Wanted). has_item (all_wanted ws) (item_of c.args.item)) c.deref.ensures.value
    ∙ has_tried (all_wanted c.self.inside.tried.items) (items_of c.self.inside.fresh) (item_of c.args.item) (sym c.has.ensures ∙ c.if-has.false)
    ∙ ap (λ (k : Core). has_item k.missing (item_of c.args.item)) c.self.view_is
