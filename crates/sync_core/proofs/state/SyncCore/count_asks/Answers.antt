use Rattle.std.proofs.Common.{List, ◌∙◌, sym, ap}
use Rattle.sync_spec.specs.Core.{Core, asks_of}
use Rattle.sync_core.specs.declared.tried.Wanted.{Wanted}
use Rattle.sync_core.specs.Fresh.{items_of}
use Rattle.sync_core.specs.Views.{all_wanted}
use Rattle.sync_core.proofs.Parts.{asks_parts}
use Rattle.sync_core.proofs.state.SyncCore.count_asks.Goals as goal

pub returns : goal.returns
returns c = λ peer d below.
    c.count_asks.ensures peer d below
    ∙ ap (λ (ws : List Wanted). asks_of (all_wanted ws) peer) c.deref.ensures.value
    ∙ sym (asks_parts (all_wanted c.self.inside.tried.items) (items_of c.self.inside.fresh) peer)
    ∙ ap (λ (k : Core). asks_of k.missing peer) c.self.view_is
