use Rattle.std.proofs.Common.{◌∙◌, List, None, ap}
use Rattle.std.specs.List.{last_or}
use Rattle.height_store.proofs.Newest.{last_at}
use Rattle.height_store.specs.Store.{Store, StoredHeight}
use Rattle.height_store.proofs.store.HeightStore.last.Goals as goal

pub returns-clause-last : goal.returns-clause-last
returns-clause-last c =
    c.last.ensures.value ∙ last_at c.deref.result.now ∙ ap (λ (hs : List StoredHeight). last_or None hs) (c.deref.ensures.value ∙ ap (λ (s : Store). s.heights) c.self.view_is)
