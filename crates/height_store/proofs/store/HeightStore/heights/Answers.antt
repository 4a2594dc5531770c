use Rattle.std.proofs.Common.{◌≡◌, ◌∙◌, List, ap, subst}
use Rattle.std.specs.Result.{IfOk}
use Rattle.height_store.specs.Store.{Store, StoredHeight, heights_in}
use Rattle.height_store.proofs.store.HeightStore.heights.Goals as goal

pub returns : goal.returns
returns c =
    subst (λ (hs : List StoredHeight). IfOk c.heights_of.result (λ heights. heights.items ≡ heights_in hs)) (c.deref.ensures.value ∙ ap (λ (s : Store). s.heights) c.self.view_is) c.heights_of.ensures
