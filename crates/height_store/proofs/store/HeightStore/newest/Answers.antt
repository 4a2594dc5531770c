use Rattle.std.proofs.Common.{◌≡◌, ◌∙◌, ℕ, List, Some, None, ap}
use Rattle.std.specs.List.{last_or}
use Rattle.height_store.proofs.Newest.{last_is}
use Rattle.height_store.specs.declared.store.PublishedHeight.TheInside.{Inside}
use Rattle.height_store.specs.Store.{Store, StoredHeight, heights_in}
use Rattle.height_store.proofs.store.HeightStore.newest.Goals as goal

pub returns-in-Some-clause-newest : goal.returns-in-Some-clause-newest
returns-in-Some-clause-newest c =
    let own : c.newest-inside.inside.0.0.height ≡ c.in-Some.newest.now.mark.height = ap (λ (i : Inside). i.mark.height) c.newest-inside.view_is ∙ ap (λ (h : StoredHeight). h.mark.height) c.newest.view_is in
    let all : c.deref.result.now ≡ c.args.self.now.heights = c.deref.ensures.value ∙ ap (λ (s : Store). s.heights) c.self.view_is in
    ap (λ (n : ℕ). Some n) own ∙ last_is (λ (h : StoredHeight). h.mark.height) _ c.deref.result.now c.in-Some.newest.now c.in-Some.ensures.value ∙ ap (λ (hs : List StoredHeight). last_or None (heights_in hs)) all
