use Rattle.std.proofs.Common.{◌≡◌, ◌∙◌, ℕ, nat_eq, List, ap, subst}
use Rattle.std.specs.List.{list_any}
use Rattle.std.specs.Result.{IfOk}
use Rattle.height_store.specs.Needed.{is_page_needed}
use Rattle.height_store.specs.Store.{Store, StoredHeight}
use Rattle.height_store.proofs.store.HeightStore.needed.Goals as goal

pub returns-clause-each : goal.returns-clause-each
returns-clause-each c =
    subst (λ (hs : List StoredHeight). IfOk c.gather.result (λ numbers. (n : ℕ) → list_any (nat_eq n) numbers.items ≡ is_page_needed hs c.args.pins.now n)) (c.deref.ensures.value ∙ ap (λ (s : Store). s.heights) c.self.view_is) c.gather.ensures.each
