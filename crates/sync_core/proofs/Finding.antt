-- The first item without an ask, seen through the view.
use Rattle.std.proofs.Common.{◌≡◌, not, cond, Bool, true, false, List, [], ◌∷◌, find, is_some, option_map, Option, Some, None, refl, ap, ◌∙◌}
use Rattle.sync_plan.specs.Views.{item_of}
use Rattle.sync_spec.specs.Core as spec
use Rattle.sync_core.specs.Views.{wanted_of, all_wanted}
use Rattle.sync_core.specs.declared.tried.Wanted.{Wanted}

same_ask : {X Y : Type 0} (f : X → Y) (o : Option X) → is_some (option_map f o) ≡ is_some o
same_ask f None = refl
same_ask f (Some x) = refl

pub find_items : (ws : List Wanted) → option_map (λ (w : spec.Wanted). w.item) (find spec.is_unasked (all_wanted ws)) ≡ option_map (λ (w : Wanted). item_of w.item) (find (λ (w : Wanted). not (is_some w.ask)) ws)
find_items [] = refl
find_items (w ∷ ws) =
    ap (λ b. option_map (λ (w : spec.Wanted). w.item) (cond (not b) (Some (wanted_of w)) (find spec.is_unasked (all_wanted ws)))) (same_ask _ w.ask)
    ∙ by (is_some w.ask) (find_items ws)
  where
    by : (b : Bool) → option_map (λ (w : spec.Wanted). w.item) (find spec.is_unasked (all_wanted ws)) ≡ option_map (λ (w : Wanted). item_of w.item) (find (λ (w : Wanted). not (is_some w.ask)) ws)
        → option_map (λ (w : spec.Wanted). w.item) (cond (not b) (Some (wanted_of w)) (find spec.is_unasked (all_wanted ws))) ≡ option_map (λ (w : Wanted). item_of w.item) (cond (not b) (Some w) (find (λ (w : Wanted). not (is_some w.ask)) ws))
    by true ih = ih
    by false ih = refl
