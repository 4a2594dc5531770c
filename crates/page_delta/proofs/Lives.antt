-- Ids that stay live while another changes.
use Rattle.std.proofs.Common.{◌≡◌, ◌≢◌, ℕ, Option, None, IsSome, sym, ap, subst, ◌∙◌}
use Rattle.page_delta.specs.Delta.{Deltas, Pages, map_of, IsLive}
use Rattle.page_delta.proofs.Sharing.{not-some}

-- an id that was dead is no live one
pub apart : (deltas : Deltas) (live dead : ℕ) → IsLive deltas live → map_of deltas dead ≡ None → live ≢ dead
apart deltas live dead is none same = not-some (map_of deltas live) (ap (λ id. map_of deltas id) same ∙ none) is

pub stays : (old new : Deltas) (changed id : ℕ) → ((other : ℕ) → other ≢ changed → map_of new other ≡ map_of old other) → id ≢ changed → IsLive old id → IsLive new id
stays old new changed id others ne live = subst (λ (o : Option Pages). IsSome o) (sym (others id ne)) live
