-- A call in the view of peers in memory.
use Rattle.std.proofs.Common.{◌≡◌, ◌↔◌, ℕ, Bool, true, List, [], ◌∷◌, ◌++◌, map, IsTrue, ap, ◌∙◌, subst}
use Rattle.std.proofs.lemmas.List.{map-append}
use Rattle.io_edge.specs.Faults.{IsCounted}
use Rattle.io_edge.specs.Memory.{IsListed, next_count}
use Rattle.sync_spec.specs.Events.{Given}
use Rattle.peer_model.specs.declared.calls.Look.{Look}
use Rattle.peer_model.specs.Orders.{MemView, count_if, IsNoted}
use Rattle.peer_model.specs.Views.{given_of}

-- one more is noted of what was looked for
pub look_noted : (looks room now : List Look) (look : Look) (old : List Given) → room ≡ looks → now ≡ room ++ look ∷ [] → map given_of looks ≡ old → map given_of now ≡ old ++ given_of look ∷ []
look_noted looks room now look old r n o =
    ap (λ (ls : List Look). map given_of ls) (n ∙ ap (λ (ls : List Look). ls ++ look ∷ []) r)
    ∙ map-append given_of looks (look ∷ [])
    ∙ ap (λ (gs : List Given). gs ++ given_of look ∷ []) o

-- a call that is to fail is counted as a fault
pub fault_counted : (before old now : ℕ) (fails : Bool) (fault : Type 0) → before ≡ old → fails ≡ true → IsCounted before now (IsTrue fails) → IsCounted old now fault
fault_counted before old now fails fault is e c = subst (λ (n : ℕ). IsCounted n now fault) is (record { later = c.later; cause = λ f. c.cause e })

-- such a call was listed, and is noted
pub failing : (fails : Bool) (view old new : MemView) → view ≡ old → fails ≡ true → (IsTrue fails ↔ IsListed view.fails view.calls) → new.calls ≡ next_count view.calls → new.faults ≡ count_if fails view.faults → new.fails ≡ view.fails
    → IsListed old.fails old.calls × IsNoted true old new
failing fails view old new is e listed calls faults same =
    subst (λ (v : MemView). IsListed v.fails v.calls × IsNoted true v new) is
    (listed.0 e, record { calls = calls; faults = subst (λ (b : Bool). new.faults ≡ count_if b view.faults) e faults; same = same })
