-- A sync from its beginning, step by step.
use Rattle.std.specs.Prelude.{◌≡◌, ◌⊎◌, ℕ, ◌≤◌, ◌||◌, not, Bool, false, List, [], ◌∷◌, filter, Option, Some, IfSome}
use Rattle.std.specs.List.{AllByRecursion}
use Rattle.std.specs.Option.{option_and_then, option_map_or}
use Rattle.format_spec.specs.Bytes.{Bytes}
use Rattle.format_spec.specs.Hashes.{Clash}
use Rattle.format_spec.specs.declared.limits.TheConstants.{MAX_PEERS}
use Rattle.state_spec.specs.State.{State, IsState, SameState}
use Rattle.state_spec.specs.Root.{root_of, hashed_strings}
use Rattle.sync_spec.specs.Messages.{Item}
use Rattle.sync_spec.specs.Serving.{Known}
use Rattle.sync_spec.specs.CoreLaws.{items_missing}
use Rattle.sync_spec.specs.Events.{Events}
use Rattle.sync_spec.specs.Sync.{Sync, Stage, Heights, ready, sync_to, sync_step, known_at, strings_of_sync}
use Rattle.sync_spec.specs.SyncLaws.{brings_right, AreByteEvents, ArePublished, Fails, sync_at_end}

-- a step: the heights that are published then, and what the peers do
pub record Step : Type 0 where
  pub heights : Heights
  pub events : Events

abbrev pub IsStep : Step → Type 0
IsStep x = ArePublished x.heights × AreByteEvents x.events

-- the sync after these steps, if it goes on
abbrev pub after_steps : Sync → List Step → Option Sync
after_steps s [] = Some s
after_steps s (x ∷ steps) = option_and_then (λ t. after_steps t steps) (sync_step x.heights s x.events).after

-- a sync to this height and root that was begun with so many peers, and took these steps
pub record IsRun (height : ℕ) (root : Bytes) (peers : ℕ) (steps : List Step) (s : Sync) : Type 0 where
  pub few_peers : peers ≤ MAX_PEERS
  pub good : AllByRecursion IsStep steps
  pub goes_on : after_steps (sync_to height root peers) steps ≡ Some s

-- what is told to be ready is a valid state with the root that was asked for
abbrev pub DoneIsTarget : ℕ → Bytes → ℕ → List Step → Sync → Heights → Events → Type 0
DoneIsTarget height root peers steps s heights e =
    IsRun height root peers steps s → (state : State) → (sync_step heights s e).told ≡ ready state → IsState state × (root_of state ≡ root)

-- and it is the one valid state with that root, or two strings clash
abbrev pub DoneIsTheState : ℕ → Bytes → ℕ → List Step → Sync → Heights → Events → Type 0
DoneIsTheState height root peers steps s heights e =
    IsRun height root peers steps s → (state : State) → (sync_step heights s e).told ≡ ready state → (other : State) → IsState other → root_of other ≡ root
    → SameState other state ⊎ Clash (hashed_strings other) (hashed_strings state)

-- it fails only where no valid state has the root, or two strings clash
abbrev pub RunFailsByClash : ℕ → Bytes → ℕ → List Step → Sync → Heights → Events → Type 0
RunFailsByClash height root peers steps s heights e =
    IsRun height root peers steps s → AreByteEvents e → Fails (sync_step heights s e).told → (state : State) → IsState state → root_of state ≡ root
    → Clash (hashed_strings state) (strings_of_sync (sync_at_end s e))

-- ---- a list of items that stays the current one

abbrev pub StaysAt : Stage → Sync → List Step → Type 0
StaysAt stage s [] = s.stage ≡ stage
StaysAt stage s (x ∷ steps) = (s.stage ≡ stage) × IfSome (sync_step x.heights s x.events).after (λ t. StaysAt stage t steps)

-- in one of these steps a right answer is taken that names the target and the item, whoever sent it
abbrev pub was_brought : Sync → List Step → Item → Bool
was_brought s [] item = false
was_brought s (x ∷ steps) item =
    brings_right s x.events item || option_map_or (λ t. was_brought t steps item) (sync_step x.heights s x.events).after false

-- an item of the list is missing exactly where no such answer was taken
abbrev pub MissingUntilRight : Stage → Sync → Sync → List Step → Type 0
MissingUntilRight stage s t steps =
    (known : Known) → known_at s.root stage ≡ Some known → StaysAt stage s steps → after_steps s steps ≡ Some t
    → items_missing t.core ≡ filter (λ i. not (was_brought s steps i)) (items_missing s.core)
