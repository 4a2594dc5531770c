-- What is so of every machine that a script leads to.
use Rattle.std.specs.Prelude.{◌≡◌, ℕ, ◌≤◌, ◌<◌, List, [], ◌∷◌, ◌++◌, length, map}
use Rattle.std.specs.List.{AllByRecursion}
use Rattle.format_spec.specs.declared.limits.TheConstants.{MAX_HEIGHTS, MAX_PUBLISHED}
use Rattle.state_spec.specs.State.{State, IsState, HasPageRounds}
use Rattle.store_spec.specs.Image.{Published, heights_of}
use Rattle.script_text.specs.Commands.{IsCommand}
use Rattle.script_text.specs.declared.command.Command.{Command}
use Rattle.machine_spec.specs.Machine.{Machine, start}
use Rattle.machine_spec.specs.States.{NamedMemory, memories_of}
use Rattle.machine_spec.specs.Step.{step}

-- a valid state of version 1, as yet, with rounds of pages that are there
pub record IsWholeState (s : State) : Type 0 where
  pub valid : IsState s
  pub version : s.version ≡ 1
  pub rounds : AllByRecursion (λ n. HasPageRounds n.memory) (memories_of s)

-- a canister is born, and its pages are written, at this height or before
pub record IsBornBy (height : ℕ) (n : NamedMemory) : Type 0 where
  pub birth : n.birth ≤ height
  pub rounds : AllByRecursion (λ r. r.1 ≤ height) n.memory.rounds

-- no birth and no round of a state is above its height
abbrev pub IsWithin : ℕ × State → Type 0
IsWithin k = AllByRecursion (IsBornBy k.0) (memories_of k.1)

-- a fact of each element and each later one
abbrev pub EachLater : {A : Type 0} → (A → A → Type 0) → List A → Type 0
EachLater R [] = Unit {0}
EachLater R (x ∷ xs) = AllByRecursion (R x) xs × EachLater R xs

-- numbers of which each is below all later ones
abbrev pub Ascend : List ℕ → Type 0
Ascend ns = EachLater (λ (a : ℕ) (b : ℕ). a < b) ns

-- a published height at which a machine may begin
pub record MayBegin (p : Published) : Type 0 where
  pub from_one : 1 ≤ p.height
  pub valid : IsState p.state
  pub version : p.state.version ≡ 1

pub record AreHeights (ps : List Published) : Type 0 where
  pub ascend : Ascend (heights_of ps)
  pub few : length ps ≤ MAX_PUBLISHED
  pub each : AllByRecursion MayBegin ps

-- Heights in memory are above 0 and ascend, and live is above them and above the published ones.
pub record IsSound (m : Machine) : Type 0 where
  pub live : IsWholeState m.live
  pub memory : AllByRecursion (λ k. IsWholeState k.1) m.memory
  pub within : AllByRecursion IsWithin (m.memory ++ (m.height, m.live) ∷ [])
  pub ascends : Ascend (0 ∷ (map (λ k. k.0) m.memory ++ m.height ∷ []))
  pub published : AreHeights m.published
  pub above : AllByRecursion (λ p. p.height < m.height) m.published
  pub few_in_memory : length m.memory ≤ MAX_HEIGHTS

-- the step of a command that a line may spell keeps it
abbrev pub StepKeeps : Machine → Command → Type 0
StepKeeps m command = IsCommand command → IsSound m → IsSound (step m command).after

-- a machine that begins at published heights has it
abbrev pub StartIsSound : List Published → Type 0
StartIsSound ps = AreHeights ps → IsSound (start ps)
