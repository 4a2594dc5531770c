-- What peers did at a line: the sends, and the messages that were looked for.
use Rattle.std.specs.Prelude.{◌≡◌, ℕ, Bool, true, false, List, [], ◌∷◌, length, Option, Some, None}
use Rattle.std.specs.List.{list_all}
use Rattle.format_spec.specs.Bytes.{Bytes}
use Rattle.sync_spec.specs.Messages.{Item, ask_text}
use Rattle.sync_spec.specs.Core.{Core, next_ask, core_after_send, core_after_failure}

-- a send to a peer, which went out or failed
pub record Asked : Type 0 where
  pub peer : ℕ
  pub ask : Bytes
  pub went_out : Bool

-- what a peer's message was looked for and found: a message, nothing that waits, or a failure
pub data Given : Type 0 where
  came : ℕ → Bytes → Given
  nothing : Given
  failed : Given

pub record Events : Type 0 where
  pub asked : List Asked
  pub given : List Given

abbrev pub no_events : Events
no_events = record { asked = []; given = [] }

abbrev pub all_went_out : List Asked → Bool
all_went_out asked = list_all (λ a. a.went_out) asked

-- ---- the core once these asks were tried

abbrev pub core_after_ask : Core → Bool → Option (ℕ × Item) → Core
core_after_ask c went_out None = c
core_after_ask c true (Some due) = core_after_send c due.0 due.1
core_after_ask c false (Some due) = core_after_failure c due.0

abbrev pub core_after_asks : Core → List Asked → Core
core_after_asks c [] = c
core_after_asks c (a ∷ asked) = core_after_asks (core_after_ask c a.went_out (next_ask c)) asked

-- ---- which events fit

-- the send is the one that is due
abbrev pub IsDue : ℕ → Bytes → Option (ℕ × Item) → Asked → Type 0
IsDue height root None a = ⊥
IsDue height root (Some due) a =
    (a.peer ≡ due.0) × (a.ask ≡ ask_text (record { height = height; root = root; item = due.1 }))

-- behind a send that failed there is none
abbrev pub GoesOn : Bool → List Asked → Type 0 → Type 0
GoesOn true asked rest = rest
GoesOn false asked rest = asked ≡ []

-- the sends that are due in a turn, in order and up to the first that failed
abbrev pub FitsAsks : ℕ → Bytes → Core → List Asked → Type 0
FitsAsks height root c [] = next_ask c ≡ None
FitsAsks height root c (a ∷ asked) =
    IsDue height root (next_ask c) a × GoesOn a.went_out asked (FitsAsks height root (core_after_ask c true (next_ask c)) asked)

-- where no send failed, one message is looked for
abbrev pub FitsGiven : Bool → List Given → Type 0
FitsGiven true given = length given ≡ 1
FitsGiven false given = given ≡ []

-- the events of a turn of a sync with this target, whose core has begun the turn
pub record FitsTurn (height : ℕ) (root : Bytes) (c : Core) (e : Events) : Type 0 where
  pub asks : FitsAsks height root c e.asked
  pub looks : FitsGiven (all_went_out e.asked) e.given
