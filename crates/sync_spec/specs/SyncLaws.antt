-- What a sync promises.
use Rattle.std.specs.Prelude.{◌≡◌, ◌⊎◌, ℕ, ◌<◌, ◌&&◌, Bool, false, if◌then◌else◌, List, [], ◌∷◌, ◌++◌, length, IsTrue, Contains, Option, Some, None, Ok, ⊤}
use Rattle.std.specs.List.{AllByRecursion, flat_map}
use Rattle.std.specs.FinMap.{is_sorted}
use Rattle.std.specs.Ordering.{nat_cmp}
use Rattle.format_spec.specs.Bytes.{Bytes, IsBytes}
use Rattle.format_spec.specs.Hashes.{Clash}
use Rattle.state_spec.specs.State.{State, IsState, SystemPart}
use Rattle.state_spec.specs.Manifest.{Manifest}
use Rattle.state_spec.specs.ManifestText.{read_manifest}
use Rattle.state_spec.specs.Root.{MetaManifest, IsMeta, meta_text, root_of, root_of_meta, hashed_strings}
use Rattle.sync_spec.specs.Messages.{Item, meta, piece, chunk, Content, Answer, read_answer}
use Rattle.sync_spec.specs.Serving.{Known, is_taken, is_right, pieces, rows}
use Rattle.sync_spec.specs.Core.{Heard, took, same_item, has_item, verdict}
use Rattle.sync_spec.specs.CoreLaws.{IsCore}
use Rattle.sync_spec.specs.Events.{Events, Given, came, all_went_out}
use Rattle.sync_spec.specs.Install.{bytes_had, chunks_had, installed_state}
use Rattle.sync_spec.specs.Sync.{Sync, Stage, at_meta, at_pieces, at_chunks, at_system, at_memories, Told, SyncOutcome, Heights, known_at, is_right_at, is_for, content_bytes, pieces_had, steps_left, install_left, bad_manifest, bad_system, ready, sync_step, sync_after_asks, strings_of_sync}

-- ---- items are missing until they are brought

abbrev pub message_brings : Sync → Option Answer → Item → Bool
message_brings s None item = false
message_brings s (Some a) item = is_for s a.ask && (same_item item a.ask.item && is_right_at (known_at s.root s.stage) a.ask.item a.content)

abbrev pub given_brings : Sync → List Given → Item → Bool
given_brings s (came peer message ∷ given) item = message_brings s (read_answer message) item
given_brings s given item = false

-- in this turn a right answer is taken that names the target and the item, whoever sent it
abbrev pub brings_right : Sync → Events → Item → Bool
brings_right s e item = all_went_out e.asked && given_brings s e.given item

-- ---- installing ends

-- the next step tells one step less, or that the system text is bad
abbrev pub StepsDown : ℕ → SyncOutcome → Type 0
StepsDown k o =
    ((t : Sync) × (o.told ≡ install_left k) × (o.after ≡ Some t) × (steps_left t.stage ≡ k))
    ⊎ ((place : ℕ) × (o.told ≡ bad_system place) × (o.after ≡ None))

abbrev pub IsReady : SyncOutcome → Type 0
IsReady o = (state : State) × (o.told ≡ ready state) × (o.after ≡ None)

-- ---- what a sync knows

-- the bytes that are had of an item are these, and they are among what was hashed
pub record HasBytes (s : Sync) (item : Item) (bytes : Bytes) : Type 0 where
  pub are : bytes_had s.had item ≡ bytes
  pub listed : Contains s.had (item, bytes)
  pub byte_string : IsBytes bytes

-- an item is missing, or its bytes are had and right
abbrev pub IsHeld : Sync → Known → Item → Type 0
IsHeld s known item = (bytes : Bytes) × HasBytes s item bytes × IsTrue (is_right known item bytes)

abbrev pub IsMissingOrHeld : Sync → Known → Item → Type 0
IsMissingOrHeld s known item = IsTrue (has_item s.core.missing item) ⊎ IsHeld s known item

pub record KnowsMeta (s : Sync) (m : MetaManifest) : Type 0 where
  pub good : IsMeta m
  pub version : IsTrue (is_taken m.version)
  pub root : root_of_meta m ≡ s.root
  pub had : HasBytes s meta (meta_text m)

pub record KnowsManifest (s : Sync) (m : Manifest) : Type 0 where
  pub of : MetaManifest
  pub knows_meta : KnowsMeta s of
  pub pieces_held : (i : ℕ) → i < length of.pieces → IsHeld s (pieces of) (piece i)
  pub spelled : read_manifest (flat_map (λ p. p) (pieces_had of s.had)) ≡ Ok m
  pub same_version : m.version ≡ of.version

abbrev pub IsAtStage : Stage → Sync → Type 0
IsAtStage at_meta s = ⊤
IsAtStage (at_pieces m) s = KnowsMeta s m × ((i : ℕ) → i < length m.pieces → IsMissingOrHeld s (pieces m) (piece i))
IsAtStage (at_chunks m) s = KnowsManifest s m × ((i : ℕ) → i < length m.chunks → IsMissingOrHeld s (rows m) (chunk i))
IsAtStage (at_system m) s = KnowsManifest s m × ((i : ℕ) → i < length m.chunks → IsHeld s (rows m) (chunk i))
IsAtStage (at_memories m state left) s =
    KnowsManifest s m × IsState state × (root_of state ≡ s.root)
    × (parts : SystemPart) × (state ≡ installed_state s.height m parts (chunks_had m s.had))

pub record IsSync (s : Sync) : Type 0 where
  pub core : IsCore s.core
  pub stage : IsAtStage s.stage s

-- messages are of bytes
abbrev pub IsByteGiven : Given → Type 0
IsByteGiven (came peer message) = IsBytes message
IsByteGiven given = ⊤

abbrev pub AreByteEvents : Events → Type 0
AreByteEvents e = AllByRecursion IsByteGiven e.given

-- published heights: they ascend, and each has a valid state
pub record ArePublished (heights : Heights) : Type 0 where
  pub ascend : IsTrue (is_sorted nat_cmp heights)
  pub valid : AllByRecursion (λ p. IsState p.1) heights

-- what a sync knows lasts
abbrev pub KeepsKnowing : Heights → Sync → Events → Type 0
KeepsKnowing heights s e =
    ArePublished heights → AreByteEvents e → IsSync s → (t : Sync) → (sync_step heights s e).after ≡ Some t → IsSync t

-- ---- a state that is ready has the target's root

abbrev pub ReadyIsTarget : Heights → Sync → Events → Type 0
ReadyIsTarget heights s e = IsSync s → (state : State) → (sync_step heights s e).told ≡ ready state → IsState state × (root_of state ≡ s.root)

-- ---- a sync fails only where no such state is

abbrev pub item_by : Heard → Item → Content → List (Item × Bytes)
item_by took item content = (item, content_bytes content) ∷ []
item_by verdict item content = []

abbrev pub message_item : Sync → Option Answer → List (Item × Bytes)
message_item s None = []
message_item s (Some a) =
    if is_for s a.ask
    then item_by (verdict s.core (Some a.ask.item) (is_right_at (known_at s.root s.stage) a.ask.item a.content)) a.ask.item a.content
    else []

abbrev pub given_item : Sync → List Given → List (Item × Bytes)
given_item s (came peer message ∷ given) = message_item s (read_answer message)
given_item s given = []

abbrev pub item_in : Stage → Sync → Events → List (Item × Bytes)
item_in (at_system m) s e = []
item_in (at_memories m state left) s e = []
item_in stage s e = if all_went_out e.asked then given_item (sync_after_asks s e.asked) e.given else []

-- the sync as a line ends it, with the item that was taken in this line
abbrev pub sync_at_end : Sync → Events → Sync
sync_at_end s e = record s { had = item_in s.stage s e ++ s.had }

abbrev pub Fails : Told → Type 0
Fails told = ((place : ℕ) × (told ≡ bad_manifest place)) ⊎ ((place : ℕ) × (told ≡ bad_system place))

abbrev pub FailsByClash : Heights → Sync → Events → Type 0
FailsByClash heights s e =
    IsSync s → AreByteEvents e → Fails (sync_step heights s e).told → (state : State) → IsState state → root_of state ≡ s.root
    → Clash (hashed_strings state) (strings_of_sync (sync_at_end s e))
