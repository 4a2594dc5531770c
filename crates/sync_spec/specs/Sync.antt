-- A sync: what it asks for and has, what a message does, and how the state is installed.
use Rattle.std.specs.Prelude.{◌≡◌, ℕ, zero, suc, ◌+◌, ◌==◌, ◌&&◌, Bool, false, if◌then◌else◌, List, [], ◌∷◌, ◌++◌, length}
use Rattle.std.specs.Prelude.{map, codes, Option, Some, None, Result, Ok, Err}
use Rattle.std.specs.List.{flat_map, range_with_len}
use Rattle.format_spec.specs.Bytes.{Bytes, same_bytes}
use Rattle.format_spec.specs.Hashes.{chunk_string, file_string, piece_string, with_separator}
use Rattle.state_spec.specs.State.{State, SystemPart}
use Rattle.state_spec.specs.Manifest.{Manifest, FileRow, ChunkRow, sums_in}
use Rattle.state_spec.specs.ManifestText.{read_manifest}
use Rattle.state_spec.specs.Root.{MetaManifest, read_meta}
use Rattle.sync_spec.specs.Messages.{Item, meta, piece, chunk, Ask, Content, gone, here, Answer, read_answer}
use Rattle.sync_spec.specs.Rows.{system_number}
use Rattle.sync_spec.specs.Serving.{Known, is_right}
use Rattle.sync_spec.specs.Serving as known
use Rattle.sync_spec.specs.Core.{Core, Wanted, Heard, all_pieces, chunks_without, with_items, core_after_turn, verdict, core_after_message}
use Rattle.sync_spec.specs.Core as core
use Rattle.sync_spec.specs.Events.{Events, Asked, Given, came, failed, all_went_out, core_after_asks, FitsTurn, no_events}
use Rattle.sync_spec.specs.Local.{Hit, local_hits, manifests_of, bytes_at}
use Rattle.sync_spec.specs.Install.{bytes_had, chunks_had, file_bytes, memories_to_write, system_for, installed_state}

-- how far a sync is, and what it knows
pub data Stage : Type 0 where
  at_meta : Stage
  at_pieces : MetaManifest → Stage
  at_chunks : Manifest → Stage
  -- no chunk is missing
  at_system : Manifest → Stage
  -- the state is known, and so many of its memories are not written
  at_memories : Manifest → State → ℕ → Stage

pub record Sync : Type 0 where
  pub height : ℕ
  pub root : Bytes
  pub stage : Stage
  pub core : Core
  -- every item had since it began, with its bytes, the last one first; the local chunks are among them
  pub had : List (Item × Bytes)
  -- the local chunks
  pub hits : List Hit

-- what a step of a sync tells
pub data Told : Type 0 where
  none_came : Told
  wrong : ℕ → Told
  late : Told
  took : ℕ → Told
  install_left : ℕ → Told
  bad_manifest : ℕ → Told
  bad_system : ℕ → Told
  peer_fault : Told
  -- this state may be published
  ready : State → Told

-- what it tells, and the sync behind it, if it goes on
pub record SyncOutcome : Type 0 where
  pub told : Told
  pub after : Option Sync

abbrev pub outcome_with : Told → Sync → SyncOutcome
outcome_with told s = record { told = told; after = Some s }

abbrev pub outcome_at_end : Told → SyncOutcome
outcome_at_end told = record { told = told; after = None }

-- a sync to this height and root from so many peers
abbrev pub sync_to : ℕ → Bytes → ℕ → Sync
sync_to height root peers =
    record { height = height; root = root; stage = at_meta; core = core.core_at_start peers; had = []; hits = [] }

-- the published heights, each with its state
abbrev pub Heights : Type 0
Heights = List (ℕ × State)

-- ---- the next list of items

-- steps of installing
abbrev pub steps_left : Stage → ℕ
steps_left (at_system m) = 2 + memories_to_write m
steps_left (at_memories m s left) = 1 + left
steps_left _ = 0

-- installing begins where no chunk is missing
abbrev pub outcome_of_chunks : Sync → Manifest → List Wanted → SyncOutcome
outcome_of_chunks s m [] = outcome_with (install_left (steps_left (at_system m))) (record s { stage = at_system m })
outcome_of_chunks s m missing = outcome_with (took (length missing)) s

-- each chunk that a published height has is had at once
abbrev pub with_hits : Heights → Sync → Manifest → List Hit → Sync
with_hits heights s m hits = record s {
  stage = at_chunks m;
  core = with_items s.core (chunks_without (length m.chunks) (map (λ h. h.chunk) hits));
  had = map (λ h. (chunk h.chunk, bytes_at heights h.source)) hits ++ s.had;
  hits = hits;
}

abbrev pub outcome_of_rows : Heights → Sync → Manifest → SyncOutcome
outcome_of_rows heights s m =
    let next = with_hits heights s m (local_hits (manifests_of heights) m) in outcome_of_chunks next m next.core.missing

abbrev pub outcome_of_manifest : Heights → Sync → Result Manifest ℕ → SyncOutcome
outcome_of_manifest heights s (Err place) = outcome_at_end (bad_manifest place)
outcome_of_manifest heights s (Ok m) = outcome_of_rows heights s m

-- the bytes of the pieces, in order
abbrev pub pieces_had : MetaManifest → List (Item × Bytes) → List Bytes
pieces_had m had = map (λ i. bytes_had had (piece i)) (range_with_len 0 (length m.pieces))

-- the manifest that the pieces spell, which has the version of the meta-manifest
abbrev pub of_version : ℕ → Result Manifest ℕ → Result Manifest ℕ
of_version version (Err place) = Err place
of_version version (Ok m) = if m.version == version then Ok m else Err 4

abbrev pub joined_manifest : MetaManifest → List (Item × Bytes) → Result Manifest ℕ
joined_manifest of had = of_version of.version (read_manifest (flat_map (λ p. p) (pieces_had of had)))

abbrev pub outcome_of_meta : Sync → Option MetaManifest → SyncOutcome
outcome_of_meta s None = outcome_with late s
outcome_of_meta s (Some m) =
    outcome_with (took (length m.pieces)) (record s { stage = at_pieces m; core = with_items s.core (all_pieces (length m.pieces)) })

-- all items of a list are had
abbrev pub outcome_of_list : Heights → Sync → Stage → SyncOutcome
outcome_of_list heights s at_meta = outcome_of_meta s (read_meta (bytes_had s.had meta))
outcome_of_list heights s (at_pieces m) = outcome_of_manifest heights s (joined_manifest m s.had)
outcome_of_list heights s (at_chunks m) = outcome_of_chunks s m []
outcome_of_list heights s stage = outcome_with late s

-- ---- a message

-- by what an item is judged now
abbrev pub known_at : Bytes → Stage → Option Known
known_at root at_meta = Some (known.root root)
known_at root (at_pieces m) = Some (known.pieces m)
known_at root (at_chunks m) = Some (known.rows m)
known_at root stage = None

abbrev pub is_right_at : Option Known → Item → Content → Bool
is_right_at (Some known) item (here bytes) = is_right known item bytes
is_right_at known item content = false

abbrev pub content_bytes : Content → Bytes
content_bytes gone = []
content_bytes (here bytes) = bytes

-- an item is had: the next list of items is made where this one is through
abbrev pub outcome_after_item : Heights → Sync → List Wanted → SyncOutcome
outcome_after_item heights s [] = outcome_of_list heights s s.stage
outcome_after_item heights s missing = outcome_with (took (length missing)) s

abbrev pub outcome_of_item : Heights → Sync → Item → Bytes → SyncOutcome
outcome_of_item heights s item bytes = outcome_after_item heights (record s { had = (item, bytes) ∷ s.had }) s.core.missing

-- what was heard of a peer's answer; the core has it already
abbrev pub outcome_of_verdict : Heard → Heights → Sync → ℕ → Item → Content → SyncOutcome
outcome_of_verdict core.took heights s peer item content = outcome_of_item heights s item (content_bytes content)
outcome_of_verdict core.wrong heights s peer item content = outcome_with (wrong peer) s
outcome_of_verdict core.late heights s peer item content = outcome_with late s

abbrev pub is_for : Sync → Ask → Bool
is_for s ask = (ask.height == s.height) && same_bytes ask.root s.root

-- an answer, right or not, from a peer
abbrev pub outcome_of_answer : Heights → Sync → ℕ → Item → Content → Bool → SyncOutcome
outcome_of_answer heights s peer item content right =
    outcome_of_verdict (verdict s.core (Some item) right) heights (record s { core = core_after_message s.core peer (Some item) right }) peer item content

-- a message that isn't an answer is wrong, and an answer for another target is late
abbrev pub outcome_of_message : Heights → Sync → ℕ → Option Answer → SyncOutcome
outcome_of_message heights s peer None = outcome_with (wrong peer) (record s { core = core_after_message s.core peer None false })
outcome_of_message heights s peer (Some a) =
    if is_for s a.ask
    then outcome_of_answer heights s peer a.ask.item a.content (is_right_at (known_at s.root s.stage) a.ask.item a.content)
    else outcome_with late s

-- ---- a turn

abbrev pub outcome_of_look : Heights → Sync → List Given → SyncOutcome
outcome_of_look heights s (came peer message ∷ given) = outcome_of_message heights s peer (read_answer message)
outcome_of_look heights s (failed ∷ given) = outcome_with peer_fault s
outcome_of_look heights s given = outcome_with none_came s

-- the sync once the asks of a turn were tried
abbrev pub sync_after_asks : Sync → List Asked → Sync
sync_after_asks s asked = record s { core = core_after_asks (core_after_turn s.core) asked }

abbrev pub outcome_of_turn : Heights → Sync → Events → SyncOutcome
outcome_of_turn heights s e =
    if all_went_out e.asked then outcome_of_look heights (sync_after_asks s e.asked) e.given else outcome_with peer_fault (sync_after_asks s e.asked)

-- ---- installing

abbrev pub outcome_of_system : Sync → Manifest → Result SystemPart ℕ → SyncOutcome
outcome_of_system s m (Err place) = outcome_at_end (bad_system place)
outcome_of_system s m (Ok parts) =
    let stage = at_memories m (installed_state s.height m parts (chunks_had m s.had)) (memories_to_write m) in
    outcome_with (install_left (steps_left stage)) (record s { stage = stage })

abbrev pub system_had : Sync → Manifest → Bytes
system_had s m = file_bytes m (chunks_had m s.had) (system_number m)

abbrev pub outcome_of_memory : Sync → Manifest → State → ℕ → SyncOutcome
outcome_of_memory s m state zero = outcome_at_end (ready state)
outcome_of_memory s m state (suc left) = outcome_with (install_left (suc left)) (record s { stage = at_memories m state left })

-- one step of a sync, over the published heights and what the peers did
abbrev pub outcome_at : Stage → Heights → Sync → Events → SyncOutcome
outcome_at (at_system m) heights s e = outcome_of_system s m (system_for m (system_had s m))
outcome_at (at_memories m state left) heights s e = outcome_of_memory s m state left
outcome_at stage heights s e = outcome_of_turn heights s e

unfoldable pub sync_step : Heights → Sync → Events → SyncOutcome
sync_step heights s e = outcome_at s.stage heights s e

-- ---- which events fit

abbrev pub FitsStage : Stage → Sync → Events → Type 0
FitsStage (at_system m) s e = e ≡ no_events
FitsStage (at_memories m state left) s e = e ≡ no_events
FitsStage stage s e = FitsTurn s.height s.root (core_after_turn s.core) e

abbrev pub FitsSync : Sync → Events → Type 0
FitsSync s e = FitsStage s.stage s e

-- ---- what was hashed

-- the bytes of a meta-manifest are what is hashed behind the separator of a root
abbrev pub item_string : Item × Bytes → Bytes
item_string (meta, bytes) = with_separator (codes "ic-state-meta-manifest") bytes
item_string (piece i, bytes) = piece_string bytes
item_string (chunk i, bytes) = chunk_string bytes

-- of the file rows, the files numbered from n
abbrev pub file_strings : ℕ → List FileRow → List ChunkRow → List Bytes
file_strings n [] rows = []
file_strings n (f ∷ fs) rows = file_string (sums_in n rows) ∷ file_strings (suc n) fs rows

abbrev pub rows_known : Stage → List Bytes
rows_known (at_chunks m) = file_strings 0 m.files m.chunks
rows_known (at_system m) = file_strings 0 m.files m.chunks
rows_known (at_memories m state left) = file_strings 0 m.files m.chunks
rows_known stage = []

-- the strings that were hashed for the items had, the local chunks among them, and for the file rows
unfoldable pub strings_of_sync : Sync → List Bytes
strings_of_sync s = map item_string s.had ++ rows_known s.stage
