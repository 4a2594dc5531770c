-- What peers tell, and what a call changes of that.
use Rattle.std.specs.Prelude.{◌≡◌, ℕ, true, false, List, [], ◌∷◌, ◌++◌, length, take, Option, Some, None, Result, Ok, Err}
use Rattle.format_spec.specs.Bytes.{Bytes, IsBytes}
use Rattle.sync_spec.specs.Events.{Asked, Given, came, nothing, failed}
use Rattle.peer_model.specs.declared.peers.PeerError.{PeerError}
use Rattle.peer_model.specs.declared.peers.PeerError.TheVariants.{Fault, Memory}
use Rattle.peer_model.specs.declared.peers.Taken.{Taken}

-- what was asked and what was looked for so far, and the messages that wait, each with its peer
pub record PeersView : Type 0 where
  pub asked : List Asked
  pub given : List Given
  pub waiting : List (ℕ × Bytes)

-- a send has one entry in the list, but for one that wanted memory
abbrev pub asked_by : Result (Unit {0}) PeerError → ℕ → Bytes → List Asked
asked_by (Ok done) peer ask = record { peer = peer; ask = ask; went_out = true } ∷ []
asked_by (Err Fault) peer ask = record { peer = peer; ask = ask; went_out = false } ∷ []
asked_by (Err Memory) peer ask = []

-- the lists of what was asked and given, after a send
pub record Sends (result : Result (Unit {0}) PeerError) (peer : ℕ) (ask : Bytes) (old new : PeersView) : Type 0 where
  pub asked : new.asked ≡ old.asked ++ asked_by result peer ask
  pub given : new.given ≡ old.given

-- a message was taken: its peer and its whole length are told, and as many of its bytes as fit are at the front of a buffer
pub record IsPlaced (peer : ℕ) (message : Bytes) (taken : Taken) (buffer : Bytes) : Type 0 where
  pub peer_is : taken.peer ≡ peer
  pub length_is : taken.len ≡ length message
  pub bytes : IsBytes message
  pub front : take (length message) buffer ≡ take (length buffer) message

-- what a call of `next` found: it has one entry, but where it wanted memory
abbrev pub Found : Result (Option Taken) PeerError → Bytes → List Given → Type 0
Found (Ok (Some taken)) buffer entries =
    (peer : ℕ) × (message : Bytes) × IsPlaced peer message taken buffer × (entries ≡ came peer message ∷ [])
Found (Ok None) buffer entries = entries ≡ nothing ∷ []
Found (Err Fault) buffer entries = entries ≡ failed ∷ []
Found (Err Memory) buffer entries = entries ≡ []

-- the lists of what was asked and given, after a call of `next`
pub record Looks (result : Result (Option Taken) PeerError) (buffer : Bytes) (old new : PeersView) : Type 0 where
  pub entries : List Given
  pub found : Found result buffer entries
  pub given : new.given ≡ old.given ++ entries
  pub asked : new.asked ≡ old.asked

-- the first message that waits is taken, and nothing is found exactly where none waits
abbrev pub TakesFirst : Result (Option Taken) PeerError → Bytes → List (ℕ × Bytes) → List (ℕ × Bytes) → Type 0
TakesFirst (Ok (Some taken)) buffer old new =
    (peer : ℕ) × (message : Bytes) × IsPlaced peer message taken buffer × (old ≡ (peer, message) ∷ new)
TakesFirst (Ok None) buffer old new = (old ≡ []) × (new ≡ [])
TakesFirst (Err e) buffer old new = new ≡ old
