-- Peers that are the disks of other stores.
use Rattle.std.specs.Prelude.{◌≡◌, ◌⊎◌, ℕ, ◌+◌, ◌≤◌, max, List, [], ◌∷◌, ◌++◌, set, slice_get, sum_by, Option, Some, None, Result, Ok, Err, IsErrOf, IsTrue, ⊤}
use Rattle.std.specs.List.{AllByRecursion}
use Rattle.format_spec.specs.Bytes.{Bytes}
use Rattle.disk_model.specs.Call.{count_after}
use Rattle.disk_model.specs.Causes.{Rose}
use Rattle.store_spec.specs.Image.{Published, StandsFor, Opens}
use Rattle.disk_model.specs.declared.disk.Disk.{Ghosts}
use Rattle.disk_model.specs.Files.{Files}
use Rattle.height_store.specs.declared.error.StoreError.{StoreError}
use Rattle.height_store.specs.declared.error.StoreError.TheVariants as store
use Rattle.height_store.specs.Kept.{IsReadable}
use Rattle.height_store.specs.Store.{Store, IsHeight}
use Rattle.peer_model.specs.declared.peers.PeerError.{PeerError}
use Rattle.peer_model.specs.declared.peers.PeerError.TheVariants as sent
use Rattle.sync_serve.specs.declared.root.RootError.{RootError}
use Rattle.sync_serve.specs.declared.root.RootError.TheVariants.{Bad, Fault, Memory}
use Rattle.sync_serve.specs.declared.error.ServeError.{ServeError}
use Rattle.sync_serve.specs.declared.error.ServeError.TheVariants as serve
use Rattle.sync_serve.specs.Served.{answer_from}

-- ---- one disk

-- a disk, and its store once that was opened
pub record RootView (D : Type 0) : Type 0 where
  pub disk : D
  pub store : Option Store

-- the store's heights are those that the files have
pub record IsOver (tells : Type 0) (store : Store) (files : Files) : Type 0 where
  pub good : AllByRecursion IsHeight store.heights
  pub readable : tells → IsReadable store.heights files

abbrev pub IsOpenedOver : {D : Type 0} → Ghosts D → Option Store → D → Type 0
IsOpenedOver ghosts None d = ⊤
IsOpenedOver ghosts (Some store) d = IsOver (IsTrue ghosts.tells) store (ghosts.view d).state.files

abbrev pub root_error_of : StoreError → RootError
root_error_of store.Fault = Fault
root_error_of store.Memory = Memory
root_error_of e = Bad

-- what was answered to an ask goes on, with its error
abbrev pub IsAnswered : Result Bytes ServeError → Result Bytes RootError → Type 0
IsAnswered (Ok answer) result = result ≡ Ok answer
IsAnswered (Err serve.Memory) result = result ≡ Err Memory
IsAnswered (Err e) result = result ≡ Err Fault

-- nothing of the disk has changed
abbrev pub IsSameDisk : {D : Type 0} → Ghosts D → D → D → Type 0
IsSameDisk ghosts old new = (ghosts.view new).state ≡ (ghosts.view old).state

-- the disk, as it reads, doesn't open; nothing is said of one that doesn't tell its files
abbrev pub DoesNotOpen : {D : Type 0} → Ghosts D → D → Type 0
DoesNotOpen ghosts d = IsTrue ghosts.tells → Opens (ghosts.view d).state.files → ⊥

-- ---- all of them

-- the disks, the messages that wait, each with its peer, and how often a store wasn't opened for a bad mark or a bad page file
pub record RootsView (D : Type 0) : Type 0 where
  pub disks : List D
  pub waiting : List (ℕ × Bytes)
  pub bad : ℕ

-- the faults of the disks together, and of the stores
abbrev pub faults_of : {D : Type 0} → Ghosts D → RootsView D → ℕ
faults_of ghosts p = sum_by ghosts.faults p.disks + p.bad

-- how often a store was bad, after one more, or after none
abbrev pub next_bad : ℕ → ℕ
next_bad n = max n (count_after n 1)

-- A peer was asked. Nothing of its disk has changed, and the other disks are as they were. The call failed only where that disk
-- did, or isn't opened for a bad file, which was counted.
pub record AsksDisk {D T : Type 0} (ghosts : Ghosts D) (peer : ℕ) (result : Result T PeerError) (old new : RootsView D) : Type 0 where
  pub before : D
  pub after : D
  pub there : slice_get old.disks peer ≡ Some before
  pub disks : new.disks ≡ set old.disks peer after
  pub same : IsTrue ghosts.tells → IsSameDisk ghosts before after
  pub never_falls : ghosts.faults before ≤ ghosts.faults after
  pub bad : (new.bad ≡ old.bad) ⊎ ((new.bad ≡ next_bad old.bad) × IsErrOf result sent.Fault × DoesNotOpen ghosts before)
  pub fault : IsErrOf result sent.Fault → Rose (ghosts.faults before) (ghosts.faults after) ⊎ ((new.bad ≡ next_bad old.bad) × DoesNotOpen ghosts before)

-- a send that was done puts one message of its peer behind those that wait
abbrev pub Queues : ℕ → Result (Unit {0}) PeerError → List (ℕ × Bytes) → List (ℕ × Bytes) → Type 0
Queues peer (Ok done) old new = (answer : Bytes) × (new ≡ old ++ (peer, answer) ∷ [])
Queues peer (Err e) old new = new ≡ old

-- it is the answer from the heights that these files stand for
abbrev pub QueuesServed : Files → ℕ → Bytes → Result (Unit {0}) PeerError → List (ℕ × Bytes) → List (ℕ × Bytes) → Type 0
QueuesServed files peer ask (Ok done) old new = (ps : List Published) → StandsFor files ps → (answer : Bytes) × (answer_from ps ask ≡ Some answer) × (new ≡ old ++ (peer, answer) ∷ [])
QueuesServed files peer ask (Err e) old new = ⊤
