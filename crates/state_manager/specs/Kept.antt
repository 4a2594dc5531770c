-- What a manager holds, and which plain machines it and its disk keep.
use Rattle.std.specs.Prelude.{◌≡◌, ◌==◌, ◌≤◌, ℕ, IsTrue, OnOk, Bool, true, false, if◌then◌else◌, List, [], ◌∷◌, find, Option, Some, None, is_some, Result, Ok, Err, ⊤}
use Rattle.std.specs.List.{AllByRecursion, AllZip, last_or}
use Rattle.std.specs.Option.{option_map_or}
use Rattle.format_spec.specs.declared.limits.TheConstants.{MAX_HEIGHT}
use Rattle.byte_codec.specs.declared.error.NoMemory.{NoMemory}
use Rattle.state_spec.specs.State.{State}
use Rattle.disk_model.specs.State.{DiskState, IsSettled}
use Rattle.disk_model.specs.Spending.{Spends}
use Rattle.disk_model.specs.View.{DiskView, LeavesOnly}
use Rattle.disk_model.specs.declared.disk.DiskError.{DiskError}
use Rattle.height_store.specs.Store.{Store, StoredHeight, GivesFew, height_at, heights_in}
use Rattle.height_store.specs.Kept.{MatchesFiles, KeepsHeights, StandsForEither}
use Rattle.height_store.specs.Known.{KnowsHeight, bytes_at}
use Rattle.script_text.specs.declared.command.Command.{Command}
use Rattle.script_text.specs.declared.command.Command.TheVariants.{Read, Scratch, Checkpoint, Purge, Reset}
use Rattle.script_text.specs.declared.command.HeightOrLive.{HeightOrLive}
use Rattle.script_text.specs.declared.command.HeightOrLive.TheVariants.{Live, Height}
use Rattle.script_text.specs.declared.reply.Reply.{Reply}
use Rattle.machine_spec.specs.Costs.{appends, reads}
use Rattle.machine_spec.specs.Machine.{Machine}
use Rattle.machine_spec.specs.Sound.{IsSound}
use Rattle.machine_spec.specs.Step.{step}
use Rattle.live_state.specs.StateKept.{StateView, KeepsState, live_of}
use Rattle.state_manager.specs.declared.stop.Stop.{Stop}

-- the live state, the states in memory, ascending by height, the published heights, and how an earlier call stopped
pub record ManagerView : Type 0 where
  pub live : StateView
  pub memory : List StateView
  pub store : Store
  pub stopped : Option Stop

-- heights in memory are at most 2^62
abbrev pub HaveHeights : ManagerView → Type 0
HaveHeights held = AllByRecursion (λ state. state.height ≤ MAX_HEIGHT) held.memory

-- the state in memory that a line asks about
abbrev pub held_at : ManagerView → HeightOrLive → Option StateView
held_at held Live = Some held.live
held_at held (Height h) = find (λ state. state.height == h) held.memory

-- what is published at the height that a line asks about
abbrev pub published_height : ManagerView → HeightOrLive → Option StoredHeight
published_height held Live = None
published_height held (Height h) = height_at held.store.heights h

-- the bytes of the memories of the newest published height
abbrev pub newest_bytes : List StoredHeight → ℕ
newest_bytes hs = option_map_or (bytes_at hs) (last_or None (heights_in hs)) 0

-- each state in memory is the machine's
abbrev pub KeepsEach : List StateView → List (ℕ × State) → Type 0
KeepsEach [] [] = ⊤
KeepsEach (held ∷ helds) (k ∷ ks) = KeepsState held k × KeepsEach helds ks
KeepsEach _ _ = ⊥

-- What the manager holds in memory is that machine's, but for the rounds of pages, and each published height is known.
pub record KeepsStates (held : ManagerView) (m : Machine) : Type 0 where
  pub usable : held.stopped ≡ None
  pub live : KeepsState held.live (live_of m)
  pub memory : KeepsEach held.memory m.memory
  pub published : AllZip KnowsHeight held.store.heights m.published

-- The manager and its disk are that machine, which is sound: besides, every image of the disk stands for the machine's
-- published heights, nothing is pending, and the store is over the files.
pub record Keeps (held : ManagerView) (s : DiskState) (m : Machine) : Type 0 where
  pub sound : IsSound m
  pub states : KeepsStates held m
  pub over : MatchesFiles held.store s.files
  pub settled : IsSettled s
  pub heights : KeepsHeights held.store.heights s m.published

-- whether a line may read or change the disk
abbrev pub needs_disk : Command → Bool
needs_disk (Read at id mem offset len) = true
needs_disk (Scratch at) = true
needs_disk Checkpoint = true
needs_disk (Purge height) = true
needs_disk (Reset height) = true
needs_disk command = false

-- the reply to a command that needs no disk is that of the machine's step; the machine after it is kept, and its published
-- heights are the same
abbrev pub Performs : Result Reply NoMemory → ManagerView → Machine → Command → Type 0
Performs (Ok reply) now m command =
    (reply ≡ (step m command).reply) × KeepsStates now (step m command).after × ((step m command).after.published ≡ m.published)
Performs (Err e) now m command = Unit {0}

-- the reply to a command is that of the machine's step, and the machine after it is kept
abbrev pub PerformsOn : Result Reply DiskError → ManagerView → DiskState → Machine → Command → Type 0
PerformsOn (Ok reply) now s m command = (reply ≡ (step m command).reply) × Keeps now s (step m command).after
PerformsOn (Err e) now s m command = Unit {0}

-- the same of a call that may stop
abbrev pub Applies : Result Reply Stop → ManagerView → DiskState → Machine → Command → Type 0
Applies (Ok reply) now s m command = (reply ≡ (step m command).reply) × Keeps now s (step m command).after
Applies (Err stop) now s m command = Unit {0}

-- What a line that may call the disk does, whatever it answers: while it runs every image stands for the published heights
-- before it or for those after the machine's step, and it gives few numbers to page files. Where it is answered, it has appended
-- just the bytes that the machine says, and read no more.
pub record DoesLine (tells : Bool) (old new : ManagerView) (before after : DiskView) (result : Result Reply DiskError) (command : Command) : Type 0 where
  pub reply : IsTrue tells → (m : Machine) → Keeps old before.state m → PerformsOn result new after.state m command
  pub images : IsTrue tells → (m : Machine) → Keeps old before.state m
      → LeavesOnly before after (StandsForEither m.published (step m command).after.published)
  pub over : IsTrue tells → OnOk result (MatchesFiles new.store after.state.files)
  pub spends : IsTrue tells → (m : Machine) → Keeps old before.state m → OnOk result (Spends (appends m command) (reads m command) before after)
  pub numbers_given : GivesFew old.store new.store
  pub same : new.stopped ≡ old.stopped
