-- What a `MemDisk` shows.
use Rattle.std.specs.Prelude.{◌≡◌, ℕ, List, Option, [], length, Bool, true, false, ◌||◌, ◌==◌, nat_le, Result, Ok, Err}
use Rattle.std.specs.List.{list_any}
use Rattle.std.specs.Option.{option_map_or}
use Rattle.disk_model.specs.declared.mem.MemDisk.{MemDisk}
use Rattle.disk_model.specs.declared.disk.DiskError.{DiskError}
use Rattle.disk_model.specs.declared.disk.DiskError.TheVariants.{Fault, Memory}
use Rattle.disk_model.specs.Files.{Files}
use Rattle.disk_model.specs.View.{DiskView}
use Rattle.disk_model.specs.Laws.{IsSound}
use Rattle.disk_model.specs.Record.{files_in, disk_of_files, view_of}
use Rattle.disk_model.specs.Replay.{reads_as_image_now}
use Rattle.disk_model.specs.OfBytes.{HoldsBytes, record_holds}

unfoldable pub mem_view : MemDisk → DiskView
mem_view m = view_of (files_in m.first.entries) m.events.items m.bytes_read

abbrev pub faults_of : MemDisk → ℕ
faults_of m = m.faults

-- the numbers of the calls that are to fail, and from which on all are
abbrev pub fails_of : MemDisk → List ℕ
fails_of m = m.fails.items

abbrev pub stop_of : MemDisk → Option ℕ
stop_of m = m.stop

-- a disk of which no call has been asked, with these files
abbrev pub fresh_view : Files → DiskView
fresh_view files = record { state = disk_of_files files; past = []; appended = 0; bytes_read = 0 }

pub mem_is_sound : (m : MemDisk) → IsSound (mem_view m).state
unfolding mem_view
mem_is_sound m = reads_as_image_now (files_in m.first.entries) m.events.items

pub mem_holds_bytes : (m : MemDisk) → HoldsBytes (mem_view m).state
unfolding mem_view
mem_holds_bytes m = record_holds (files_in m.first.entries) m.events.items m.first_bytes m.wrote_bytes

-- whether the next call is to fail: its number is listed, or `stop` is not above it
abbrev pub is_to_fail : MemDisk → Bool
is_to_fail m = let call = length m.events.items in list_any (λ number. number == call) m.fails.items || option_map_or (λ stop. nat_le stop call) m.stop false

-- the same calls are to fail
pub record HasOrders (old new : MemDisk) : Type 0 where
  pub fails : fails_of new ≡ fails_of old
  pub stop : stop_of new ≡ stop_of old

-- A call fails where it is to, and then all reads as before. Only want of memory comes without cause.
abbrev pub FollowsOrders : {T : Type 0} → Result T DiskError → MemDisk → MemDisk → Type 0
FollowsOrders (Ok x) old new = HasOrders old new × (is_to_fail old ≡ false)
FollowsOrders (Err Fault) old new = HasOrders old new × (is_to_fail old ≡ true) × ((mem_view new).state.files ≡ (mem_view old).state.files)
FollowsOrders (Err Memory) old new = HasOrders old new
