-- Why a manager stops or does not open.
use Rattle.std.specs.Prelude.{Result, Ok, Err}
use Rattle.disk_model.specs.declared.disk.DiskError.{DiskError}
use Rattle.disk_model.specs.declared.disk.DiskError.TheVariants as disk
use Rattle.height_store.specs.declared.error.StoreError.{StoreError}
use Rattle.height_store.specs.declared.error.StoreError.TheVariants as store
use Rattle.script_text.specs.declared.reply.Reply.{Reply}
use Rattle.script_text.specs.declared.reply.Reply.TheVariants.{Refused}
use Rattle.script_text.specs.declared.reply.Refusal.TheVariants as refusals
use Rattle.state_manager.specs.declared.stop.Stop.{Stop}
use Rattle.state_manager.specs.declared.stop.Stop.TheVariants as stops
use Rattle.state_manager.specs.declared.stop.OpenError.{OpenError}
use Rattle.state_manager.specs.declared.stop.OpenError.TheVariants as opens

-- an error of the disk that a line stops by
abbrev pub stop_of : DiskError → Stop
stop_of disk.Fault = stops.Disk
stop_of disk.Memory = stops.Memory

-- the reply to a purge that the store refused; an error of the disk stays
abbrev pub purge_reply : StoreError → Result Reply DiskError
purge_reply store.NoHeight = Ok (Refused refusals.NoHeight)
purge_reply store.LastHeight = Ok (Refused refusals.LastHeight)
purge_reply store.Fault = Err disk.Fault
purge_reply e = Err disk.Memory

abbrev pub open_error : StoreError → OpenError
open_error (store.BadMark height) = opens.BadMark height
open_error (store.BadPage number) = opens.BadPage number
open_error store.Fault = opens.Fault
open_error e = opens.Memory

abbrev pub disk_error : DiskError → OpenError
disk_error disk.Fault = opens.Fault
disk_error disk.Memory = opens.Memory

-- a file of the disk is bad
abbrev pub IsBadFile : OpenError → Type 0
IsBadFile (opens.BadMark height) = Unit {0}
IsBadFile (opens.BadPage number) = Unit {0}
IsBadFile e = ⊥
