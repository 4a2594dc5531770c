-- What a record of calls tells of a disk.
use Rattle.std.specs.Prelude.{ℕ, false, List, [], ◌∷◌, if◌then◌else◌, Vec}
use Rattle.std.specs.Option.{option_map}
use Rattle.std.specs.Map.{lookup}
use Rattle.std.specs.declared.alloc.Global.{Global}
use Rattle.disk_model.specs.declared.name.Name.{Name}
use Rattle.disk_model.specs.declared.event.Act.{Act}
use Rattle.disk_model.specs.declared.event.Act.TheVariants.{Look, Settle, Create, Append, Seal, Rename, Remove}
use Rattle.disk_model.specs.declared.event.Event.{Event}
use Rattle.disk_model.specs.Files.{Files, same_name}
use Rattle.disk_model.specs.State.{DiskState}
use Rattle.disk_model.specs.Call.{Call, look, settle, create, append, seal, rename, remove, under_way, done, appended_after}
use Rattle.disk_model.specs.View.{DiskView}

abbrev pub Entries : Type 0
Entries = List (Name × Vec ℕ Global)

-- the files that a map's entries hold
abbrev pub files_in : Entries → Files
files_in entries = λ q. option_map (λ v. v.items) (lookup (same_name q) entries)

-- a disk with these files, all of them firm, and nothing pending
abbrev pub disk_of_files : Files → DiskState
disk_of_files files = record { files = files; loose = λ _. false; outcomes = files ∷ [] }

abbrev pub call_of : Act → Call
call_of Look = look
call_of Settle = settle
call_of (Create name) = create name
call_of (Append name bytes) = append name bytes.items
call_of (Seal name) = seal name
call_of (Rename from to) = rename from to
call_of (Remove name) = remove name

-- a call that failed has changed nothing that reads
abbrev pub after_event : DiskState → Event → DiskState
after_event s e = if e.done then done (call_of e.act) s else under_way (call_of e.act) s

-- the first event first
abbrev pub state_after : DiskState → List Event → DiskState
state_after s [] = s
state_after s (e ∷ events) = state_after (after_event s e) events

abbrev pub past_of : DiskState → List Event → List DiskState
past_of s [] = []
past_of s (e ∷ events) = under_way (call_of e.act) s ∷ past_of (after_event s e) events

-- the bytes appended so far, over a record
abbrev pub appended_of : ℕ → List Event → ℕ
appended_of appended [] = appended
appended_of appended (e ∷ events) = appended_of (if e.done then appended_after (call_of e.act) appended else appended) events

-- what a disk tells that began with these files and has had these events
abbrev pub view_of : Files → List Event → ℕ → DiskView
view_of first events bytes_read = record {
  state = state_after (disk_of_files first) events;
  past = past_of (disk_of_files first) events;
  appended = appended_of 0 events;
  bytes_read = bytes_read;
}
