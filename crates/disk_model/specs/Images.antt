-- The image that a disk in memory makes for each choice.
use Rattle.std.specs.Prelude.{ℕ, Bool, true, false, not, ◌||◌, ◌&&◌, List, [], ◌∷◌, Option, None, Some, is_some, unwrap_or, ◌==◌, ◌/◌, ◌%◌, take, length, replicate, if◌then◌else◌}
use Rattle.disk_model.specs.declared.name.Name.{Name}
use Rattle.disk_model.specs.declared.event.Event.{Event}
use Rattle.disk_model.specs.Files.{Files, same_name, files_with, files_after_rename}
use Rattle.disk_model.specs.State.{DiskState}
use Rattle.disk_model.specs.Call.{Call, look, settle, create, append, seal, rename, remove}
use Rattle.disk_model.specs.Record.{Entries, call_of, disk_of_files, after_event}

-- what a crash makes of a loose file: nothing, the whole, half of it, or as many other bytes
abbrev pub spoiled_file : ℕ → List ℕ → Option (List ℕ)
spoiled_file how bytes =
    if how == 0 then None else (if how == 1 then Some bytes else (if how == 2 then Some (take (length bytes / 2) bytes) else Some (replicate (length bytes) 255)))

-- what was chosen, spoiled where a file is loose
abbrev pub spoiled_where : ℕ → (Name → Bool) → Files → Files → Files
spoiled_where how loose reading chosen = λ q. if loose q && is_some (reading q) then spoiled_file how (unwrap_or (reading q) []) else chosen q

-- the last of these
abbrev pub last_from : Files → List Files → Files
last_from f [] = f
last_from f (g ∷ outcomes) = last_from g outcomes

-- what is on the disk where all pending changes have happened, which is the last possibility, or none, which is the first
abbrev pub outcome_chosen : Bool → List Files → Files
outcome_chosen happened [] = λ q. None
outcome_chosen true (f ∷ outcomes) = last_from f outcomes
outcome_chosen false (f ∷ outcomes) = f

-- By bit 0 of the choice pending changes have happened. Bits 1 and 2 say what becomes of loose files.
unfoldable pub image_of : ℕ → DiskState → Files
image_of choice s = spoiled_where (choice / 2 % 4) s.loose s.files (outcome_chosen (choice % 2 == 1) s.outcomes)

-- ---- the same from a record of calls

-- What the disk has after a call that was done or failed, where it had `chosen` and the files read so.
-- `happened` says whether a rename or a removal that failed has happened.
abbrev pub chosen_after : Bool → Call → Bool → Files → Files → Files
chosen_after happened look done reading chosen = chosen
chosen_after happened settle done reading chosen = if done then reading else chosen
chosen_after happened (create n) done reading chosen = chosen
chosen_after happened (append n bytes) done reading chosen = chosen
chosen_after happened (seal n) done reading chosen = if done then files_with chosen n (reading n) else chosen
chosen_after happened (rename from to) done reading chosen = if done || happened then files_after_rename chosen from to (reading from) else chosen
chosen_after happened (remove n) done reading chosen = if done || happened then files_with chosen n None else chosen

-- how the files read after an event
abbrev pub reading_after : Event → Files → Files
reading_after e reading = (after_event (disk_of_files reading) e).files

abbrev pub chosen_of : Bool → Files → Files → List Event → Files
chosen_of happened reading chosen [] = chosen
chosen_of happened reading chosen (e ∷ events) = chosen_of happened (reading_after e reading) (chosen_after happened (call_of e.act) e.done reading chosen) events

-- whether a name is loose, as long as a file is there
abbrev pub is_marked : Name → Bool → Call → Bool → Bool
is_marked name was look done = was
is_marked name was settle done = was
is_marked name was (create n) done = if same_name n name then true else was
is_marked name was (append n bytes) done = if same_name n name then true else was
is_marked name was (seal n) done = if same_name n name then not done else was
is_marked name was (rename from to) done = if done && (same_name from name || same_name to name) then false else was
is_marked name was (remove n) done = if done && same_name n name then false else was

abbrev pub is_marked_after : Name → Bool → List Event → Bool
is_marked_after name was [] = was
is_marked_after name was (e ∷ events) = is_marked_after name (is_marked name was (call_of e.act) e.done) events

-- these files, but for those of the entries that are loose
abbrev pub spoiled_in : ℕ → List Event → Entries → Files → Files
spoiled_in how events [] files = files
spoiled_in how events (e ∷ entries) files =
    spoiled_in how events entries (if is_marked_after e.0 false events then files_with files e.0 (spoiled_file how e.1.items) else files)
