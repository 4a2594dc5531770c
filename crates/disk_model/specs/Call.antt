-- What a call does to a disk.
use Rattle.std.specs.Prelude.{◌≡◌, ℕ, ◌+◌, ◌-◌, ◌^◌, min, Bool, true, false, ◌&&◌, ◌||◌, List, [], ◌∷◌, ◌++◌, map, length, None, Some, is_some, unwrap_or}
use Rattle.disk_model.specs.declared.name.Name.{Name}
use Rattle.disk_model.specs.Files.{Files, same_name, files_with, files_after_rename}
use Rattle.disk_model.specs.State.{DiskState, marks_with}

-- a call, as far as it may change files
pub data Call : Type 0 where
  look : Call
  settle : Call
  create : Name → Call
  append : Name → List ℕ → Call
  seal : Name → Call
  rename : Name → Name → Call
  remove : Name → Call

-- whether the call is given this name
abbrev pub is_given : Call → Name → Bool
is_given look q = false
is_given settle q = false
is_given (create name) q = same_name name q
is_given (append name bytes) q = same_name name q
is_given (seal name) q = same_name name q
is_given (rename from to) q = same_name from q || same_name to q
is_given (remove name) q = same_name name q

abbrev pub without : Name → Files → Files
without name files = files_with files name None

-- a disk in the middle of a call, and after one that failed, but for how the names that it is given read
abbrev pub under_way : Call → DiskState → DiskState
under_way look s = s
under_way settle s = s
under_way (create name) s = record s { loose = marks_with s.loose name true }
under_way (append name bytes) s = record s { loose = marks_with s.loose name true }
under_way (seal name) s = record s { loose = marks_with s.loose name true }
under_way (rename from to) s = record s { outcomes = s.outcomes ++ map (λ f. files_after_rename f from to (s.files from)) s.outcomes }
under_way (remove name) s = record s { outcomes = s.outcomes ++ map (without name) s.outcomes }

-- a disk after the call
abbrev pub done : Call → DiskState → DiskState
done look s = s
done settle s = record { files = s.files; loose = λ q. s.loose q && is_some (s.files q); outcomes = s.files ∷ [] }
done (create name) s = record { files = files_with s.files name (Some []); loose = marks_with s.loose name true; outcomes = s.outcomes }
done (append name bytes) s = record { files = files_with s.files name (Some (unwrap_or (s.files name) [] ++ bytes)); loose = marks_with s.loose name true; outcomes = s.outcomes }
done (seal name) s = record { files = s.files; loose = marks_with s.loose name false; outcomes = map (λ f. files_with f name (s.files name)) s.outcomes }
done (rename from to) s = record {
  files = files_after_rename s.files from to (s.files from);
  loose = marks_with (marks_with s.loose from false) to false;
  outcomes = map (λ f. files_after_rename f from to (s.files from)) s.outcomes;
}
done (remove name) s = record { files = without name s.files; loose = marks_with s.loose name false; outcomes = map (without name) s.outcomes }

-- After a fault the disk is as in the middle of the call, and the names that the call is given may read otherwise.
pub record HasFailed (call : Call) (old new : DiskState) : Type 0 where
  pub loose : new.loose ≡ (under_way call old).loose
  pub outcomes : new.outcomes ≡ (under_way call old).outcomes
  pub others : (q : Name) → is_given call q ≡ false → new.files q ≡ old.files q

-- how many bytes the call appends
abbrev pub length_given : Call → ℕ
length_given (append name bytes) = length bytes
length_given _ = 0

-- a count that stops at the top of a `u64`
abbrev pub count_after : ℕ → ℕ → ℕ
count_after count more = min (count + more) (2 ^ 64 - 1)

-- the bytes appended so far, after the call
abbrev pub appended_after : Call → ℕ → ℕ
appended_after (append name bytes) appended = appended + length bytes
appended_after _ appended = appended
