-- Writing a mark.
use Rattle.std.specs.Prelude.{◌≡◌, ◌⊎◌, ℕ, Bool, true, false, ◌||◌, Some, None}
use Rattle.format_spec.specs.Bytes.{Bytes}
use Rattle.disk_model.specs.declared.name.Name.{Name}
use Rattle.disk_model.specs.declared.name.Name.TheVariants as name
use Rattle.disk_model.specs.Files.{Files, same_name, files_with}
use Rattle.disk_model.specs.State.{DiskState, Shows, IsSettled, marks_with}
use Rattle.disk_model.specs.View.{DiskView}

-- the names that are given to write the mark of a height
abbrev pub is_of : ℕ → Name → Bool
is_of height q = same_name (name.Draft height) q || same_name (name.Mark height) q

-- the same files, and this mark
abbrev pub with_mark : ℕ → Bytes → Files → Files
with_mark height text files = files_with files (name.Mark height) (Some text)

-- the image has the files of this disk, or those and this mark, but for loose ones and the draft
abbrev pub IsBeforeOrAfter : DiskState → ℕ → Bytes → Files → Type 0
IsBeforeOrAfter s height text image =
    let loose = marks_with s.loose (name.Draft height) true in
    Shows loose s.files image ⊎ Shows loose (with_mark height text s.files) image

-- the mark is written
pub record HasWritten (height : ℕ) (text : Bytes) (old new : DiskView) : Type 0 where
  pub there : new.state.files (name.Mark height) ≡ Some text
  pub firm : new.state.loose (name.Mark height) ≡ false
  pub no_draft : new.state.files (name.Draft height) ≡ None
  pub settled : IsSettled old.state → IsSettled new.state
