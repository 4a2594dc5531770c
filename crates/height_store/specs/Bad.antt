-- Why a disk does not open: the first mark by height that isn't valid, or the first page file by number that isn't.
use Rattle.std.specs.Prelude.{◌≡◌, ℕ, ◌≤◌, ◌<◌, ◌⊎◌, nat_le, if◌then◌else◌, List, ◌∷◌, ◌++◌, length, map, sum_by, zip, Option, Some, None, IsTrue}
use Rattle.std.specs.List.{flat_map, AllByRecursion}
use Rattle.format_spec.specs.Bytes.{Bytes}
use Rattle.format_spec.specs.declared.limits.TheConstants.{MAX_PUBLISHED}
use Rattle.state_spec.specs.State.{SystemPart}
use Rattle.state_spec.specs.Files.{memories_in}
use Rattle.page_spec.specs.PageFile.{PageIndex}
use Rattle.store_spec.specs.declared.limits.TheConstants.{MAX_MARK}
use Rattle.store_spec.specs.Mark.{Mark, MarkMemory, IsMarkText, is_opened}
use Rattle.disk_model.specs.declared.name.Kind.TheVariants as kind
use Rattle.disk_model.specs.declared.name.Name.TheVariants as name
use Rattle.disk_model.specs.Files.{Files, IsListing}
use Rattle.disk_model.specs.View.{DiskView}
use Rattle.disk_model.specs.OnlyReads.{OnlyReads}
use Rattle.page_file.specs.Files.{HasPages}

-- the mark of this height is this one, of a state with these parts and of a version that stores open
pub record SpellsMark (files : Files) (height : ℕ) (m : Mark) (s : SystemPart) : Type 0 where
  pub text : Bytes
  pub there : files (name.Mark height) ≡ Some text
  pub spelled : IsMarkText height text m s
  pub opened : IsTrue (is_opened m.version)

abbrev pub HasGoodMark : Files → ℕ → Type 0
HasGoodMark files height = (m : Mark) × (s : SystemPart) × SpellsMark files height m s

-- the bytes that are read of a file with the name of a mark: none where it is longer than any mark
abbrev pub mark_bytes : Option Bytes → ℕ
mark_bytes None = 0
mark_bytes (Some text) = if nat_le (length text) MAX_MARK then length text else 0

-- of the marks of these heights
abbrev pub marks_bytes : Files → List ℕ → ℕ
marks_bytes files heights = sum_by (λ height. mark_bytes (files (name.Mark height))) heights

-- nothing is done but to read of the marks of these heights
abbrev pub LooksAtMarks : List ℕ → DiskView → DiskView → Type 0
LooksAtMarks heights old new = OnlyReads (marks_bytes old.state.files heights) old new

-- the mark of this height isn't a valid mark, or there are as many before it as may be; all before it are good
pub record IsFirstBadMark (files : Files) (height : ℕ) : Type 0 where
  pub before : List ℕ
  pub after : List ℕ
  pub listed : IsListing kind.Mark files (before ++ height ∷ after)
  pub good : AllByRecursion (HasGoodMark files) before
  pub few : length before ≤ MAX_PUBLISHED
  pub bad : (length before ≡ MAX_PUBLISHED) ⊎ (HasGoodMark files height → ⊥)

-- ---- page files

-- the page files that a mark names for a memory of so many pages, each with these pages
abbrev pub memory_namings : MarkMemory × (Bytes × ℕ) → List (ℕ × ℕ)
memory_namings e = map (λ n. (n, e.1.1)) e.0.layers

-- those that a mark of a state with these parts names
abbrev pub mark_namings : Mark × SystemPart → List (ℕ × ℕ)
mark_namings m = flat_map memory_namings (zip m.0.memories (memories_in m.1))

-- those that the marks name, by the order of marks, memories and layers
abbrev pub namings : List (Mark × SystemPart) → List (ℕ × ℕ)
namings ms = flat_map mark_namings ms

-- the page file of this number is there, and has no more memory pages than the memory that names it
abbrev pub IsGoodNaming : Files → ℕ × ℕ → Type 0
IsGoodNaming files naming = (i : PageIndex) × (pages : Bytes) × HasPages files naming.0 i pages × (i.memory ≤ naming.1)

-- all marks are good
pub record AreGoodMarks (files : Files) (ms : List (Mark × SystemPart)) : Type 0 where
  pub listed : IsListing kind.Mark files (map (λ m. m.0.height) ms)
  pub few : length ms ≤ MAX_PUBLISHED
  pub spelled : AllByRecursion (λ m. SpellsMark files m.0.height m.0 m.1) ms

-- all marks are good, and one names the page file of this number, which is not good for it; all of lower numbers are
pub record IsFirstBadPage (files : Files) (number : ℕ) : Type 0 where
  pub marks : List (Mark × SystemPart)
  pub good_marks : AreGoodMarks files marks
  pub pages : ℕ
  pub before : List (ℕ × ℕ)
  pub after : List (ℕ × ℕ)
  pub named : namings marks ≡ before ++ (number, pages) ∷ after
  pub bad : IsGoodNaming files (number, pages) → ⊥
  pub first : AllByRecursion (λ naming. naming.0 < number → IsGoodNaming files naming) (namings marks)
