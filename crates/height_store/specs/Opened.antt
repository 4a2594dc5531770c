-- What opening a disk gives.
use Rattle.std.specs.Prelude.{◌≡◌, ℕ, ◌+◌, ◌≤◌, Bool, ◌&&◌, not, false, nat_eq, List, length, map, sum_by, Option, Some, None, IsTrue}
use Rattle.std.specs.List.{AllByRecursion, list_any}
use Rattle.state_spec.specs.State.{SystemPart}
use Rattle.sys_state.specs.System.{System, part_of}
use Rattle.store_spec.specs.Mark.{Mark, IsMark, mark_text, is_opened}
use Rattle.page_spec.specs.PageFile.{index_length}
use Rattle.disk_model.specs.declared.name.Kind.{Kind}
use Rattle.disk_model.specs.declared.name.Name.{Name}
use Rattle.disk_model.specs.Files.{Files, number_in}
use Rattle.page_file.specs.Files.{NumberedFile, IsAsKnown}
use Rattle.height_store.specs.Store.{Store}

-- a mark that was read, and the parts that its system text spells
pub record ReadMark : Type 0 where
  pub mark : Mark
  pub system : System

-- it is one of a state with these parts, of a version that stores open; its canisters were born at its height
pub record IsReadMark (m : ReadMark) : Type 0 where
  pub good : IsMark m.mark (part_of m.system)
  pub opened : IsTrue (is_opened m.mark.version)
  pub births : AllByRecursion (λ c. c.1.birth ≡ m.mark.height) m.system.canisters

abbrev pub parts_of : ReadMark → Mark × SystemPart
parts_of m = (m.mark, part_of m.system)

-- no file has more memory pages than a memory that names it
abbrev pub FitNamings : List NumberedFile → List (ℕ × ℕ) → Type 0
FitNamings files namings = AllByRecursion (λ naming. AllByRecursion (λ file. file.number ≡ naming.0 → file.index.memory ≤ naming.1) files) namings

-- a file of this kind with one of these numbers, and none of those
abbrev pub is_number_swept : List ℕ → List ℕ → Option ℕ → Bool
is_number_swept numbers keep None = false
is_number_swept numbers keep (Some n) = list_any (nat_eq n) numbers && not (list_any (nat_eq n) keep)

abbrev pub is_swept : Kind → List ℕ → List ℕ → Name → Bool
is_swept kind numbers keep q = is_number_swept numbers keep (number_in kind q)

-- Opening has read at most these bytes: those of the marks and, once for each page file that a mark names, its index.
pub record ReadsAtMost (files : Files) (store : Store) (before now : ℕ) : Type 0 where
  pub pages : List NumberedFile
  pub once : map (λ file. file.number) pages ≡ store.named
  pub kept : AllByRecursion (IsAsKnown files) pages
  pub most : now ≤ before + sum_by (λ h. length (mark_text h.mark)) store.heights + sum_by (λ file. index_length file.index) pages
