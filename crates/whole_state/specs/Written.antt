-- Memories that are written whole.
use Rattle.std.specs.Prelude.{◌≡◌, ℕ, ◌*◌, ◌/◌, ◌%◌, ◌≤◌, ◌<◌, ◌^◌, ◌+◌, ◌==◌, ◌&&◌, not, Bool, true, false, if◌then◌else◌, List, [], ◌∷◌, length}
use Rattle.std.specs.List.{range_with_len, AllByRecursion}
use Rattle.format_spec.specs.Bytes.{Bytes}
use Rattle.format_spec.specs.declared.limits.TheConstants.{PAGE_SIZE, MAX_MEMORY_PAGES}
use Rattle.page_spec.specs.PageFile.{PageIndex}
use Rattle.disk_model.specs.declared.name.Name.{Name}
use Rattle.disk_model.specs.declared.name.Name.TheVariants as name
use Rattle.disk_model.specs.State.{DiskState}
use Rattle.page_file.specs.Files.{NumberedFile, IsFinished}
use Rattle.height_store.specs.Store.{Store, is_used}
use Rattle.height_store.specs.Written.{is_of}

-- whole pages, and no more than a memory has
pub record IsMemoryBytes (bytes : Bytes) : Type 0 where
  pub whole : length bytes % PAGE_SIZE ≡ 0
  pub few : length bytes ≤ PAGE_SIZE * MAX_MEMORY_PAGES

abbrev pub pages_in : Bytes → ℕ
pages_in bytes = length bytes / PAGE_SIZE

-- all of so many pages
abbrev pub whole_index : ℕ → PageIndex
whole_index pages = record { memory = pages; numbers = range_with_len 0 pages }

abbrev pub whole_file : ℕ → ℕ → NumberedFile
whole_file number pages = record { number = number; index = whole_index pages }

-- one page file with all of so many pages, and none for no pages
abbrev pub whole_stack : ℕ → ℕ → List NumberedFile
whole_stack number pages = if pages == 0 then [] else whole_file number pages ∷ []

-- the page files of a memory that is written whole
pub record IsWholeStack (bytes : Bytes) (stack : List NumberedFile) : Type 0 where
  pub number : ℕ
  pub fits : number < 2 ^ 64
  pub whole : stack ≡ whole_stack number (pages_in bytes)

-- they are on the disk with these bytes
abbrev pub AreFinished : DiskState → Bytes → List NumberedFile → Type 0
AreFinished s bytes stack = AllByRecursion (λ file. IsFinished file bytes s) stack

-- ---- numbers of page files

-- so many numbers were given at most, and nothing else is new
pub record GivesNumbers (most : ℕ) (old new : Store) : Type 0 where
  pub heights : new.heights ≡ old.heights
  pub named : new.named ≡ old.named
  pub next : old.least_free ≤ new.least_free
  pub given_least : old.numbers_given ≤ new.numbers_given
  pub given_most : new.numbers_given ≤ old.numbers_given + most

-- the page files whose numbers were given between the two
abbrev pub is_given_since : Store → Store → Name → Bool
is_given_since old new (name.Page n) = is_used new n && not (is_used old n)
is_given_since old new q = false

-- no page file of these has a number that can still be given
abbrev pub AreUsed : Store → List NumberedFile → Type 0
AreUsed store stack = AllByRecursion (λ file. is_used store file.number ≡ true) stack

-- the names that may be given to publish a state at a height: new page files, the draft and the mark
abbrev pub is_given_for : Store → ℕ → Name → Bool
is_given_for old height (name.Page n) = not (is_used old n)
is_given_for old height q = is_of height q
