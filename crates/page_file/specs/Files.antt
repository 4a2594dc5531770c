-- Page files on a disk.
use Rattle.std.specs.Prelude.{◌≡◌, ℕ, ◌+◌, ◌*◌, ◌==◌, ◌||◌, not, Bool, if◌then◌else◌, [], ◌++◌, Option, Some, None, Result, Ok, Err, IfOk, IsErrOf, length, take, drop}
use Rattle.format_spec.specs.Bytes.{Bytes, page_at}
use Rattle.format_spec.specs.declared.limits.TheConstants.{PAGE_SIZE, INDEX_HEAD}
use Rattle.page_spec.specs.PageFile.{PageIndex, IsPageFile, index_text, index_length}
use Rattle.disk_model.specs.declared.disk.DiskError.{DiskError}
use Rattle.disk_model.specs.declared.name.Name.TheVariants.{Page}
use Rattle.disk_model.specs.Files.{Files}
use Rattle.disk_model.specs.State.{DiskState, IsLoose, IsFirm}
use Rattle.page_file.specs.declared.format.Header.{Header}
use Rattle.page_file.specs.Index.{IsHeader}
use Rattle.page_file.specs.declared.error.PageError.{PageError}
use Rattle.page_file.specs.declared.error.PageError.TheVariants.{BadPage}

-- a page file by its number and its index
pub record NumberedFile : Type 0 where
  pub number : ℕ
  pub index : PageIndex

-- a page file that is being written: whether its index was written alone, before the first page, and how many pages were added
pub record UnfinishedFile : Type 0 where
  pub number : ℕ
  pub index : PageIndex
  pub alone : Bool
  pub added : ℕ

-- the page file of this number is there, with this index and these bytes of pages
pub record HasPages (files : Files) (number : ℕ) (i : PageIndex) (pages : Bytes) : Type 0 where
  pub text : Bytes
  pub there : files (Page number) ≡ Some text
  pub good : IsPageFile text i pages

-- the page file is there as this value has it
abbrev pub IsAsKnown : Files → NumberedFile → Type 0
IsAsKnown files file = (pages : Bytes) × HasPages files file.number file.index pages

-- there is no file of this number, or its bytes are no page file
abbrev pub IsBadPage : Files → ℕ → Type 0
IsBadPage files number = (i : PageIndex) (pages : Bytes) → HasPages files number i pages → ⊥

-- what opening the page file of this number gives: it is there as the value has it, or it is bad
pub record Opens (files : Files) (n : ℕ) (result : Result NumberedFile PageError) : Type 0 where
  pub opened : IfOk result (λ file. IsAsKnown files file)
  pub same_number : IfOk result (λ file. file.number ≡ n)
  pub bad : (m : ℕ) → IsErrOf result (BadPage m) → IsBadPage files n
  pub named : (m : ℕ) → IsErrOf result (BadPage m) → m ≡ n

-- these are the bytes of the page at this place in the file
abbrev pub ReadsAs : Files → NumberedFile → ℕ → Bytes → Type 0
ReadsAs files file place bytes = (pages : Bytes) → HasPages files file.number file.index pages → bytes ≡ page_at pages place

-- these are so many bytes of the pages from this place on
abbrev pub ReadsFrom : Files → NumberedFile → ℕ → ℕ → Bytes → Type 0
ReadsFrom files file place size bytes = (pages : Bytes) → HasPages files file.number file.index pages → bytes ≡ take size (drop (place * PAGE_SIZE) pages)

-- the index is written: alone, or with the first page
abbrev pub has_index : UnfinishedFile → Bool
has_index writer = writer.alone || not (writer.added == 0)

-- what is written once these pages are added
abbrev pub text_written : UnfinishedFile → Bytes → Bytes
text_written writer pages = if has_index writer then index_text writer.index ++ pages else []

-- what the next pages add to the file, and how many bytes that is, of so many pages
abbrev pub text_added : UnfinishedFile → Bytes → Bytes
text_added writer pages = if has_index writer then pages else index_text writer.index ++ pages

abbrev pub length_added : UnfinishedFile → ℕ → ℕ
length_added writer count = if has_index writer then PAGE_SIZE * count else index_length writer.index + PAGE_SIZE * count

-- these bytes of pages are added so far, and the file is loose
pub record IsWriting (writer : UnfinishedFile) (pages : Bytes) (s : DiskState) : Type 0 where
  pub loose : IsLoose s (Page writer.number)
  pub file : s.files (Page writer.number) ≡ Some (text_written writer pages)
  pub count : length pages ≡ PAGE_SIZE * writer.added

-- the file is on the disk with these bytes of pages
pub record IsFinished (file : NumberedFile) (pages : Bytes) (s : DiskState) : Type 0 where
  pub firm : IsFirm s (Page file.number)
  pub there : HasPages s.files file.number file.index pages

-- the page file of this number is there, and begins with this header
pub record HasHeader (files : Files) (number : ℕ) (h : Header) : Type 0 where
  pub text : Bytes
  pub there : files (Page number) ≡ Some text
  pub header : IsHeader h.memory h.ranges h.pages (take INDEX_HEAD text) (length text)

-- the header that the page file has, and none where it is no page file
abbrev pub FindsHeader : Files → ℕ → Result (Option Header) DiskError → Type 0
FindsHeader files number (Ok (Some h)) = HasHeader files number h
FindsHeader files number (Ok None) = IsBadPage files number
FindsHeader files number (Err e) = Unit {0}

-- the same of its index
abbrev pub FindsIndex : Files → ℕ → Result (Option PageIndex) DiskError → Type 0
FindsIndex files number (Ok (Some i)) = (pages : Bytes) × HasPages files number i pages
FindsIndex files number (Ok None) = IsBadPage files number
FindsIndex files number (Err e) = Unit {0}
