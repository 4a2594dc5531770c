-- The index of a page file as it is kept in memory, and its text.
use Rattle.std.specs.Prelude.{◌≡◌, ℕ, ◌+◌, ◌*◌, ◌≤◌, ◌==◌, ◌&&◌, nat_le, Bool, IsTrue, ◌++◌, length, codes, if◌then◌else◌, Option, Some, None, Result, Ok, Err}
use Rattle.format_spec.specs.Bytes.{Bytes, be32, be64}
use Rattle.format_spec.specs.declared.limits.TheConstants.{PAGE_SIZE, MAX_MEMORY_PAGES, INDEX_HEAD, INDEX_RANGE}
use Rattle.byte_codec.specs.declared.error.NoMemory.{NoMemory}
use Rattle.page_spec.specs.PageFile.{PageIndex, IsIndex, runs_of, ranges_text}
use Rattle.page_file.specs.declared.format.Header.{Header}
use Rattle.page_file.specs.declared.index.FileIndex.TheInside.{Inside}
use Rattle.page_file.specs.Ranges.{numbers_in, AreRanges}

abbrev pub index_of : Inside → PageIndex
index_of a = record { memory = a.memory; numbers = numbers_in a.ranges.items }

pub record IsFileIndex (a : Inside) : Type 0 where
  pub memory_fits : a.memory ≤ MAX_MEMORY_PAGES
  pub some_range : 1 ≤ length a.ranges.items
  pub ascend : AreRanges a.memory 0 0 a.ranges.items
  pub count : a.count ≡ length (numbers_in a.ranges.items)

-- ---- the header

-- the length of a whole file with so many ranges and pages
abbrev pub length_of : ℕ → ℕ → ℕ
length_of ranges pages = INDEX_HEAD + INDEX_RANGE * ranges + PAGE_SIZE * pages

unfoldable pub header_text : ℕ → ℕ → ℕ → Bytes
header_text memory ranges pages = codes "ICPF" ++ be32 1 ++ be32 (if pages == memory then 1 else 0) ++ be32 memory
    ++ be32 ranges ++ be32 pages ++ be64 (length_of ranges pages)

-- a file may have so many ranges and pages of a memory of so many
abbrev pub are_counts : ℕ → ℕ → ℕ → Bool
are_counts memory ranges pages = nat_le 1 ranges && nat_le ranges pages && nat_le pages memory && nat_le memory MAX_MEMORY_PAGES

-- these bytes are the header of a file of this length, with these counts
pub record IsHeader (memory ranges pages : ℕ) (bytes : Bytes) (size : ℕ) : Type 0 where
  pub possible : IsTrue (are_counts memory ranges pages)
  pub text : bytes ≡ header_text memory ranges pages
  pub whole : size ≡ length_of ranges pages

-- what was read is the header of a file of this length; where none was read the bytes have none
abbrev pub ReadsHeader : Bytes → ℕ → Result (Option Header) NoMemory → Type 0
ReadsHeader bytes size (Ok (Some h)) = IsHeader h.memory h.ranges h.pages bytes size
ReadsHeader bytes size (Ok None) = (memory ranges pages : ℕ) → IsHeader memory ranges pages bytes size → ⊥
ReadsHeader bytes size (Err e) = Unit {0}

-- ---- the ranges

-- these bytes are the ranges of this index, of a memory and with pages of so many
pub record HasRanges (memory pages : ℕ) (bytes : Bytes) (i : PageIndex) : Type 0 where
  pub good : IsIndex i
  pub same_memory : i.memory ≡ memory
  pub count : length i.numbers ≡ pages
  pub text : bytes ≡ ranges_text 0 (runs_of i.numbers)

abbrev pub ReadsIndex : ℕ → ℕ → Bytes → Result (Option PageIndex) NoMemory → Type 0
ReadsIndex memory pages bytes (Ok (Some i)) = HasRanges memory pages bytes i
ReadsIndex memory pages bytes (Ok None) = (i : PageIndex) → HasRanges memory pages bytes i → ⊥
ReadsIndex memory pages bytes (Err e) = Unit {0}
