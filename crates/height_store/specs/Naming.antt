-- On the way from the marks to the page files that they name.
use Rattle.std.specs.Prelude.{◌≡◌, ◌⊎◌, ℕ, ◌<◌, ◌≤◌, nat_eq, false, List, [], ◌∷◌, ◌++◌, map, sum_by}
use Rattle.std.specs.List.{list_any, AllByRecursion, Contains}
use Rattle.store_spec.specs.Mark.{MarkMemory}
use Rattle.page_spec.specs.PageFile.{index_length}
use Rattle.disk_model.specs.Files.{Files}
use Rattle.page_file.specs.Files.{NumberedFile}
use Rattle.height_store.specs.Bad.{IsGoodNaming}
use Rattle.height_store.specs.Store.{numbers_of}

-- the page files that these memories name, of so many pages each
abbrev pub rows_of : List MarkMemory → List ℕ → List (ℕ × ℕ)
rows_of [] pages = []
rows_of (m ∷ ms) [] = []
rows_of (m ∷ ms) (n ∷ ns) = map (λ number. (number, n)) m.layers ++ rows_of ms ns

-- the one file of this number among these
pub record IsFileOf (files : List NumberedFile) (number : ℕ) (file : NumberedFile) : Type 0 where
  pub same_number : file.number ≡ number
  pub there : Contains files file
  pub only : AllByRecursion (λ f. f.number ≡ number → f ≡ file) files

-- The page file of this number has no more memory pages than these: it was among the files, and they are as before,
-- or it comes last.
abbrev pub Takes : List NumberedFile → ℕ → ℕ → List NumberedFile → Type 0
Takes old number pages new =
    ((file : NumberedFile) × IsFileOf old number file × (file.index.memory ≤ pages) × (new ≡ old))
    ⊎ ((file : NumberedFile) × (file.number ≡ number) × (file.index.memory ≤ pages) × (list_any (nat_eq number) (numbers_of old) ≡ false) × (new ≡ old ++ file ∷ []))

-- the bytes of the indices of these files
abbrev pub index_bytes : List NumberedFile → ℕ
index_bytes files = sum_by (λ file. index_length file.index) files

-- one of these namings is of this number and not good; all of lower numbers are
pub record IsFirstBadNaming (files : Files) (namings : List (ℕ × ℕ)) (number : ℕ) : Type 0 where
  pub pages : ℕ
  pub there : Contains namings (number, pages)
  pub bad : IsGoodNaming files (number, pages) → ⊥
  pub first : AllByRecursion (λ naming. naming.0 < number → IsGoodNaming files naming) namings
