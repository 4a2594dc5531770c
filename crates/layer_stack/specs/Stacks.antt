-- Layers of one memory, each a page file.
use Rattle.std.specs.Prelude.{◌≡◌, ℕ, ◌+◌, ◌<◌, ◌==◌, List, [], ◌∷◌, ◌++◌, map, length, take, drop, reverse, position, Option, None, option_map}
use Rattle.std.specs.List.{AllByRecursion, AllZip, flat_map}
use Rattle.std.specs.Option.{option_or}
use Rattle.format_spec.specs.Bytes.{Bytes}
use Rattle.page_spec.specs.Layers.{Layer, page_from}
use Rattle.disk_model.specs.Files.{Files}
use Rattle.page_file.specs.Files.{NumberedFile, HasPages}

abbrev pub numbers_of : List NumberedFile → List ℕ
numbers_of stack = map (λ file. file.number) stack

-- how many pages each layer has
abbrev pub sizes_of : List NumberedFile → List ℕ
sizes_of stack = map (λ file. length file.index.numbers) stack

-- the pages that each layer has
abbrev pub pages_in : List NumberedFile → List (List ℕ)
pages_in stack = map (λ file. file.index.numbers) stack

-- each page of each layer is below this number
abbrev pub EndBy : ℕ → List NumberedFile → Type 0
EndBy memory stack = AllByRecursion (λ file. AllByRecursion (λ page. page < memory) file.index.numbers) stack

-- the list with one element in the place of so many from one on
abbrev pub list_with : {X : Type 0} → ℕ → ℕ → X → List X → List X
list_with from count x xs = take from xs ++ x ∷ drop (from + count) xs

-- ---- finding

-- how many pages stand in the file before this page of the memory, where it has that
abbrev pub place_in : NumberedFile → ℕ → Option ℕ
place_in file page = position (λ p. p == page) file.index.numbers

-- number and place of a page in the newest layer that has it; the newest layer first
abbrev pub newest : List NumberedFile → ℕ → Option (ℕ × ℕ)
newest [] page = None
newest (file ∷ older) page = option_or (option_map (λ place. (file.number, place)) (place_in file page)) (newest older page)

-- ---- bytes

-- the page file is there, and this layer is what it has
pub record IsLayer (files : Files) (file : NumberedFile) (l : Layer) : Type 0 where
  pub index : l.index ≡ file.index
  pub there : HasPages files file.number file.index l.pages

-- the page files are there, and these layers are what they have, one by one
abbrev pub AreLayers : Files → List NumberedFile → List Layer → Type 0
AreLayers files stack layers = AllZip (IsLayer files) stack layers

-- these are the bytes of a page, that of the newest layer that has it, else zeros
abbrev pub ReadsAs : Files → List NumberedFile → ℕ → Bytes → Type 0
ReadsAs files stack page bytes = (layers : List Layer) → AreLayers files stack layers → bytes ≡ page_from (reverse layers) page

-- the bytes of these pages one behind the other, as layers give them, oldest first
abbrev pub pages_from : List Layer → List ℕ → Bytes
pages_from layers pages = flat_map (page_from (reverse layers)) pages

abbrev pub PagesReadAs : Files → List NumberedFile → List ℕ → Bytes → Type 0
PagesReadAs files stack pages bytes = (layers : List Layer) → AreLayers files stack layers → bytes ≡ pages_from layers pages
