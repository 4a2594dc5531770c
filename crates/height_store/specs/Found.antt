-- What opening finds on a disk before it removes files.
use Rattle.std.specs.Prelude.{◌≡◌, ℕ, Bool, true, false, not, nat_eq, List, map, Option, Some, None}
use Rattle.std.specs.List.{AllByRecursion, list_any}
use Rattle.disk_model.specs.declared.name.Kind.{Kind}
use Rattle.disk_model.specs.declared.name.Kind.TheVariants as kind
use Rattle.disk_model.specs.declared.name.Name.{Name}
use Rattle.disk_model.specs.declared.name.Name.TheVariants as name
use Rattle.disk_model.specs.Files.{Files, IsListing, number_in}
use Rattle.page_file.specs.Files.{NumberedFile, IsAsKnown}
use Rattle.height_store.specs.Kept.{HasMark, HasStacks}
use Rattle.height_store.specs.Store.{Store, heights_in}

-- The marks are those of the store, and the page files that they name are there. They alone bear its heights.
pub record IsFound (store : Store) (files : Files) : Type 0 where
  pub listed : IsListing kind.Mark files (heights_in store.heights)
  pub marks : AllByRecursion (HasMark files) store.heights
  pub pages : List NumberedFile
  pub once : map (λ file. file.number) pages ≡ store.named
  pub kept : AllByRecursion (IsAsKnown files) pages
  pub stacks : (all : Files) → AllByRecursion (IsAsKnown all) pages → AllByRecursion (HasStacks all) store.heights

-- no mark, and no page file of these numbers
abbrev pub is_stray : List ℕ → Name → Bool
is_stray named (name.Mark n) = false
is_stray named (name.Page n) = not (list_any (nat_eq n) named)
is_stray named q = true

-- a file of this kind with none of these numbers
abbrev pub is_number_other : List ℕ → Option ℕ → Bool
is_number_other keep None = false
is_number_other keep (Some n) = not (list_any (nat_eq n) keep)

abbrev pub is_other_of : Kind → List ℕ → Name → Bool
is_other_of kind keep q = is_number_other keep (number_in kind q)

-- no mark, no page file of these numbers, and no stage file of those
abbrev pub is_other : List ℕ → List ℕ → Name → Bool
is_other pages stages (name.Mark n) = false
is_other pages stages (name.Page n) = not (list_any (nat_eq n) pages)
is_other pages stages (name.Draft n) = true
is_other pages stages (name.Stage n) = not (list_any (nat_eq n) stages)
