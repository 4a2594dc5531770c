-- What the calls of a store say of their answers, by which each is one.
use Rattle.std.specs.Prelude.{◌≡◌, ◌↔◌, ◌⊎◌, ℕ, false, List, Result, Err, reverse, take, drop, slice_get, is_some, nat_eq, Some, IsTrue, IfOk, IfErr, OnOk, IsErrOf}
use Rattle.std.specs.List.{AllByRecursion, list_any}
use Rattle.std.specs.List.Sorted.{IsStrictlyIncreasing}
use Rattle.format_spec.specs.Bytes.{Bytes}
use Rattle.state_spec.specs.Files.{memories_in}
use Rattle.sys_state.specs.System.{part_of}
use Rattle.page_spec.specs.Layers.{Layer, page_from, memory_from}
use Rattle.store_spec.specs.Image.{Opens}
use Rattle.disk_model.specs.Causes.{IsOfDisk}
use Rattle.disk_model.specs.Files.{Files}
use Rattle.page_file.specs.Files.{NumberedFile}
use Rattle.layer_stack.specs.Stacks.{AreLayers}
use Rattle.height_store.specs.declared.error.StoreError.{StoreError}
use Rattle.height_store.specs.declared.error.StoreError.TheVariants.{BadMark, BadPage, NoHeight, LastHeight}
use Rattle.height_store.specs.Bad.{IsFirstBadMark, IsFirstBadPage}
use Rattle.height_store.specs.Errors.{IsBadFile, IsBadHeight, disk_error}
use Rattle.height_store.specs.Kept.{IsReadable}
use Rattle.height_store.specs.Store.{Store, StoredHeight, IsHeight, height_at, is_named, is_newest}

-- `HeightStore::open` and `HeightStore::open_read` of a disk with these files on entry
pub record OpensAs (files : Files) (result : Result Store StoreError) : Type 0 where
  pub good : IfOk result (λ store. AllByRecursion IsHeight store.heights)
  pub found : IfOk result (λ store. IsReadable store.heights files)
  pub named : IfOk result (λ store. (n : ℕ) → list_any (nat_eq n) store.named ≡ is_named store.heights n)
  pub named_ascends : IfOk result (λ store. IsStrictlyIncreasing store.named)
  pub next : IfOk result (λ store. (store.numbers_given ≡ 0) × (store.least_free ≡ 0))
  pub opens : OnOk result (Opens files)
  pub bad_mark : (height : ℕ) → IsErrOf result (BadMark height) → IsFirstBadMark files height
  pub bad_page : (number : ℕ) → IsErrOf result (BadPage number) → IsFirstBadPage files number
  pub only : IfErr result (λ e. IsOfDisk disk_error e ⊎ IsBadFile e)

-- `HeightStore::purge` of a height
pub record Purges (hs : List StoredHeight) (height : ℕ) (result : Result (Unit {0}) StoreError) : Type 0 where
  pub no_height : (result ≡ Err NoHeight) ↔ (is_some (height_at hs height) ≡ false)
  pub last_height : (result ≡ Err LastHeight) ↔ IsTrue (is_newest hs height)
  pub only : IfErr result (λ e. IsOfDisk disk_error e ⊎ IsBadHeight e)

-- a page of a memory at a place of a height is read as these bytes
abbrev pub PageIs : Files → StoredHeight → ℕ → ℕ → Bytes → Type 0
PageIs files h place page bytes = (stack : List NumberedFile) (layers : List Layer) → slice_get h.stacks place ≡ Some stack → AreLayers files stack layers → bytes ≡ page_from (reverse layers) page

-- `HeightStore::page_of` fills in these bytes
abbrev pub ReadsAs : Files → List StoredHeight → ℕ → ℕ → ℕ → Bytes → Type 0
ReadsAs files hs height place page bytes = (h : StoredHeight) → height_at hs height ≡ Some h → PageIs files h place page bytes

-- a range of a memory at a place of a height is read as these bytes: those that the page files have, whatever the hashes in the mark are
abbrev pub RangeIs : Files → StoredHeight → ℕ → ℕ → ℕ → Bytes → Type 0
RangeIs files h place offset len bytes =
    (m : Bytes × ℕ) (stack : List NumberedFile) (layers : List Layer) → slice_get (memories_in (part_of h.system)) place ≡ Some m
    → slice_get h.stacks place ≡ Some stack → AreLayers files stack layers → bytes ≡ take len (drop offset (memory_from m.1 layers))
