-- A running merge of layers of one memory.
use Rattle.std.specs.Prelude.{◌≡◌, ℕ, ◌+◌, ◌-◌, ◌≤◌, ◌==◌, ◌||◌, min, Bool, true, false, List, length, take, drop, OnOk, Result}
use Rattle.std.specs.List.{AllByRecursion, list_any}
use Rattle.format_spec.specs.declared.limits.TheConstants.{STEP_PAGES}
use Rattle.page_spec.specs.PageFile.{PageIndex, IsIndex}
use Rattle.page_spec.specs.Layers.{Layer, merged_pages, steps_for}
use Rattle.disk_model.specs.declared.disk.DiskError.{DiskError}
use Rattle.disk_model.specs.declared.name.Name.{Name}
use Rattle.disk_model.specs.declared.name.Name.TheVariants.{Page}
use Rattle.disk_model.specs.Files.{same_name}
use Rattle.disk_model.specs.State.{DiskState, IsSettled}
use Rattle.disk_model.specs.View.{DiskView}
use Rattle.disk_model.specs.Frame.{TouchesOnly}
use Rattle.page_file.specs.Files.{NumberedFile, UnfinishedFile, IsAsKnown, IsWriting}
use Rattle.layer_stack.specs.Stacks.{AreLayers, list_with, pages_in, pages_from}

-- the page files that are merged, oldest first; which of the memory's layers is the first of them, counted from 0; and the
-- page file that is written
pub record Merge : Type 0 where
  pub read : List NumberedFile
  pub from : ℕ
  pub writer : UnfinishedFile

-- the index of the merged layer, of a memory of so many pages
abbrev pub merged_index : ℕ → ℕ → List NumberedFile → PageIndex
merged_index memory from read = record { memory = memory; numbers = merged_pages memory (from == 0) (pages_in read) }

-- the merged layer of the layers from one on, and the layers with it in their place
abbrev pub merged_layer : ℕ → ℕ → List NumberedFile → List Layer → Layer
merged_layer memory from stack layers = record {
  index = merged_index memory from (drop from stack);
  pages = pages_from (drop from layers) (merged_index memory from (drop from stack)).numbers;
}

abbrev pub with_merged : ℕ → ℕ → List NumberedFile → List Layer → List Layer
with_merged memory from stack layers = list_with from (length (drop from layers)) (merged_layer memory from stack layers) layers

-- the merge begins: the index of its page file is written
abbrev pub begun : List NumberedFile → ℕ → ℕ → ℕ → Merge
begun stack from memory number = record {
  read = drop from stack;
  from = from;
  writer = record { number = number; index = merged_index memory from (drop from stack); alone = true; added = 0 };
}

-- how many pages are not written yet
abbrev pub pages_left : Merge → ℕ
pages_left merge = length merge.writer.index.numbers - merge.writer.added

-- how many steps are left: those that write pages, and the last one
abbrev pub steps_left : Merge → ℕ
steps_left merge = steps_for (pages_left merge)

-- how many pages the next step writes
abbrev pub step_pages : Merge → ℕ
step_pages merge = min STEP_PAGES (pages_left merge)

-- after one more step
abbrev pub stepped : Merge → Merge
stepped merge = record merge { writer = record merge.writer { added = merge.writer.added + step_pages merge } }

-- the page file that it comes to
abbrev pub merged_file : Merge → NumberedFile
merged_file merge = record { number = merge.writer.number; index = merge.writer.index }

-- what is so of every merge, whatever the disk has
pub record IsMerge (merge : Merge) : Type 0 where
  pub some : 1 ≤ length merge.read
  pub merged : merge.writer.index ≡ merged_index merge.writer.index.memory merge.from merge.read
  pub good : IsIndex merge.writer.index
  pub alone : merge.writer.alone ≡ true
  pub added : merge.writer.added ≤ length merge.writer.index.numbers

-- these are the pages that it writes
pub record IsMergeOf (merge : Merge) (pages : List ℕ) : Type 0 where
  pub good : IsMerge merge
  pub all : pages ≡ merge.writer.index.numbers

-- What a disk has of it: the page files that are read are there as they are known, none is its own, and its own one, which is loose, has what
-- they give, so far as it is written.
pub record IsOn (merge : Merge) (s : DiskState) : Type 0 where
  pub known : AllByRecursion (IsAsKnown s.files) merge.read
  pub apart : AllByRecursion (λ file. same_name (Page merge.writer.number) (Page file.number) ≡ false) merge.read
  pub written : (layers : List Layer) → AreLayers s.files merge.read layers
      → IsWriting merge.writer (pages_from layers (take merge.writer.added merge.writer.index.numbers)) s

-- the files that this speaks of: those that are read, and its own
abbrev pub is_of_merge : Merge → Name → Bool
is_of_merge merge name = same_name (Page merge.writer.number) name || list_any (λ file. same_name (Page file.number) name) merge.read

-- What a call leaves that copies so many bytes into the file of these names: it reads that many at most, and appends as many; no more where it
-- failed.
pub record Copies {T : Type 0} (given : Name → Bool) (count : ℕ) (result : Result T DiskError) (old new : DiskView) : Type 0 where
  pub touches : TouchesOnly given old new
  pub settles : OnOk result (IsSettled old.state → IsSettled new.state)
  pub appended : OnOk result (new.appended ≡ old.appended + count)
  pub least : old.appended ≤ new.appended
  pub most : new.appended ≤ old.appended + count
  pub read_least : old.bytes_read ≤ new.bytes_read
  pub read_most : new.bytes_read ≤ old.bytes_read + count
