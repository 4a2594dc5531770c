-- Maps over the files of a disk, as memories.
use Rattle.std.specs.Prelude.{◌≡◌, ℕ, nat_lt, false, List, Option, Some, None, if◌then◌else◌}
use Rattle.std.specs.FinMap.{find}
use Rattle.std.specs.List.{AllByRecursion}
use Rattle.std.specs.Ordering.{nat_cmp}
use Rattle.format_spec.specs.Bytes.{Bytes}
use Rattle.state_spec.specs.State.{Memory}
use Rattle.page_spec.specs.Layers.{Layer}
use Rattle.disk_model.specs.declared.name.Name.TheVariants.{Page}
use Rattle.disk_model.specs.Files.{Files}
use Rattle.disk_model.specs.State.{DiskState}
use Rattle.page_file.specs.Files.{NumberedFile, IsAsKnown}
use Rattle.layer_stack.specs.Stacks.{AreLayers}
use Rattle.page_map.specs.Plain.{PlainMap, plain_bytes, stamp_at}

-- over these files the map has these bytes
pub record HasBytes (files : Files) (m : PlainMap) (bytes : Bytes) : Type 0 where
  pub layers : List Layer
  pub there : AreLayers files m.stack layers
  pub same : bytes ≡ plain_bytes layers m

-- the round, where it is above b
abbrev pub if_above : ℕ → Option ℕ → Option ℕ
if_above b None = None
if_above b (Some round) = if nat_lt b round then Some round else None

-- the round of a page's last write, where that is above b
abbrev pub round_above : ℕ → Memory → ℕ → Option ℕ
round_above b memory page = if_above b (find nat_cmp page memory.rounds)

-- the map is this memory, and its own pages are those written after round b, each with its round as the stamp
pub record IsMemoryOf (files : Files) (b : ℕ) (m : PlainMap) (memory : Memory) : Type 0 where
  pub reads : HasBytes files m memory.bytes
  pub rounds : (page : ℕ) → stamp_at m page ≡ round_above b memory page

-- ---- what of a disk a map needs

-- a page file is there as it was sealed, and firm
pub record IsSealed (s : DiskState) (file : NumberedFile) : Type 0 where
  pub known : IsAsKnown s.files file
  pub firm : s.loose (Page file.number) ≡ false

abbrev pub AreSealed : DiskState → List NumberedFile → Type 0
AreSealed s stack = AllByRecursion (IsSealed s) stack
