-- How a store and its disk belong together, and for which heights both stand.
use Rattle.std.specs.Prelude.{◌≡◌, ◌⊎◌, ℕ, ◌≤◌, true, false, List, length, map, Some, None}
use Rattle.std.specs.List.{AllByRecursion, AllZip}
use Rattle.format_spec.specs.declared.limits.TheConstants.{MAX_PUBLISHED}
use Rattle.state_spec.specs.State.{SystemPart, SameState, state_from}
use Rattle.sys_state.specs.System.{part_of}
use Rattle.store_spec.specs.Image.{Published, HasTrueSums, memories_from, StandsFor}
use Rattle.page_spec.specs.Layers.{Layer}
use Rattle.store_spec.specs.Mark.{Mark, mark_text}
use Rattle.disk_model.specs.declared.name.Kind.TheVariants as kind
use Rattle.disk_model.specs.declared.name.Name.{Name}
use Rattle.disk_model.specs.declared.name.Name.TheVariants as name
use Rattle.disk_model.specs.Files.{Files, IsListing}
use Rattle.disk_model.specs.State.{DiskState, IsImageNow}
use Rattle.disk_model.specs.View.{EachImage}
use Rattle.page_file.specs.Files.{NumberedFile, IsAsKnown}
use Rattle.layer_stack.specs.Stacks.{AreLayers}
use Rattle.height_store.specs.Store.{Store, StoredHeight, FitsMark, IsHeight, heights_in, mark_names, is_needed, is_used}

-- ---- the files of a store, whatever they stand for

abbrev pub HasMark : Files → StoredHeight → Type 0
HasMark files h = files (name.Mark h.mark.height) ≡ Some (mark_text h.mark)

abbrev pub HasStacks : Files → StoredHeight → Type 0
HasStacks files h = AllByRecursion (AllByRecursion (IsAsKnown files)) h.stacks

-- What reading needs: the marks are those of these heights, and the page files that they name are there.
pub record IsReadable (hs : List StoredHeight) (files : Files) : Type 0 where
  pub listed : IsListing kind.Mark files (heights_in hs)
  pub marks : AllByRecursion (HasMark files) hs
  pub stacks : AllByRecursion (HasStacks files) hs

-- no page file has a number that can still be given
abbrev pub HasRoom : Store → Files → Type 0
HasRoom store files = (n : ℕ) → is_used store n ≡ false → files (name.Page n) ≡ None

-- What writing a height needs besides: room for new page files, and no draft of the height.
pub record IsWritable (store : Store) (height : ℕ) (files : Files) : Type 0 where
  pub room : HasRoom store files
  pub no_draft : files (name.Draft height) ≡ None

-- the store's heights can be read, and every height be written
pub record MatchesFiles (store : Store) (files : Files) : Type 0 where
  pub readable : IsReadable store.heights files
  pub writable : (height : ℕ) → IsWritable store height files

-- ---- the heights that they stand for

-- A mark of a state with these parts, and the page files that it names: they give the memories of this state, up to
-- births and rounds, and the hashes in the mark are true.
pub record IsMadeOf (files : Files) (m : Mark) (s : SystemPart) (stacks : List (List NumberedFile)) (p : Published) : Type 0 where
  pub good : FitsMark m s stacks
  pub height : p.height ≡ m.height
  pub layers : List (List Layer)
  pub there : AllZip (AreLayers files) stacks layers
  pub same_state : SameState p.state (state_from m.version p.height s (memories_from s layers))
  pub same_layers : p.layers ≡ map (map (λ l. l.index.numbers)) layers
  pub true_sums : AllZip (HasTrueSums m.version) m.memories (memories_from s layers)

-- the mark of a height is there too
pub record ShowsHeight (files : Files) (h : StoredHeight) (p : Published) : Type 0 where
  pub good : IsHeight h
  pub mark : HasMark files h
  pub made : IsMadeOf files h.mark (part_of h.system) h.stacks p

-- the files have the marks of these heights and what they name
pub record ShowsHeights (files : Files) (hs : List StoredHeight) (ps : List Published) : Type 0 where
  pub listed : IsListing kind.Mark files (heights_in hs)
  pub few : length hs ≤ MAX_PUBLISHED
  pub each : AllZip (ShowsHeight files) hs ps

-- no page file that the mark names is loose
abbrev pub HasFirmPages : DiskState → Mark → Type 0
HasFirmPages s m = (n : ℕ) → mark_names m n ≡ true → s.loose (name.Page n) ≡ false

-- Every image now stands for these heights, by the marks and page files that the store holds, and none of them is loose.
pub record KeepsHeights (hs : List StoredHeight) (s : DiskState) (ps : List Published) : Type 0 where
  pub images : EachImage s (λ image. ShowsHeights image hs ps)
  pub firm : (q : Name) → is_needed hs q ≡ true → s.loose q ≡ false

-- ---- crash images

-- the files stand for some heights
abbrev pub StandsForSome : Files → Type 0
StandsForSome files = (ps : List Published) × StandsFor files ps

-- the files stand for heights that an image of this disk stands for
abbrev pub StandsAsBefore : DiskState → Files → Type 0
StandsAsBefore s files = (ps : List Published) × StandsFor files ps × (image : Files) × IsImageNow s image × StandsFor image ps

-- the files stand for these heights, or for those
abbrev pub StandsForEither : List Published → List Published → Files → Type 0
StandsForEither ps qs files = StandsFor files ps ⊎ StandsFor files qs
