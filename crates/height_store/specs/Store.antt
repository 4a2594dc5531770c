-- What a store holds of its published heights.
use Rattle.std.specs.Prelude.{◌≡◌, ℕ, ◌≤◌, ◌<◌, ◌==◌, Bool, true, false, ◌||◌, [], ◌∷◌, ◌++◌, nat_eq, nat_lt, count_by, ◌+◌, List, length, map, filter, not, find, slice_get, Option, IsTrue}
use Rattle.std.specs.Option.{option_and_then}
use Rattle.std.specs.List.{list_any, AllByRecursion, AllZip}
use Rattle.std.specs.List.Sorted.{IsStrictlyIncreasing}
use Rattle.format_spec.specs.Bytes.{Bytes}
use Rattle.format_spec.specs.declared.limits.TheConstants.{MAX_PUBLISHED}
use Rattle.height_store.specs.declared.limits.TheConstants.{MAX_GIVEN}
use Rattle.state_spec.specs.State.{SystemPart}
use Rattle.state_spec.specs.Files.{memories_in}
use Rattle.sys_state.specs.System.{System, part_of}
use Rattle.store_spec.specs.Mark.{Mark, IsMark, is_opened}
use Rattle.page_file.specs.Files.{NumberedFile}
use Rattle.disk_model.specs.declared.name.Name.{Name}
use Rattle.disk_model.specs.declared.name.Name.TheVariants as name

-- a published height: its mark, the parts that its system text spells, and the page files of each memory, oldest first
pub record StoredHeight : Type 0 where
  pub mark : Mark
  pub system : System
  pub stacks : List (List NumberedFile)

-- the published heights, ascending; the numbers that marks named at opening; how many were given since; and no number below
-- this one is given again
pub record Store : Type 0 where
  pub heights : List StoredHeight
  pub named : List ℕ
  pub numbers_given : ℕ
  pub least_free : ℕ

abbrev pub heights_in : List StoredHeight → List ℕ
heights_in hs = map (λ h. h.mark.height) hs

abbrev pub height_at : List StoredHeight → ℕ → Option StoredHeight
height_at hs height = find (λ h. h.mark.height == height) hs

-- it is the newest of them
abbrev pub is_newest : List StoredHeight → ℕ → Bool
is_newest [] height = false
is_newest (h ∷ []) height = h.mark.height == height
is_newest (h ∷ hs) height = is_newest hs height

-- the page files of the memory at a place of a height
abbrev pub stack_at : List StoredHeight → ℕ → ℕ → Option (List NumberedFile)
stack_at hs height i = option_and_then (λ h. slice_get h.stacks i) (height_at hs height)

abbrev pub without_height : List StoredHeight → ℕ → List StoredHeight
without_height hs height = filter (λ h. not (h.mark.height == height)) hs

-- ---- what is so of a height, whatever the disk has

abbrev pub numbers_of : List NumberedFile → List ℕ
numbers_of stack = map (λ file. file.number) stack

-- no page file has more memory pages than the memory
abbrev pub FitsPages : List NumberedFile → Bytes × ℕ → Type 0
FitsPages stack m = AllByRecursion (λ file. file.index.memory ≤ m.1) stack

-- a mark of a state with these parts, of a version that stores open, and the page files that it names
pub record FitsMark (m : Mark) (s : SystemPart) (stacks : List (List NumberedFile)) : Type 0 where
  pub mark : IsMark m s
  pub opened : IsTrue (is_opened m.version)
  pub numbers : map numbers_of stacks ≡ map (λ memory. memory.layers) m.memories
  pub fits : AllZip FitsPages stacks (memories_in s)

-- besides, each canister was born at this height
pub record IsHeight (h : StoredHeight) : Type 0 where
  pub parts : FitsMark h.mark (part_of h.system) h.stacks
  pub births : AllByRecursion (λ c. c.1.birth ≡ h.mark.height) h.system.canisters

pub record IsStore (store : Store) : Type 0 where
  pub ascends : IsStrictlyIncreasing (heights_in store.heights)
  pub few : length store.heights ≤ MAX_PUBLISHED
  pub named_ascends : IsStrictlyIncreasing store.named
  -- a number that was passed was given or is named
  pub passed : store.least_free ≤ store.numbers_given + count_by (λ n. nat_lt n store.least_free) store.named

-- ---- the names of files that a store needs

abbrev pub mark_names : Mark → ℕ → Bool
mark_names m n = list_any (λ memory. list_any (nat_eq n) memory.layers) m.memories

abbrev pub is_named : List StoredHeight → ℕ → Bool
is_named hs n = list_any (λ h. mark_names h.mark n) hs

-- every mark, and the page files that the marks of these heights name
abbrev pub is_needed : List StoredHeight → Name → Bool
is_needed hs (name.Mark n) = true
is_needed hs (name.Page n) = is_named hs n
is_needed hs q = false

-- a number that page files may have, since a mark named it at opening or it was given
abbrev pub is_used : Store → ℕ → Bool
is_used store n = list_any (nat_eq n) store.named || nat_lt n store.least_free

-- one line has given numbers to as many page files as it may, at most
pub record GivesFew (old new : Store) : Type 0 where
  pub least : old.numbers_given ≤ new.numbers_given
  pub most : new.numbers_given ≤ old.numbers_given + MAX_GIVEN

-- n is the least number from this one on that no mark named at opening
pub record IsNextFree (named : List ℕ) (from n : ℕ) : Type 0 where
  pub not_before : from ≤ n
  pub free : list_any (nat_eq n) named ≡ false
  pub least : (k : ℕ) → from ≤ k → k < n → list_any (nat_eq k) named ≡ true

-- the store has gained a height with this mark and these page files
pub record Gains (old : Store) (m : Mark) (files : List (List NumberedFile)) (new : Store) : Type 0 where
  pub height : StoredHeight
  pub mark : height.mark ≡ m
  pub stacks : height.stacks ≡ files
  pub good : IsHeight height
  pub store : new ≡ record old { heights = old.heights ++ height ∷ [] }
