-- Which page files are needed, and what a sweep leaves.
use Rattle.std.specs.Prelude.{◌≡◌, ℕ, nat_eq, Bool, true, false, not, ◌||◌, List, [], ◌∷◌, map, Option, None, is_some, if◌then◌else◌, refl}
use Rattle.std.specs.List.{list_any, AllByRecursion}
use Rattle.std.proofs.Common.{◌∙◌, ap, eqb-true}
use Rattle.std.proofs.lemmas.Bool.{false≢true}
use Rattle.format_spec.specs.Bytes.{Bytes}
use Rattle.format_spec.proofs.Cuts.{heads}
use Rattle.store_spec.specs.Mark.{MarkMemory}
use Rattle.disk_model.specs.declared.name.Name.{Name}
use Rattle.disk_model.specs.declared.name.Name.TheVariants as name
use Rattle.disk_model.specs.Files.{Files}
use Rattle.disk_model.specs.View.{DiskView}
use Rattle.disk_model.specs.Frame.{TouchesOnly, SameAt, touches_same}
use Rattle.page_file.specs.Files.{NumberedFile, IsAsKnown}
use Rattle.height_store.specs.Kept.{HasStacks, IsReadable}
use Rattle.height_store.specs.Shown.{or_left, or_right}
use Rattle.height_store.specs.Store.{StoredHeight, IsHeight, mark_names, is_named, is_needed, numbers_of}

-- a mark of these heights names the page file of this number, or it is one of these
abbrev pub is_page_needed : List StoredHeight → List ℕ → ℕ → Bool
is_page_needed hs pins n = is_named hs n || list_any (nat_eq n) pins

-- what a sweep removes: page files that are not needed, stage files but for these, and drafts
abbrev pub is_dispensable : List StoredHeight → List ℕ → List ℕ → Name → Bool
is_dispensable hs pins stages (name.Page n) = not (is_page_needed hs pins n)
is_dispensable hs pins stages (name.Stage n) = not (list_any (nat_eq n) stages)
is_dispensable hs pins stages (name.Draft n) = true
is_dispensable hs pins stages (name.Mark n) = false

-- the same files, but that the names that pass the test have none
abbrev pub files_without : (Name → Bool) → Files → Files
files_without gone files = λ q. if gone q then None else files q

-- what a sweep leaves of these files
abbrev pub files_swept : List StoredHeight → List ℕ → List ℕ → Files → Files
files_swept hs pins stages files = files_without (is_dispensable hs pins stages) files

-- ---- laws

-- What the heights need is never removed,
pub needed_stay : (hs : List StoredHeight) (pins stages : List ℕ) (q : Name) → is_needed hs q ≡ true → is_dispensable hs pins stages q ≡ false
needed_stay hs pins stages (name.Page n) needed = ap not (or_left (is_named hs n) (list_any (nat_eq n) pins) needed)
needed_stay hs pins stages (name.Mark n) needed = refl
needed_stay hs pins stages (name.Draft n) needed = absurd (false≢true needed)
needed_stay hs pins stages (name.Stage n) needed = absurd (false≢true needed)

-- nor the page files and the stage files that are given.
pub pinned_stay : (hs : List StoredHeight) (pins stages : List ℕ) (n : ℕ) → list_any (nat_eq n) pins ≡ true → is_dispensable hs pins stages (name.Page n) ≡ false
pinned_stay hs pins stages n pinned = ap not (or_right (is_named hs n) (list_any (nat_eq n) pins) pinned)

pub staged_stay : (hs : List StoredHeight) (pins stages : List ℕ) (n : ℕ) → list_any (nat_eq n) stages ≡ true → is_dispensable hs pins stages (name.Stage n) ≡ false
staged_stay hs pins stages n staged = ap not staged

left : (needed : Bool) (x : Option Bytes) → (needed ≡ true → is_some x ≡ true) → is_some (if not needed then None else x) ≡ needed
left true x there = there refl
left false x there = refl

-- Where the needed page files are there, just these are there after a sweep,
pub pages_left : (hs : List StoredHeight) (pins stages : List ℕ) (files : Files) → ((n : ℕ) → is_page_needed hs pins n ≡ true → is_some (files (name.Page n)) ≡ true)
    → (n : ℕ) → is_some (files_swept hs pins stages files (name.Page n)) ≡ is_page_needed hs pins n
pages_left hs pins stages files there n = left (is_page_needed hs pins n) (files (name.Page n)) (there n)

-- and so of stage files.
pub stages_left : (hs : List StoredHeight) (pins stages : List ℕ) (files : Files) → ((n : ℕ) → list_any (nat_eq n) stages ≡ true → is_some (files (name.Stage n)) ≡ true)
    → (n : ℕ) → is_some (files_swept hs pins stages files (name.Stage n)) ≡ list_any (nat_eq n) stages
stages_left hs pins stages files there n = left (list_any (nat_eq n) stages) (files (name.Stage n)) (there n)

-- ---- that the page files are there which marks name

either : {P : Type 0} (a b : Bool) → (a ≡ true → P) → (b ≡ true → P) → (a || b) ≡ true → P
either true b f g h = f refl
either false b f g h = g h

-- a page file is there whose number is among those of files that are known
pub kept_there : (files : Files) (stack : List NumberedFile) (n : ℕ) → AllByRecursion (IsAsKnown files) stack → list_any (nat_eq n) (numbers_of stack) ≡ true → is_some (files (name.Page n)) ≡ true
kept_there files [] n known has = absurd (false≢true has)
kept_there files (file ∷ stack) n known has = either (nat_eq n file.number) (list_any (nat_eq n) (numbers_of stack))
    (λ same. ap (λ (k : ℕ). is_some (files (name.Page k))) (eqb-true n file.number same) ∙ ap is_some known.0.1.there) (kept_there files stack n known.1) has

module _ (files : Files) (n : ℕ) where
  in_stacks : (stacks : List (List NumberedFile)) (ms : List MarkMemory) → map numbers_of stacks ≡ map (λ memory. memory.layers) ms → AllByRecursion (AllByRecursion (IsAsKnown files)) stacks
      → list_any (λ memory. list_any (nat_eq n) memory.layers) ms ≡ true → is_some (files (name.Page n)) ≡ true
  in_stacks stacks [] same known has = absurd (false≢true has)
  in_stacks [] (m ∷ ms) same known has = absurd cc
  in_stacks (stack ∷ stacks) (m ∷ ms) same known has =
      let parts = heads (numbers_of stack) m.layers (map numbers_of stacks) (map (λ memory. memory.layers) ms) same in
      either (list_any (nat_eq n) m.layers) (list_any (λ memory. list_any (nat_eq n) memory.layers) ms)
      (λ here. kept_there files stack n known.0 (ap (list_any (nat_eq n)) parts.0 ∙ here)) (in_stacks stacks ms parts.1 known.1) has

  -- Where heights can be read, the page files that their marks name are there.
  pub named_there : (hs : List StoredHeight) → AllByRecursion IsHeight hs → AllByRecursion (HasStacks files) hs → is_named hs n ≡ true → is_some (files (name.Page n)) ≡ true
  named_there [] good known has = absurd (false≢true has)
  named_there (h ∷ hs) good known has = either (mark_names h.mark n) (is_named hs n)
      (in_stacks h.stacks h.mark.memories good.0.parts.numbers known.0) (named_there hs good.1 known.1) has

-- So after a sweep just the needed page files are there, where those that are given were.
pub needed_left : (hs : List StoredHeight) (pins stages : List ℕ) (files : Files) → AllByRecursion IsHeight hs → IsReadable hs files → ((n : ℕ) → list_any (nat_eq n) pins ≡ true → is_some (files (name.Page n)) ≡ true)
    → (n : ℕ) → is_some (files_swept hs pins stages files (name.Page n)) ≡ is_page_needed hs pins n
needed_left hs pins stages files good readable there = pages_left hs pins stages files (λ n. either (is_named hs n) (list_any (nat_eq n) pins) (named_there files n hs good readable.stacks) (there n))

-- What is needed reads as before through calls that are given no other names, and stays firm or loose.
pub needed_same : (hs : List StoredHeight) (pins stages : List ℕ) (old new : DiskView) → TouchesOnly (is_dispensable hs pins stages) old new → SameAt (λ q. not (is_dispensable hs pins stages q)) old.state new.state
needed_same hs pins stages old new touches = touches_same (is_dispensable hs pins stages) (λ q. not (is_dispensable hs pins stages q)) old new (λ q stays. not_dispensable (is_dispensable hs pins stages q) stays) touches
  where
    not_dispensable : (b : Bool) → not b ≡ true → b ≡ false
    not_dispensable true stays = absurd (false≢true stays)
    not_dispensable false stays = refl
