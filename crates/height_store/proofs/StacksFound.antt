-- The page files of each memory of a mark.
use Rattle.std.proofs.Common.{◌≡◌, ℕ, ◌<◌, ◌≤◌, zero, suc, true, IsTrue, nat_eq, List, [], ◌∷◌, ◌++◌, length, map, get_or, refl, sym, ◌∙◌, ap, subst, arith}
use Rattle.std.specs.List.{list_any, flat_map, zip, AllByRecursion, AllZip, Contains}
use Rattle.std.proofs.lemmas.List.{map-append}
use Rattle.std.proofs.lemmas.List.Elements.{All-from_recursion, All-contains}
use Rattle.format_spec.specs.Bytes.{Bytes}
use Rattle.format_spec.specs.declared.limits.TheConstants.{MAX_LAYERS}
use Rattle.format_spec.proofs.Lists.{all_push, all_parts}
use Rattle.state_spec.specs.State.{SystemPart}
use Rattle.state_spec.specs.Files.{memories_in}
use Rattle.store_spec.specs.Mark.{Mark, MarkMemory, FitsMemory, IsMark, is_opened}
use Rattle.disk_model.specs.Files.{Files}
use Rattle.page_file.specs.Files.{NumberedFile, IsAsKnown}
use Rattle.height_store.specs.Bad.{memory_namings, mark_namings, namings}
use Rattle.height_store.specs.Kept.{HasStacks}
use Rattle.height_store.specs.Opened.{FitNamings, ReadMark, parts_of}
use Rattle.height_store.specs.Store.{IsHeight, StoredHeight, FitsMark, FitsPages, numbers_of}

module _ (files : List NumberedFile) where
  abbrev IsNamed : ℕ → Type 0
  IsNamed number = list_any (nat_eq number) (numbers_of files) ≡ true

  abbrev Fits : ℕ × ℕ → Type 0
  Fits naming = AllByRecursion (λ file. file.number ≡ naming.0 → file.index.memory ≤ naming.1) files

  named_layers : (layers : List ℕ) (pages : ℕ) → AllByRecursion (λ (naming : ℕ × ℕ). IsNamed naming.0) (map (λ n. (n, pages)) layers) → AllByRecursion IsNamed layers
  named_layers [] pages all = tt
  named_layers (n ∷ layers) pages all = (all.0, named_layers layers pages all.1)

  named_memories : (v : ℕ) (ms : List MarkMemory) (fs : List (Bytes × ℕ)) → AllZip (FitsMemory v) ms fs → AllByRecursion (λ (naming : ℕ × ℕ). IsNamed naming.0) (flat_map memory_namings (zip ms fs)) → AllByRecursion (λ m. AllByRecursion IsNamed m.layers) ms
  named_memories v [] fs fit all = tt
  named_memories v (m ∷ ms) [] fit all = absurd fit
  named_memories v (m ∷ ms) (f ∷ fs) fit all =
      let parts = all_parts (λ (naming : ℕ × ℕ). IsNamed naming.0) (map (λ (n : ℕ). (n, f.1)) m.layers) (flat_map memory_namings (zip ms fs)) all in
      (named_layers m.layers f.1 parts.0, named_memories v ms fs fit.1 parts.1)

  -- every number that a mark's memories name is that of a file
  pub are_named : (m : Mark) (s : SystemPart) (mems : List MarkMemory) → IsMark m s → mems ≡ m.memories → AllByRecursion (λ naming. list_any (nat_eq naming.0) (numbers_of files) ≡ true) (mark_namings (m, s))
      → AllByRecursion (λ m. AllByRecursion (λ number. list_any (nat_eq number) (numbers_of files) ≡ true) m.layers) mems
  are_named m s mems good is all = subst (AllByRecursion (λ (m : MarkMemory). AllByRecursion IsNamed m.layers)) (sym is) (named_memories m.version m.memories (memories_in s) good.memories_fit all)

  fits_layers : (stack : List NumberedFile) (pages : ℕ) → AllByRecursion (Contains files) stack → AllByRecursion Fits (map (λ n. (n, pages)) (numbers_of stack)) → AllByRecursion (λ file. file.index.memory ≤ pages) stack
  fits_layers [] pages among fits = tt
  fits_layers (file ∷ stack) pages among fits =
      (All-contains (λ g. g.number ≡ file.number → g.index.memory ≤ pages) files file (All-from_recursion (λ g. g.number ≡ file.number → g.index.memory ≤ pages) files fits.0) among.0 refl, fits_layers stack pages among.1 fits.1)

  head_same : (x y : List ℕ) (xs ys : List (List ℕ)) → x ∷ xs ≡ y ∷ ys → x ≡ y
  head_same x y xs ys e = cc

  tail_same : (x y : List ℕ) (xs ys : List (List ℕ)) → x ∷ xs ≡ y ∷ ys → xs ≡ ys
  tail_same x y xs ys e = cc

  fits_memories : (v : ℕ) (stacks : List (List NumberedFile)) (ms : List MarkMemory) (fs : List (Bytes × ℕ)) → AllZip (FitsMemory v) ms fs → map numbers_of stacks ≡ map (λ m. m.layers) ms
      → AllByRecursion (AllByRecursion (Contains files)) stacks → AllByRecursion Fits (flat_map memory_namings (zip ms fs)) → AllZip FitsPages stacks fs
  fits_memories v [] [] [] fit same among fits = tt
  fits_memories v [] [] (f ∷ fs) fit same among fits = absurd fit
  fits_memories v [] (m ∷ ms) fs fit same among fits = absurd (cc)
  fits_memories v (stack ∷ stacks) [] fs fit same among fits = absurd (cc)
  fits_memories v (stack ∷ stacks) (m ∷ ms) [] fit same among fits = absurd fit
  fits_memories v (stack ∷ stacks) (m ∷ ms) (f ∷ fs) fit same among fits =
      let head = head_same (numbers_of stack) m.layers (map numbers_of stacks) (map (λ (m : MarkMemory). m.layers) ms) same in
      let parts = all_parts Fits (map (λ (n : ℕ). (n, f.1)) m.layers) (flat_map memory_namings (zip ms fs)) fits in (
        fits_layers stack f.1 among.0 (subst (λ (l : List ℕ). AllByRecursion Fits (map (λ (n : ℕ). (n, f.1)) l)) (sym head) parts.0),
        fits_memories v stacks ms fs fit.1 (tail_same (numbers_of stack) m.layers (map numbers_of stacks) (map (λ (m : MarkMemory). m.layers) ms) same) among.1 parts.1,
      )

  -- what was found for the memories of a mark fits it
  pub fits_mark : (m : Mark) (s : SystemPart) (mems : List MarkMemory) (stacks : List (List NumberedFile)) → IsMark m s → IsTrue (is_opened m.version) → mems ≡ m.memories
      → map numbers_of stacks ≡ map (λ mem. mem.layers) mems → AllByRecursion (AllByRecursion (Contains files)) stacks → FitNamings files (mark_namings (m, s)) → FitsMark m s stacks
  fits_mark m s mems stacks good opened is same among fits =
      let numbers = same ∙ ap (map (λ (m : MarkMemory). m.layers)) is in
      record { mark = good; opened = opened; numbers = numbers; fits = fits_memories m.version stacks m.memories (memories_in s) good.memories_fit numbers among fits }

  kept_stack : (all : Files) (stack : List NumberedFile) → AllByRecursion (IsAsKnown all) files → AllByRecursion (Contains files) stack → AllByRecursion (IsAsKnown all) stack
  kept_stack all [] kept among = tt
  kept_stack all (file ∷ stack) kept among = (All-contains (IsAsKnown all) files file (All-from_recursion (IsAsKnown all) files kept) among.0, kept_stack all stack kept among.1)

  pub kept_stacks : (all : Files) (stacks : List (List NumberedFile)) → AllByRecursion (IsAsKnown all) files → AllByRecursion (AllByRecursion (Contains files)) stacks → AllByRecursion (AllByRecursion (IsAsKnown all)) stacks
  kept_stacks all [] kept among = tt
  kept_stacks all (stack ∷ stacks) kept among = (kept_stack all stack kept among.0, kept_stacks all stacks kept among.1)

few_memories : (v : ℕ) (ms : List MarkMemory) (fs : List (Bytes × ℕ)) → AllZip (FitsMemory v) ms fs → AllByRecursion (λ m. length m.layers ≤ MAX_LAYERS) ms
few_memories v [] fs fit = tt
few_memories v (m ∷ ms) [] fit = absurd fit
few_memories v (m ∷ ms) (f ∷ fs) fit = (fit.0.few, few_memories v ms fs fit.1)

pub are_few : (m : Mark) (s : SystemPart) (mems : List MarkMemory) → IsMark m s → mems ≡ m.memories → AllByRecursion (λ m. length m.layers ≤ MAX_LAYERS) mems
are_few m s mems good is = subst (AllByRecursion (λ (m : MarkMemory). length m.layers ≤ MAX_LAYERS)) (sym is) (few_memories m.version m.memories (memories_in s) good.memories_fit)

-- ---- the marks one by one

-- what holds of all namings holds of those of the mark at a place
pub namings_at : (P : ℕ × ℕ → Type 0) (ms : List ReadMark) (i : ℕ) (d : ReadMark) → i < length ms → AllByRecursion P (namings (map parts_of ms)) → AllByRecursion P (mark_namings (parts_of (get_or ms i d)))
namings_at P [] i d lt all = absurd (omega arith)
namings_at P (m ∷ ms) zero d lt all = (all_parts P (mark_namings (parts_of m)) (namings (map parts_of ms)) all).0
namings_at P (m ∷ ms) (suc i) d lt all = namings_at P ms i d (omega arith) (all_parts P (mark_namings (parts_of m)) (namings (map parts_of ms)) all).1

abbrev mark_of : StoredHeight → ReadMark
mark_of h = record { mark = h.mark; system = h.system }

pub marks_more : (hs now : List StoredHeight) (h : StoredHeight) (ms : List ReadMark) (m : ReadMark) → now ≡ hs ++ h ∷ [] → record { mark = h.mark; system = h.system } ≡ m
    → map (λ h. record { mark = h.mark; system = h.system }) hs ≡ ms → map (λ h. record { mark = h.mark; system = h.system }) now ≡ ms ++ m ∷ []
marks_more hs now h ms m is at was = ap (map mark_of) is ∙ map-append mark_of hs (h ∷ []) ∙ ap (λ (l : List ReadMark). l ++ mark_of h ∷ []) was ∙ ap (λ (r : ReadMark). ms ++ r ∷ []) at

pub heights_more : (hs now : List StoredHeight) (h : StoredHeight) → now ≡ hs ++ h ∷ [] → AllByRecursion IsHeight hs → IsHeight h → AllByRecursion IsHeight now
heights_more hs now h is so_far one = subst (AllByRecursion IsHeight) (sym is) (all_push IsHeight hs h so_far one)

pub stacks_more : (all : Files) (hs now : List StoredHeight) (h : StoredHeight) → now ≡ hs ++ h ∷ [] → AllByRecursion (HasStacks all) hs → HasStacks all h → AllByRecursion (HasStacks all) now
stacks_more all hs now h is so_far one = subst (AllByRecursion (HasStacks all)) (sym is) (all_push (HasStacks all) hs h so_far one)
