-- The heights that marks and page files give.
use Rattle.std.specs.Prelude.{◌≡◌, ℕ, ◌+◌, true, ◌||◌, nat_eq, List, [], ◌∷◌, map, zip, length, sum_by, Some, refl}
use Rattle.std.specs.List.{list_any, flat_map, fold, AllByRecursion, AllZip}
use Rattle.std.proofs.Common.{sym, ◌∙◌, ap, subst, arith, eq-eqb}
use Rattle.std.proofs.lemmas.List.Folds.{list_any-append}
use Rattle.format_spec.specs.Bytes.{Bytes}
use Rattle.store_spec.specs.Mark.{MarkMemory, FitsMemory, mark_text}
use Rattle.page_spec.specs.PageFile.{index_length}
use Rattle.disk_model.specs.declared.name.Kind.TheVariants as kind
use Rattle.disk_model.specs.Files.{Files, IsListing}
use Rattle.disk_model.specs.View.{DiskView}
use Rattle.disk_model.specs.OnlyReads.{OnlyReads}
use Rattle.page_file.specs.Files.{NumberedFile, IsAsKnown}
use Rattle.height_store.specs.Bad.{AreGoodMarks, SpellsMark, memory_namings, namings}
use Rattle.height_store.specs.Found.{IsFound}
use Rattle.height_store.specs.Kept.{HasMark, HasStacks}
use Rattle.height_store.specs.Opened.{ReadMark, ReadsAtMost, parts_of}
use Rattle.height_store.specs.Store.{StoredHeight, IsHeight, heights_in, numbers_of, is_named}
use Rattle.height_store.specs.Shown.{or_left, or_right}

-- the mark of a height, with what its system text spells
abbrev pub read_of : StoredHeight → ReadMark
read_of h = record { mark = h.mark; system = h.system }

-- ---- lists of what marks name

all_pairs : (P : ℕ → Type 0) (xs : List (ℕ × ℕ)) → ((n : ℕ) → list_any (λ naming. nat_eq n naming.0) xs ≡ true → P n) → AllByRecursion (λ naming. P naming.0) xs
all_pairs P [] each = tt
all_pairs P (x ∷ xs) each = (each x.0 (or_left (nat_eq x.0 x.0) (list_any (λ naming. nat_eq x.0 naming.0) xs) (eq-eqb x.0 x.0 refl)), all_pairs P xs (λ n h. each n (or_right (nat_eq n x.0) (list_any (λ naming. nat_eq n naming.0) xs) h)))

-- where the numbers are those that are named, each that is named is among them
all_among : (xs : List (ℕ × ℕ)) (numbers : List ℕ) → ((n : ℕ) → list_any (nat_eq n) numbers ≡ list_any (λ naming. nat_eq n naming.0) xs)
    → AllByRecursion (λ naming. list_any (nat_eq naming.0) numbers ≡ true) xs
all_among xs numbers same = all_pairs (λ n. list_any (nat_eq n) numbers ≡ true) xs (λ n h. same n ∙ h)

pub among_by : (files given : List NumberedFile) (marks read : List ReadMark) → given ≡ files → read ≡ marks
    → ((n : ℕ) → list_any (nat_eq n) (numbers_of files) ≡ list_any (λ naming. nat_eq n naming.0) (namings (map parts_of read)))
    → AllByRecursion (λ naming. list_any (nat_eq naming.0) (numbers_of given) ≡ true) (namings (map parts_of marks))
among_by files given marks read same_files same_marks same =
    subst (λ (fs : List NumberedFile). AllByRecursion (λ naming. list_any (nat_eq naming.0) (numbers_of fs) ≡ true) (namings (map parts_of marks))) (sym same_files)
    (subst (λ (ms : List ReadMark). AllByRecursion (λ naming. list_any (nat_eq naming.0) (numbers_of files) ≡ true) (namings (map parts_of ms))) same_marks
    (all_among (namings (map parts_of read)) (numbers_of files) same))

any_layers : (n pages : ℕ) (layers : List ℕ) → list_any (λ (naming : ℕ × ℕ). nat_eq n naming.0) (map (λ k. (k, pages)) layers) ≡ list_any (nat_eq n) layers
any_layers n pages [] = refl
any_layers n pages (x ∷ layers) = ap (λ b. nat_eq n x || b) (any_layers n pages layers)

any_memories : (v n : ℕ) (ms : List MarkMemory) (fs : List (Bytes × ℕ)) → AllZip (FitsMemory v) ms fs
    → list_any (λ naming. nat_eq n naming.0) (flat_map memory_namings (zip ms fs)) ≡ list_any (λ memory. list_any (nat_eq n) memory.layers) ms
any_memories v n [] [] fits = refl
any_memories v n [] (f ∷ fs) fits = absurd fits
any_memories v n (m ∷ ms) [] fits = absurd fits
any_memories v n (m ∷ ms) (f ∷ fs) fits =
    list_any-append (λ naming. nat_eq n naming.0) (memory_namings (m, f)) (flat_map memory_namings (zip ms fs))
    ∙ ap (λ b. b || list_any (λ naming. nat_eq n naming.0) (flat_map memory_namings (zip ms fs))) (any_layers n f.1 m.layers)
    ∙ ap (λ b. list_any (nat_eq n) m.layers || b) (any_memories v n ms fs fits.1)

any_named : (n : ℕ) (hs : List StoredHeight) → AllByRecursion IsHeight hs
    → list_any (λ naming. nat_eq n naming.0) (namings (map parts_of (map read_of hs))) ≡ is_named hs n
any_named n [] good = refl
any_named n (h ∷ hs) good =
    list_any-append (λ naming. nat_eq n naming.0) _ (namings (map parts_of (map read_of hs)))
    ∙ ap (λ b. b || list_any (λ naming. nat_eq n naming.0) (namings (map parts_of (map read_of hs)))) (any_memories h.mark.version n h.mark.memories _ good.0.parts.mark.memories_fit)
    ∙ ap (λ b. list_any (λ memory. list_any (nat_eq n) memory.layers) h.mark.memories || b) (any_named n hs good.1)

-- ---- lists over the marks and over their heights

marks_heights : (hs : List StoredHeight) → map (λ m. m.mark.height) (map read_of hs) ≡ heights_in hs
marks_heights [] = refl
marks_heights (h ∷ hs) = ap (λ l. h.mark.height ∷ l) (marks_heights hs)

parts_heights : (hs : List StoredHeight) → map (λ m. m.0.height) (map parts_of (map read_of hs)) ≡ heights_in hs
parts_heights [] = refl
parts_heights (h ∷ hs) = ap (λ l. h.mark.height ∷ l) (parts_heights hs)

marks_lengths_from : (sum : ℕ) (hs : List StoredHeight) → fold (λ (a : ℕ) (m : ReadMark). a + length (mark_text m.mark)) sum (map read_of hs) ≡ fold (λ (a : ℕ) (h : StoredHeight). a + length (mark_text h.mark)) sum hs
marks_lengths_from sum [] = refl
marks_lengths_from sum (h ∷ hs) = marks_lengths_from (sum + length (mark_text h.mark)) hs

marks_lengths : (hs : List StoredHeight) → sum_by (λ m. length (mark_text m.mark)) (map read_of hs) ≡ sum_by (λ h. length (mark_text h.mark)) hs
marks_lengths hs = marks_lengths_from 0 hs

has_marks : (files : Files) (hs : List StoredHeight) → AllByRecursion (λ m. SpellsMark files m.0.height m.0 m.1) (map parts_of (map read_of hs)) → AllByRecursion (HasMark files) hs
has_marks files [] spelled = tt
has_marks files (h ∷ hs) spelled = (spelled.0.there ∙ ap Some spelled.0.spelled.spelled, has_marks files hs spelled.1)

module _ (hs : List StoredHeight) (marks : List ReadMark) (of_marks : map read_of hs ≡ marks) where
  pub same_heights : (heights : List ℕ) → map (λ m. m.mark.height) marks ≡ heights → heights_in hs ≡ heights
  same_heights heights read = sym (marks_heights hs) ∙ ap (map (λ m. m.mark.height)) of_marks ∙ read

  pub named_by : (named : List ℕ) (files given : List NumberedFile) (read : List ReadMark) → named ≡ numbers_of given → given ≡ files → read ≡ marks → AllByRecursion IsHeight hs
      → ((n : ℕ) → list_any (nat_eq n) (numbers_of files) ≡ list_any (λ naming. nat_eq n naming.0) (namings (map parts_of read)))
      → (n : ℕ) → list_any (nat_eq n) named ≡ is_named hs n
  named_by named files given read once same_files same_marks good same n =
      ap (list_any (nat_eq n)) (once ∙ ap numbers_of same_files) ∙ same n
      ∙ ap (λ (ms : List ReadMark). list_any (λ naming. nat_eq n naming.0) (namings (map parts_of ms))) (same_marks ∙ sym of_marks) ∙ any_named n hs good

  pub found_by : (files : Files) (named : List ℕ) (given next : ℕ) (pages : List NumberedFile) → AreGoodMarks files (map parts_of marks) → named ≡ numbers_of pages → AllByRecursion (IsAsKnown files) pages
      → ((all : Files) → AllByRecursion (IsAsKnown all) pages → AllByRecursion (HasStacks all) hs) → IsFound (record { heights = hs; named = named; numbers_given = given; least_free = next }) files
  found_by files named given next pages good once kept stacks =
      let own = subst (λ ms. AreGoodMarks files (map parts_of ms)) (sym of_marks) good in
      record {
        listed = subst (IsListing kind.Mark files) (parts_heights hs) own.listed;
        marks = has_marks files hs own.spelled;
        pages = pages;
        once = sym once;
        kept = kept;
        stacks = stacks;
      }

  pub read_by : (files : Files) (named : List ℕ) (given next : ℕ) (pages : List NumberedFile) (old mid new : DiskView) → named ≡ numbers_of pages → AllByRecursion (IsAsKnown files) pages
      → OnlyReads (sum_by (λ m. length (mark_text m.mark)) marks) old mid → OnlyReads (sum_by (λ file. index_length file.index) pages) mid new
      → ReadsAtMost files (record { heights = hs; named = named; numbers_given = given; least_free = next }) old.bytes_read new.bytes_read
  read_by files named given next pages old mid new once kept first second =
      let sums : sum_by (λ m. length (mark_text m.mark)) marks ≡ sum_by (λ h. length (mark_text h.mark)) hs = ap (sum_by (λ m. length (mark_text m.mark))) (sym of_marks) ∙ marks_lengths hs in
      record {
        pages = pages;
        once = sym once;
        kept = kept;
        most = omega (arith, sums, first.read_most, second.read_most);
      }
