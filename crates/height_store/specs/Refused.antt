-- A disk with a bad mark or a bad page file does not open.
use Rattle.std.specs.Prelude.{◌≡◌, ◌⊎◌, ℕ, List, [], ◌∷◌, ◌++◌, length, map, zip, Some, IsTrue}
use Rattle.std.specs.List.{flat_map, AllByRecursion, AllZip}
use Rattle.std.proofs.Common.{inl, inr, sym, ◌∙◌, ap, subst, arith, length-append}
use Rattle.std.proofs.lemmas.List.{length-map}
use Rattle.format_spec.specs.Bytes.{Bytes}
use Rattle.format_spec.specs.declared.limits.TheConstants.{MAX_PUBLISHED}
use Rattle.format_spec.proofs.Cuts.{heads}
use Rattle.state_spec.specs.State.{SystemPart}
use Rattle.state_spec.specs.Files.{memories_in}
use Rattle.store_spec.specs.Image.{Published, IsLayerOf, AreLayersOf, GivesHeight, memories_from, heights_of, IsOpened, Opens}
use Rattle.page_spec.specs.Layers.{Layer}
use Rattle.store_spec.specs.Mark.{Mark, MarkMemory, is_opened}
use Rattle.store_spec.proofs.Images.{listing_once}
use Rattle.disk_model.specs.declared.name.Kind.TheVariants as kind
use Rattle.disk_model.specs.Files.{Files}
use Rattle.height_store.specs.Bad.{SpellsMark, HasGoodMark, IsFirstBadMark, IsFirstBadPage, IsGoodNaming, memory_namings, mark_namings, namings}
use Rattle.height_store.specs.Standing.{mark_given}
use Rattle.height_store.specs.Shown.{same_made}

-- ---- lists

all_append : {A : Type 0} (P : A → Type 0) (xs ys : List A) → AllByRecursion P xs → AllByRecursion P ys → AllByRecursion P (xs ++ ys)
all_append P [] ys first second = second
all_append P (x ∷ xs) ys first second = (first.0, all_append P xs ys first.1 second)

pub at_split : {A : Type 0} (P : A → Type 0) (before : List A) (x : A) (after : List A) → AllByRecursion P (before ++ x ∷ after) → P x
at_split P [] x after all = all.0
at_split P (y ∷ before) x after all = at_split P before x after all.1

module _ (files : Files) where
  -- ---- marks

  good_mark : (n : ℕ) (p : Published) → n ≡ p.height → IsOpened p → GivesHeight files p → HasGoodMark files n
  good_mark n p same opened given =
      let version = same_made p.state given.mark.version p.height given.system (memories_from given.system given.layers) given.same_state in (
        given.mark,
        given.system,
        subst (λ (k : ℕ). SpellsMark files k given.mark given.system) (sym same)
            (record { text = given.text; there = given.there; spelled = given.spelled; opened = subst (λ (v : ℕ). IsTrue (is_opened v)) version opened }),
      )

  good_marks : (ns : List ℕ) (ps : List Published) → ns ≡ heights_of ps → AllByRecursion IsOpened ps → AllByRecursion (GivesHeight files) ps → AllByRecursion (HasGoodMark files) ns
  good_marks [] ps same opened given = tt
  good_marks (n ∷ ns) [] same opened given = absurd cc
  good_marks (n ∷ ns) (p ∷ ps) same opened given = let parts = heads n p.height ns (heights_of ps) same in (good_mark n p parts.0 opened.0 given.0, good_marks ns ps parts.1 opened.1 given.1)

  pub bad_mark_refused : (n : ℕ) → IsFirstBadMark files n → Opens files → ⊥
  bad_mark_refused n bad opens = by bad.bad
    where
      same : bad.before ++ n ∷ bad.after ≡ heights_of opens.0
      same = listing_once kind.Mark files (bad.before ++ n ∷ bad.after) (heights_of opens.0) bad.listed opens.1.marks

      by : (length bad.before ≡ MAX_PUBLISHED) ⊎ (HasGoodMark files n → ⊥) → ⊥
      by (inl full) = absurd (omega (arith, full, opens.1.few, ap length same, length-append bad.before (n ∷ bad.after), length-map opens.0 (λ (p : Published). p.height)))
      by (inr none) = none (at_split (HasGoodMark files) bad.before n bad.after (good_marks (bad.before ++ n ∷ bad.after) opens.0 same opens.1.versions opens.1.each))

  -- ---- page files

  stack_good : (pages : ℕ) (numbers : List ℕ) (layers : List Layer) → AllZip (IsLayerOf files pages) numbers layers → AllByRecursion (IsGoodNaming files) (map (λ n. (n, pages)) numbers)
  stack_good pages [] layers there = tt
  stack_good pages (n ∷ numbers) [] there = absurd there
  stack_good pages (n ∷ numbers) (l ∷ layers) there = ((l.index, l.pages, record { text = there.0.text; there = there.0.there; good = there.0.good }, there.0.fits), stack_good pages numbers layers there.1)

  stacks_good : (memories : List (MarkMemory × (Bytes × ℕ))) (layers : List (List Layer)) → AllZip (AreLayersOf files) memories layers → AllByRecursion (IsGoodNaming files) (flat_map memory_namings memories)
  stacks_good [] layers there = tt
  stacks_good (m ∷ memories) [] there = absurd there
  stacks_good (m ∷ memories) (l ∷ layers) there = all_append (IsGoodNaming files) (memory_namings m) (flat_map memory_namings memories) (stack_good m.1.1 m.0.layers l there.0) (stacks_good memories layers there.1)

  mark_good : (m : Mark × SystemPart) (p : Published) → m.0.height ≡ p.height → SpellsMark files m.0.height m.0 m.1 → GivesHeight files p → AllByRecursion (IsGoodNaming files) (mark_namings m)
  mark_good m p height spells given =
      let same = mark_given files m.0 m.1 p spells.spelled.good height (spells.there ∙ ap Some spells.spelled.spelled) given in
      let goes : List (ℕ × ℕ) → Type 0 = AllByRecursion (IsGoodNaming files) in
      subst (λ (s : SystemPart). goes (mark_namings (m.0, s))) same.1 (subst (λ (k : Mark). goes (mark_namings (k, given.system))) same.0 (stacks_good (zip given.mark.memories (memories_in given.system)) given.layers given.layers_there))

  marks_good : (ms : List (Mark × SystemPart)) (ps : List Published) → map (λ m. m.0.height) ms ≡ heights_of ps → AllByRecursion (λ m. SpellsMark files m.0.height m.0 m.1) ms → AllByRecursion (GivesHeight files) ps → AllByRecursion (IsGoodNaming files) (namings ms)
  marks_good [] ps same spells given = tt
  marks_good (m ∷ ms) [] same spells given = absurd cc
  marks_good (m ∷ ms) (p ∷ ps) same spells given =
      let parts = heads m.0.height p.height (map (λ e. e.0.height) ms) (heights_of ps) same in
      all_append (IsGoodNaming files) (mark_namings m) (namings ms) (mark_good m p parts.0 spells.0 given.0) (marks_good ms ps parts.1 spells.1 given.1)

  pub bad_page_refused : (n : ℕ) → IsFirstBadPage files n → Opens files → ⊥
  bad_page_refused n bad opens =
      let same = listing_once kind.Mark files (map (λ m. m.0.height) bad.marks) (heights_of opens.0) bad.good_marks.listed opens.1.marks in
      let good = marks_good bad.marks opens.0 same bad.good_marks.spelled opens.1.each in
      bad.bad (at_split (IsGoodNaming files) bad.before (n, bad.pages) bad.after (subst (AllByRecursion (IsGoodNaming files)) bad.named good))
