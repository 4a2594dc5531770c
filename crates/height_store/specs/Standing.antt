-- The heights that files stand for are those of the marks in a store.
use Rattle.std.specs.Prelude.{◌≡◌, ℕ, suc, ◌≤◌, List, [], ◌∷◌, map, length, zip, Some, IsTrue, refl}
use Rattle.std.specs.List.{AllByRecursion, AllZip}
use Rattle.std.proofs.Common.{sym, ◌∙◌, ap, subst}
use Rattle.format_spec.specs.Bytes.{Bytes}
use Rattle.format_spec.specs.declared.limits.TheConstants.{MAX_PUBLISHED}
use Rattle.format_spec.proofs.Cuts.{heads}
use Rattle.state_spec.specs.State.{SystemPart, state_from}
use Rattle.state_spec.specs.Files.{memories_in}
use Rattle.sys_state.specs.System.{part_of}
use Rattle.store_spec.specs.Image.{Published, IsLayerOf, AreLayersOf, memories_from, GivesHeight, GivesTrueHeight, heights_of, IsOpened, OpensAt, StandsFor}
use Rattle.page_spec.specs.Layers.{Layer}
use Rattle.store_spec.specs.Mark.{Mark, MarkMemory, IsMark, IsMarkText, mark_text, is_opened}
use Rattle.page_spec.specs.PageFile.{PageIndex, IsPageFile}
use Rattle.store_spec.proofs.Images.{listing_once}
use Rattle.store_spec.proofs.Marks.{mark_once}
use Rattle.page_spec.proofs.PageFiles.{page_file_once}
use Rattle.disk_model.specs.declared.name.Kind.TheVariants as kind
use Rattle.disk_model.specs.declared.name.Name.TheVariants as name
use Rattle.disk_model.specs.Files.{Files, IsListing}
use Rattle.page_file.specs.Files.{NumberedFile, IsAsKnown}
use Rattle.layer_stack.specs.Stacks.{IsLayer, AreLayers}
use Rattle.height_store.specs.Store.{StoredHeight, FitsMark, FitsPages, IsHeight, heights_in, numbers_of}
use Rattle.height_store.specs.Kept.{HasMark, HasStacks, IsMadeOf, ShowsHeight, ShowsHeights}
use Rattle.height_store.specs.Shown.{stacks_of}

pub some_is : (a b : Bytes) → Some a ≡ Some b → a ≡ b
some_is a b e = cc

-- a height of a state that is made of parts and memories is of the version given
opened_by : (version birth : ℕ) (s : SystemPart) (memories : List Bytes) → IsTrue (is_opened version) → IsTrue (is_opened (state_from version birth s memories).version)
unfolding state_from
opened_by version birth s memories is = is

module _ (files : Files) where
  -- ---- what a mark's layers are, the page files of the stacks have

  layer_from : (pages : ℕ) (file : NumberedFile) (l : Layer) → IsAsKnown files file → IsLayerOf files pages file.number l → IsLayer files file l
  layer_from pages file l kept layer =
      let text : layer.text ≡ kept.1.text = some_is layer.text kept.1.text (sym layer.there ∙ kept.1.there) in
      let index : l.index ≡ file.index = (page_file_once kept.1.text l.index file.index l.pages kept.0 (subst (λ (t : Bytes). IsPageFile t l.index l.pages) text layer.good) kept.1.good).0 in
      record {
        index = index;
        there = record { text = layer.text; there = layer.there; good = subst (λ (i : PageIndex). IsPageFile layer.text i l.pages) index layer.good };
      }

  stack_from : (pages : ℕ) (stack : List NumberedFile) (layers : List Layer) → AllByRecursion (IsAsKnown files) stack → AllZip (IsLayerOf files pages) (numbers_of stack) layers → AreLayers files stack layers
  stack_from pages [] [] kept there = tt
  stack_from pages [] (l ∷ layers) kept there = absurd there
  stack_from pages (file ∷ stack) [] kept there = absurd there
  stack_from pages (file ∷ stack) (l ∷ layers) kept there = (layer_from pages file l kept.0 there.0, stack_from pages stack layers kept.1 there.1)

  stacks_from : (stacks : List (List NumberedFile)) (ms : List MarkMemory) (memories : List (Bytes × ℕ)) (layers : List (List Layer)) → map numbers_of stacks ≡ map (λ memory. memory.layers) ms → AllZip FitsPages stacks memories
      → AllByRecursion (AllByRecursion (IsAsKnown files)) stacks → AllZip (AreLayersOf files) (zip ms memories) layers → AllZip (AreLayers files) stacks layers
  stacks_from [] [] memories [] numbers fits kept there = tt
  stacks_from [] [] memories (l ∷ layers) numbers fits kept there = absurd there
  stacks_from [] (m ∷ ms) memories layers numbers fits kept there = absurd cc
  stacks_from (stack ∷ stacks) [] memories layers numbers fits kept there = absurd cc
  stacks_from (stack ∷ stacks) (m ∷ ms) [] layers numbers fits kept there = absurd fits
  stacks_from (stack ∷ stacks) (m ∷ ms) (memory ∷ memories) [] numbers fits kept there = absurd there
  stacks_from (stack ∷ stacks) (m ∷ ms) (memory ∷ memories) (l ∷ layers) numbers fits kept there =
      let parts = heads (numbers_of stack) m.layers (map numbers_of stacks) (map (λ e. e.layers) ms) numbers in
      (stack_from memory.1 stack l kept.0 (subst (λ (ns : List ℕ). AllZip (IsLayerOf files memory.1) ns l) (sym parts.0) there.0), stacks_from stacks ms memories layers parts.1 fits.1 kept.1 there.1)

  -- ---- the mark of a height

  pub mark_given : (m : Mark) (s : SystemPart) (p : Published) → IsMark m s → m.height ≡ p.height → files (name.Mark m.height) ≡ Some (mark_text m) → (given : GivesHeight files p) → (given.mark ≡ m) × (given.system ≡ s)
  mark_given m s p good height there given =
      let text : given.text ≡ mark_text m = some_is given.text (mark_text m) (sym given.there ∙ ap (λ (n : ℕ). files (name.Mark n)) (sym height) ∙ there) in
      mark_once p.height m.height (mark_text m) given.mark m given.system s (subst (λ (t : Bytes). IsMarkText p.height t given.mark given.system) text given.spelled) (record { spelled = refl; good = good; of_height = refl })

  height_shown : (h : StoredHeight) (p : Published) → h.mark.height ≡ p.height → IsHeight h → HasMark files h → HasStacks files h → GivesTrueHeight files p → ShowsHeight files h p
  height_shown h p height good there kept given =
      let same = mark_given h.mark (part_of h.system) p good.parts.mark height there given.0 in
      let fits : FitsMark given.0.mark given.0.system h.stacks = subst (λ (m : Mark). FitsMark m given.0.system h.stacks) (sym same.0) (subst (λ (s : SystemPart). FitsMark h.mark s h.stacks) (sym same.1) good.parts) in
      let made : IsMadeOf files given.0.mark given.0.system h.stacks p = record {
        good = fits;
        height = sym given.0.spelled.of_height;
        layers = given.0.layers;
        there = stacks_from h.stacks given.0.mark.memories (memories_in given.0.system) given.0.layers fits.numbers fits.fits kept given.0.layers_there;
        same_state = given.0.same_state;
        same_layers = given.0.same_layers;
        true_sums = given.1;
      } in
      record {
        good = good;
        mark = there;
        made = subst (λ (m : Mark). IsMadeOf files m (part_of h.system) h.stacks p) same.0 (subst (λ (s : SystemPart). IsMadeOf files given.0.mark s h.stacks p) same.1 made);
      }

  each_shown : (hs : List StoredHeight) (ps : List Published) → heights_in hs ≡ heights_of ps → AllByRecursion IsHeight hs → AllByRecursion (HasMark files) hs → AllByRecursion (HasStacks files) hs → AllByRecursion (GivesTrueHeight files) ps → AllZip (ShowsHeight files) hs ps
  each_shown [] [] same good marks kept given = tt
  each_shown [] (p ∷ ps) same good marks kept given = absurd cc
  each_shown (h ∷ hs) [] same good marks kept given = absurd cc
  each_shown (h ∷ hs) (p ∷ ps) same good marks kept given =
      let parts = heads h.mark.height p.height (heights_in hs) (heights_of ps) same in
      (height_shown h p parts.0 good.0 marks.0 kept.0 given.0, each_shown hs ps parts.1 good.1 marks.1 kept.1 given.1)

  equally_many : (hs : List StoredHeight) (ps : List Published) → heights_in hs ≡ heights_of ps → length ps ≡ length hs
  equally_many [] [] same = refl
  equally_many [] (p ∷ ps) same = absurd cc
  equally_many (h ∷ hs) [] same = absurd cc
  equally_many (h ∷ hs) (p ∷ ps) same = ap suc (equally_many hs ps (heads h.mark.height p.height (heights_in hs) (heights_of ps) same).1)

  -- Where the files have these marks and no other, and their page files, they stand for these heights only.
  pub heights_shown : (hs : List StoredHeight) (ps : List Published) → AllByRecursion IsHeight hs → IsListing kind.Mark files (heights_in hs) → AllByRecursion (HasMark files) hs → AllByRecursion (HasStacks files) hs → StandsFor files ps → ShowsHeights files hs ps
  heights_shown hs ps good listed marks kept stands =
      let same : heights_in hs ≡ heights_of ps = listing_once kind.Mark files (heights_in hs) (heights_of ps) listed stands.marks in
      record { listed = listed; few = subst (λ (count : ℕ). count ≤ MAX_PUBLISHED) (equally_many hs ps same) stands.few; each = each_shown hs ps same good marks kept stands.each }

  -- ---- that they open

  stack_layers : (stack : List NumberedFile) → AllByRecursion (IsAsKnown files) stack → (layers : List Layer) × AreLayers files stack layers
  stack_layers [] kept = ([], tt)
  stack_layers (file ∷ stack) kept =
      let more = stack_layers stack kept.1 in
      (record { index = file.index; pages = kept.0.0 } ∷ more.0, (record { index = refl; there = kept.0.1 }, more.1))

  stacks_layers : (stacks : List (List NumberedFile)) → AllByRecursion (AllByRecursion (IsAsKnown files)) stacks → (layers : List (List Layer)) × AllZip (AreLayers files) stacks layers
  stacks_layers [] kept = ([], tt)
  stacks_layers (stack ∷ stacks) kept = let first = stack_layers stack kept.0 in let more = stacks_layers stacks kept.1 in (first.0 ∷ more.0, (first.1, more.1))

  height_opens : (h : StoredHeight) → IsHeight h → HasMark files h → HasStacks files h → (p : Published) × (h.mark.height ≡ p.height) × IsOpened p × GivesHeight files p
  height_opens h good there kept =
      let found = stacks_layers h.stacks kept in
      let system = part_of h.system in
      let layers = found.0 in
      let p : Published = record { height = h.mark.height; state = state_from h.mark.version h.mark.height system (memories_from system layers); layers = map (map (λ l. l.index.numbers)) layers } in (
        p,
        refl,
        opened_by h.mark.version h.mark.height system (memories_from system layers) good.parts.opened,
        record {
          text = mark_text h.mark;
          there = there;
          mark = h.mark;
          system = system;
          layers = layers;
          spelled = record { spelled = refl; good = good.parts.mark; of_height = refl };
          layers_there = stacks_of files h.stacks h.mark.memories (memories_in system) layers good.parts.numbers good.parts.fits found.1;
          same_state = refl;
          same_layers = refl;
        },
      )

  pub heights_open : (hs : List StoredHeight) → AllByRecursion IsHeight hs → AllByRecursion (HasMark files) hs → AllByRecursion (HasStacks files) hs → (ps : List Published) × (heights_in hs ≡ heights_of ps) × AllByRecursion IsOpened ps × AllByRecursion (GivesHeight files) ps
  heights_open [] good marks kept = ([], refl, tt, tt)
  heights_open (h ∷ hs) good marks kept =
      let first = height_opens h good.0 marks.0 kept.0 in
      let more = heights_open hs good.1 marks.1 kept.1 in
      (first.0 ∷ more.0, (λ i. first.1 i ∷ more.1 i), (first.2, more.2), (first.3, more.3))

  pub marks_open : (hs : List StoredHeight) → AllByRecursion IsHeight hs → length hs ≤ MAX_PUBLISHED → IsListing kind.Mark files (heights_in hs) → AllByRecursion (HasMark files) hs → AllByRecursion (HasStacks files) hs → (ps : List Published) × OpensAt files ps
  marks_open hs good few listed marks kept =
      let found = heights_open hs good marks kept in (
        found.0,
        record {
          marks = subst (IsListing kind.Mark files) found.1 listed;
          few = subst (λ (count : ℕ). count ≤ MAX_PUBLISHED) (sym (equally_many hs found.0 found.1)) few;
          versions = found.2;
          each = found.3;
        },
      )
