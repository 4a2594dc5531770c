-- The layers of a mark's memories, by the page files that it names.
use Rattle.std.specs.Prelude.{◌≡◌, ℕ, suc, ◌≤◌, Bool, true, false, ◌||◌, List, [], ◌∷◌, map, length, zip, nat_eq, is_some, IsTrue, refl}
use Rattle.std.specs.List.{AllByRecursion, AllZip, list_any}
use Rattle.std.proofs.Common.{sym, ◌∙◌, ap, subst, eq-eqb}
use Rattle.std.proofs.lemmas.Bool.{false≢true}
use Rattle.format_spec.specs.Bytes.{Bytes}
use Rattle.format_spec.proofs.Cuts.{heads}
use Rattle.state_spec.specs.State.{State, SystemPart, SameState, state_from}
use Rattle.state_spec.specs.Files.{memories_in}
use Rattle.sys_state.specs.System.{part_of}
use Rattle.store_spec.specs.Image.{Published, IsLayerOf, AreLayersOf, GivesTrueHeight, memories_from, heights_of, IsOpened}
use Rattle.page_spec.specs.Layers.{Layer}
use Rattle.store_spec.specs.Mark.{MarkMemory, mark_text, is_opened}
use Rattle.page_spec.specs.PageFile.{PageIndex, IsPageFile}
use Rattle.disk_model.specs.declared.name.Kind.TheVariants as kind
use Rattle.disk_model.specs.declared.name.Name.TheVariants as name
use Rattle.disk_model.specs.Files.{Files, IsListing}
use Rattle.page_file.specs.Files.{NumberedFile}
use Rattle.layer_stack.specs.Stacks.{IsLayer, AreLayers}
use Rattle.height_store.specs.Store.{StoredHeight, FitsPages, heights_in, numbers_of}
use Rattle.height_store.specs.Kept.{ShowsHeight}

-- ---- tests

pub or_left : (a b : Bool) → a ≡ true → (a || b) ≡ true
or_left true b h = refl
or_left false b h = absurd (false≢true h)

pub or_right : (a b : Bool) → b ≡ true → (a || b) ≡ true
or_right true b h = refl
or_right false b h = h

pub first_named : (n : ℕ) (ns : List ℕ) → list_any (nat_eq n) (n ∷ ns) ≡ true
first_named n ns = or_left (nat_eq n n) (list_any (nat_eq n) ns) (eq-eqb n n refl)

pub listing_apart : (f g : Files) (numbers : List ℕ) → ((n : ℕ) → g (name.Mark n) ≡ f (name.Mark n)) → IsListing kind.Mark f numbers → IsListing kind.Mark g numbers
listing_apart f g numbers same listed = record { ascending = listed.ascending; each = λ n. listed.each n ∙ ap is_some (sym (same n)) }

-- ---- layers in other files

module _ (f g : Files) where
  layer_apart : (file : NumberedFile) (l : Layer) → g (name.Page file.number) ≡ f (name.Page file.number) → IsLayer f file l → IsLayer g file l
  layer_apart file l same layer = record { index = layer.index; there = record { text = layer.there.text; there = same ∙ layer.there.there; good = layer.there.good } }

  stack_apart : (stack : List NumberedFile) (layers : List Layer) → ((n : ℕ) → list_any (nat_eq n) (numbers_of stack) ≡ true → g (name.Page n) ≡ f (name.Page n)) → AreLayers f stack layers → AreLayers g stack layers
  stack_apart [] [] same there = tt
  stack_apart [] (l ∷ layers) same there = absurd there
  stack_apart (file ∷ stack) [] same there = absurd there
  stack_apart (file ∷ stack) (l ∷ layers) same there = (
    layer_apart file l (same file.number (first_named file.number (numbers_of stack))) there.0,
    stack_apart stack layers (λ n among. same n (or_right (nat_eq n file.number) (list_any (nat_eq n) (numbers_of stack)) among)) there.1,
  )

  pub stacks_apart : (stacks : List (List NumberedFile)) (ms : List MarkMemory) (layers : List (List Layer)) → map numbers_of stacks ≡ map (λ memory. memory.layers) ms
      → ((n : ℕ) → list_any (λ memory. list_any (nat_eq n) memory.layers) ms ≡ true → g (name.Page n) ≡ f (name.Page n)) → AllZip (AreLayers f) stacks layers → AllZip (AreLayers g) stacks layers
  stacks_apart [] ms [] numbers same there = tt
  stacks_apart [] ms (l ∷ layers) numbers same there = absurd there
  stacks_apart (stack ∷ stacks) ms [] numbers same there = absurd there
  stacks_apart (stack ∷ stacks) [] (l ∷ layers) numbers same there = absurd cc
  stacks_apart (stack ∷ stacks) (m ∷ ms) (l ∷ layers) numbers same there =
      let parts = heads (numbers_of stack) m.layers (map numbers_of stacks) (map (λ memory. memory.layers) ms) numbers in
      let named : ℕ → Bool = λ n. list_any (λ memory. list_any (nat_eq n) memory.layers) ms in (
        stack_apart stack l (λ n among. same n (or_left (list_any (nat_eq n) m.layers) (named n) (sym (ap (list_any (nat_eq n)) parts.0) ∙ among))) there.0,
        stacks_apart stacks ms layers parts.1 (λ n among. same n (or_right (list_any (nat_eq n) m.layers) (named n) among)) there.1,
      )

-- ---- versions

-- a state that is made of parts and memories, but for births and rounds, is of the version given
pub same_made : (s : State) (version birth : ℕ) (parts : SystemPart) (memories : List Bytes) → SameState s (state_from version birth parts memories) → s.version ≡ version
unfolding state_from
same_made s version birth parts memories same = ap (λ (t : State). t.version) same

-- ---- layers of stacks are those of the mark

module _ (files : Files) where
  layer_of : (pages : ℕ) (file : NumberedFile) (l : Layer) → file.index.memory ≤ pages → IsLayer files file l → IsLayerOf files pages file.number l
  layer_of pages file l fits layer = record {
    text = layer.there.text;
    there = layer.there.there;
    good = subst (λ (i : PageIndex). IsPageFile layer.there.text i l.pages) (sym layer.index) layer.there.good;
    fits = subst (λ (i : PageIndex). i.memory ≤ pages) (sym layer.index) fits;
  }

  stack_of : (m : Bytes × ℕ) (stack : List NumberedFile) (layers : List Layer) → FitsPages stack m → AreLayers files stack layers → AllZip (IsLayerOf files m.1) (numbers_of stack) layers
  stack_of m [] [] fits there = tt
  stack_of m [] (l ∷ layers) fits there = absurd there
  stack_of m (file ∷ stack) [] fits there = absurd there
  stack_of m (file ∷ stack) (l ∷ layers) fits there = (layer_of m.1 file l fits.0 there.0, stack_of m stack layers fits.1 there.1)

  pub stacks_of : (stacks : List (List NumberedFile)) (ms : List MarkMemory) (memories : List (Bytes × ℕ)) (layers : List (List Layer)) → map numbers_of stacks ≡ map (λ memory. memory.layers) ms → AllZip FitsPages stacks memories
      → AllZip (AreLayers files) stacks layers → AllZip (AreLayersOf files) (zip ms memories) layers
  stacks_of [] [] memories [] numbers fits there = tt
  stacks_of [] (m ∷ ms) memories layers numbers fits there = absurd cc
  stacks_of [] [] memories (l ∷ layers) numbers fits there = absurd there
  stacks_of (stack ∷ stacks) ms memories [] numbers fits there = absurd there
  stacks_of (stack ∷ stacks) [] memories (l ∷ layers) numbers fits there = absurd cc
  stacks_of (stack ∷ stacks) (m ∷ ms) [] (l ∷ layers) numbers fits there = absurd fits
  stacks_of (stack ∷ stacks) (m ∷ ms) (memory ∷ memories) (l ∷ layers) numbers fits there =
      let parts = heads (numbers_of stack) m.layers (map numbers_of stacks) (map (λ e. e.layers) ms) numbers in
      (subst (λ (ns : List ℕ). AllZip (IsLayerOf files memory.1) ns l) parts.0 (stack_of memory stack l fits.0 there.0), stacks_of stacks ms memories layers parts.1 fits.1 there.1)

  -- ---- heights

  height_given : (h : StoredHeight) (p : Published) → ShowsHeight files h p → GivesTrueHeight files p
  height_given h p shows = (
    record {
      text = mark_text h.mark;
      there = ap (λ (n : ℕ). files (name.Mark n)) shows.made.height ∙ shows.mark;
      mark = h.mark;
      system = part_of h.system;
      layers = shows.made.layers;
      spelled = record { spelled = refl; good = shows.made.good.mark; of_height = sym shows.made.height };
      layers_there = stacks_of h.stacks h.mark.memories (memories_in (part_of h.system)) shows.made.layers shows.made.good.numbers shows.made.good.fits shows.made.there;
      same_state = shows.made.same_state;
      same_layers = shows.made.same_layers;
    },
    shows.made.true_sums,
  )

  pub heights_given : (hs : List StoredHeight) (ps : List Published) → AllZip (ShowsHeight files) hs ps → AllByRecursion (GivesTrueHeight files) ps
  heights_given [] [] each = tt
  heights_given [] (p ∷ ps) each = absurd each
  heights_given (h ∷ hs) [] each = absurd each
  heights_given (h ∷ hs) (p ∷ ps) each = (height_given h p each.0, heights_given hs ps each.1)

  pub heights_opened : (hs : List StoredHeight) (ps : List Published) → AllZip (ShowsHeight files) hs ps → AllByRecursion IsOpened ps
  heights_opened [] [] each = tt
  heights_opened [] (p ∷ ps) each = absurd each
  heights_opened (h ∷ hs) [] each = absurd each
  heights_opened (h ∷ hs) (p ∷ ps) each = (
    subst (λ (v : ℕ). IsTrue (is_opened v)) (sym (same_made p.state h.mark.version p.height (part_of h.system) (memories_from (part_of h.system) each.0.made.layers) each.0.made.same_state)) each.0.made.good.opened,
    heights_opened hs ps each.1,
  )

  pub same_heights : (hs : List StoredHeight) (ps : List Published) → AllZip (ShowsHeight files) hs ps → heights_in hs ≡ heights_of ps
  same_heights [] [] each = refl
  same_heights [] (p ∷ ps) each = absurd each
  same_heights (h ∷ hs) [] each = absurd each
  same_heights (h ∷ hs) (p ∷ ps) each = λ i. sym each.0.made.height i ∷ same_heights hs ps each.1 i

  pub same_count : (hs : List StoredHeight) (ps : List Published) → AllZip (ShowsHeight files) hs ps → length hs ≡ length ps
  same_count [] [] each = refl
  same_count [] (p ∷ ps) each = absurd each
  same_count (h ∷ hs) [] each = absurd each
  same_count (h ∷ hs) (p ∷ ps) each = ap suc (same_count hs ps each.1)
