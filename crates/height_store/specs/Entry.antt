-- Where every image stands for some heights, no mark and no page file that a mark names is loose: the empty text is neither.
use Rattle.std.specs.Prelude.{◌≡◌, ℕ, true, false, List, [], ◌∷◌, ◌++◌, zip, nat_eq, is_some, Option, Some, refl}
use Rattle.std.specs.List.{AllByRecursion, AllZip, list_any}
use Rattle.std.proofs.Common.{inl, inr, sym, ◌∙◌, ap, subst, eqb-true}
use Rattle.std.proofs.lemmas.Bool.{cases_Bool, false≢true}
use Rattle.format_spec.specs.Bytes.{Bytes}
use Rattle.state_spec.specs.Files.{memories_in}
use Rattle.sys_state.specs.System.{part_of}
use Rattle.store_spec.specs.Image.{Published, IsLayerOf, AreLayersOf, GivesTrueHeight, heights_of}
use Rattle.page_spec.specs.Layers.{Layer}
use Rattle.store_spec.specs.Mark.{Mark, MarkMemory, FitsMemory, mark_text}
use Rattle.page_spec.specs.PageFile.{PageIndex, index_text}
use Rattle.disk_model.specs.declared.name.Name.{Name}
use Rattle.disk_model.specs.declared.name.Name.TheVariants as name
use Rattle.disk_model.specs.Files.{Files, same_name, files_with}
use Rattle.disk_model.specs.State.{DiskState, Shows, IsImageNow}
use Rattle.disk_model.specs.View.{EachImage}
use Rattle.disk_model.specs.Laws.{IsSound, same_name_eq, same_name_refl, replaced_here, replaced_apart, shows_more}
use Rattle.height_store.specs.Store.{StoredHeight, IsHeight, mark_names, is_named, is_needed}
use Rattle.height_store.specs.Kept.{HasMark, StandsForSome}
use Rattle.height_store.specs.Standing.{some_is, mark_given}

no_mark : (m : Mark) → [] ≡ mark_text m → ⊥
unfolding mark_text
no_mark m e = absurd cc

no_page_file : (i : PageIndex) (pages : Bytes) → [] ≡ index_text i ++ pages → ⊥
unfolding index_text
no_page_file i pages e = absurd cc

-- a loose file may be anything
loose_image : (s : DiskState) (q : Name) (x : Option Bytes) → IsSound s → s.loose q ≡ true → IsImageNow s (files_with s.files q x)
loose_image s q x sound loose = shows_more (λ f shows. shown f shows) s.outcomes sound
  where
    shown : (f : Files) → Shows s.loose f s.files → Shows s.loose f (files_with s.files q x)
    shown f shows = record {
      firm = λ r firm. elim (cases_Bool (same_name q r)) [
        | inl same ↦ absurd (false≢true (sym firm ∙ ap s.loose (sym (same_name_eq q r same)) ∙ loose))
        | inr apart ↦ replaced_apart s.files q x r apart ∙ shows.firm r firm
      ];
    }

module _ (files : Files) where
  pub height_among : (n : ℕ) (ps : List Published) → list_any (nat_eq n) (heights_of ps) ≡ true → AllByRecursion (GivesTrueHeight files) ps → (p : Published) × (n ≡ p.height) × GivesTrueHeight files p
  height_among n [] among given = absurd (false≢true among)
  height_among n (p ∷ ps) among given = elim (cases_Bool (nat_eq n p.height)) [
    | inl here ↦ (p, eqb-true n p.height here, given.0)
    | inr apart ↦ height_among n ps (sym (rw apart refl) ∙ among) given.1
  ]

  height_naming : (n : ℕ) (hs : List StoredHeight) → is_named hs n ≡ true → AllByRecursion IsHeight hs → AllByRecursion (HasMark files) hs → (h : StoredHeight) × (mark_names h.mark n ≡ true) × IsHeight h × HasMark files h
  height_naming n [] named good marks = absurd (false≢true named)
  height_naming n (h ∷ hs) named good marks = elim (cases_Bool (mark_names h.mark n)) [
    | inl here ↦ (h, here, good.0, marks.0)
    | inr apart ↦ height_naming n hs (sym (rw apart refl) ∙ named) good.1 marks.1
  ]

  layer_among : (n pages : ℕ) (numbers : List ℕ) (layers : List Layer) → list_any (nat_eq n) numbers ≡ true → AllZip (IsLayerOf files pages) numbers layers → (l : Layer) × IsLayerOf files pages n l
  layer_among n pages [] layers among there = absurd (false≢true among)
  layer_among n pages (k ∷ numbers) [] among there = absurd there
  layer_among n pages (k ∷ numbers) (l ∷ layers) among there = elim (cases_Bool (nat_eq n k)) [
    | inl here ↦ (l, subst (λ (m : ℕ). IsLayerOf files pages m l) (sym (eqb-true n k here)) there.0)
    | inr apart ↦ layer_among n pages numbers layers (sym (rw apart refl) ∙ among) there.1
  ]

  layer_named : (v n : ℕ) (ms : List MarkMemory) (memories : List (Bytes × ℕ)) (layers : List (List Layer)) → list_any (λ memory. list_any (nat_eq n) memory.layers) ms ≡ true → AllZip (FitsMemory v) ms memories
      → AllZip (AreLayersOf files) (zip ms memories) layers → (pages : ℕ) × (l : Layer) × IsLayerOf files pages n l
  layer_named v n [] memories layers named fits there = absurd (false≢true named)
  layer_named v n (m ∷ ms) [] layers named fits there = absurd fits
  layer_named v n (m ∷ ms) (memory ∷ memories) [] named fits there = absurd there
  layer_named v n (m ∷ ms) (memory ∷ memories) (l ∷ layers) named fits there = elim (cases_Bool (list_any (nat_eq n) m.layers)) [
    | inl here ↦ let found = layer_among n memory.1 m.layers l here there.0 in (memory.1, found.0, found.1)
    | inr apart ↦ layer_named v n ms memories layers (sym (rw apart refl) ∙ named) fits.1 there.1
  ]

mark_not_empty : (image : Files) (n : ℕ) → image (name.Mark n) ≡ Some [] → StandsForSome image → ⊥
mark_not_empty image n empty stands =
    let found = height_among image n stands.0 (stands.1.marks.each n ∙ ap is_some empty) stands.1.each in
    let given = found.2.0 in
    no_mark given.mark (some_is [] given.text (sym empty ∙ ap (λ (k : ℕ). image (name.Mark k)) found.1 ∙ given.there) ∙ given.spelled.spelled)

page_not_empty : (image : Files) (n : ℕ) (h : StoredHeight) → mark_names h.mark n ≡ true → IsHeight h → HasMark image h → image (name.Page n) ≡ Some [] → StandsForSome image → ⊥
page_not_empty image n h named good there empty stands =
    let found = height_among image h.mark.height stands.0 (stands.1.marks.each h.mark.height ∙ ap is_some there) stands.1.each in
    let given = found.2.0 in
    let mark = (mark_given image h.mark (part_of h.system) found.0 good.parts.mark found.1 there given).0 in
    let layer = layer_named image given.mark.version n given.mark.memories (memories_in given.system) given.layers (ap (λ (m : Mark). mark_names m n) mark ∙ named) given.spelled.good.memories_fit given.layers_there in
    no_page_file layer.1.index layer.1.pages (some_is [] layer.2.text (sym empty ∙ layer.2.there) ∙ layer.2.good.spelled)

-- These heights' marks are on the disk.
pub needed_firm : (hs : List StoredHeight) (s : DiskState) → AllByRecursion IsHeight hs → AllByRecursion (HasMark s.files) hs → IsSound s → EachImage s StandsForSome → (q : Name) → is_needed hs q ≡ true → s.loose q ≡ false
needed_firm hs s good marks sound each (name.Mark n) needed = elim (cases_Bool (s.loose (name.Mark n))) [
  | inl loose ↦
      let image : Files = files_with s.files (name.Mark n) (Some []) in
      absurd (mark_not_empty image n (replaced_here s.files (name.Mark n) (Some []) (name.Mark n) (same_name_refl (name.Mark n))) (each image (loose_image s (name.Mark n) (Some []) sound loose)))
  | inr firm ↦ firm
]
needed_firm hs s good marks sound each (name.Page n) needed = elim (cases_Bool (s.loose (name.Page n))) [
  | inl loose ↦
      let image : Files = files_with s.files (name.Page n) (Some []) in
      let by = height_naming s.files n hs needed good marks in
      absurd (page_not_empty image n by.0 by.1 by.2 by.3 (replaced_here s.files (name.Page n) (Some []) (name.Page n) (same_name_refl (name.Page n))) (each image (loose_image s (name.Page n) (Some []) sound loose)))
  | inr firm ↦ firm
]
needed_firm hs s good marks sound each (name.Draft n) needed = absurd (false≢true needed)
needed_firm hs s good marks sound each (name.Stage n) needed = absurd (false≢true needed)
