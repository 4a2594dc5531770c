-- What is so of layers, by the definitions alone.
use Rattle.std.specs.Prelude.{◌≡◌, ℕ, zero, suc, ◌+◌, List, [], ◌∷◌, ◌++◌, take, drop, reverse, refl}
use Rattle.std.proofs.Common.{◌∙◌, ap, sym, append_assoc}
use Rattle.std.proofs.lemmas.List.{reverse-append, take-append-drop}
use Rattle.std.specs.List.{AllByRecursion}
use Rattle.format_spec.specs.Bytes.{Bytes}
use Rattle.page_spec.specs.PageFile.{page_in}
use Rattle.page_spec.specs.Layers.{Layer, page_from, or_else}
use Rattle.disk_model.specs.declared.name.Name.TheVariants.{Page}
use Rattle.disk_model.specs.Files.{Files}
use Rattle.page_file.specs.Files.{NumberedFile, IsAsKnown}
use Rattle.layer_stack.specs.Stacks.{IsLayer, AreLayers, ReadsAs, PagesReadAs, list_with}

-- Layers depend on the page files that the stack names alone.
pub layers_in_others : (f g : Files) (stack : List NumberedFile) (layers : List Layer) → AllByRecursion (λ file. g (Page file.number) ≡ f (Page file.number)) stack → AreLayers f stack layers → AreLayers g stack layers
layers_in_others f g [] [] same are = tt
layers_in_others f g [] (l ∷ ls) same are = are
layers_in_others f g (file ∷ stack) [] same are = are
layers_in_others f g (file ∷ stack) (l ∷ ls) same are = (moved, layers_in_others f g stack ls same.1 are.1)
  where
    moved : IsLayer g file l
    moved = let has = are.0.there in record {
      index = are.0.index;
      there = record { text = has.text; there = same.0 ∙ has.there; good = has.good };
    }

-- Where each page file is there as it is known, they have layers.
pub kept_have_layers : (files : Files) (stack : List NumberedFile) → AllByRecursion (IsAsKnown files) stack → (layers : List Layer) × AreLayers files stack layers
kept_have_layers files [] kept = ([], tt)
kept_have_layers files (file ∷ stack) kept =
    let rest = kept_have_layers files stack kept.1 in (record { index = file.index; pages = kept.0.0 } ∷ rest.0, (record { index = refl; there = kept.0.1 }, rest.1))

-- Where they have layers, each is there as it is known.
pub layers_are_kept : (files : Files) (stack : List NumberedFile) (layers : List Layer) → AreLayers files stack layers → AllByRecursion (IsAsKnown files) stack
layers_are_kept files [] layers are = tt
layers_are_kept files (file ∷ stack) [] are = absurd are
layers_are_kept files (file ∷ stack) (l ∷ ls) are = ((l.pages, are.0.there), layers_are_kept files stack ls are.1)

-- A page of kept files is read in one way.
pub read_once : (files : Files) (stack : List NumberedFile) (page : ℕ) (one other : Bytes) → AllByRecursion (IsAsKnown files) stack → ReadsAs files stack page one → ReadsAs files stack page other → one ≡ other
read_once files stack page one other kept a b = let found = kept_have_layers files stack kept in a found.0 found.1 ∙ sym (b found.0 found.1)

pub pages_read_once : (files : Files) (stack : List NumberedFile) (pages : List ℕ) (one other : Bytes) → AllByRecursion (IsAsKnown files) stack → PagesReadAs files stack pages one → PagesReadAs files stack pages other → one ≡ other
pages_read_once files stack pages one other kept a b = let found = kept_have_layers files stack kept in a found.0 found.1 ∙ sym (b found.0 found.1)

-- ---- a layer in the place of others

-- what stands below decides alone, where the layers above are the same
page_above : (above below other : List Layer) (page : ℕ) → page_from below page ≡ page_from other page → page_from (above ++ below) page ≡ page_from (above ++ other) page
page_above [] below other page same = same
page_above (l ∷ above) below other page same = ap (or_else (page_in l.index l.pages page)) (page_above above below other page same)

-- the first layers, read as others do
pub page_replaced : (layers : List Layer) (from count : ℕ) (l : Layer) (page : ℕ) → page_from (reverse (take from layers ++ l ∷ [])) page ≡ page_from (reverse (take (from + count) layers)) page → page_from (reverse (list_with from count l layers)) page ≡ page_from (reverse layers) page
page_replaced layers from count l page same =
    let newer = drop (from + count) layers in
    let turned : reverse (list_with from count l layers) ≡ reverse newer ++ reverse (take from layers ++ l ∷ []) =
    ap reverse (sym (append_assoc (take from layers) (l ∷ []) newer)) ∙ reverse-append (take from layers ++ l ∷ []) newer in
    let whole : reverse layers ≡ reverse newer ++ reverse (take (from + count) layers) =
    ap reverse (sym (take-append-drop (from + count) layers)) ∙ reverse-append (take (from + count) layers) newer in
    ap (λ (ls : List Layer). page_from ls page) turned
    ∙ page_above (reverse newer) (reverse (take from layers ++ l ∷ [])) (reverse (take (from + count) layers)) page same
    ∙ ap (λ (ls : List Layer). page_from ls page) (sym whole)

are_taken : (files : Files) (n : ℕ) (stack : List NumberedFile) (layers : List Layer) → AreLayers files stack layers → AreLayers files (take n stack) (take n layers)
are_taken files zero stack layers are = tt
are_taken files (suc n) [] [] are = tt
are_taken files (suc n) [] (l ∷ ls) are = absurd are
are_taken files (suc n) (file ∷ stack) [] are = absurd are
are_taken files (suc n) (file ∷ stack) (l ∷ ls) are = (are.0, are_taken files n stack ls are.1)

are_dropped : (files : Files) (n : ℕ) (stack : List NumberedFile) (layers : List Layer) → AreLayers files stack layers → AreLayers files (drop n stack) (drop n layers)
are_dropped files zero stack layers are = are
are_dropped files (suc n) [] [] are = tt
are_dropped files (suc n) [] (l ∷ ls) are = absurd are
are_dropped files (suc n) (file ∷ stack) [] are = absurd are
are_dropped files (suc n) (file ∷ stack) (l ∷ ls) are = are_dropped files n stack ls are.1

are_joined : (files : Files) (s t : List NumberedFile) (k l : List Layer) → AreLayers files s k → AreLayers files t l → AreLayers files (s ++ t) (k ++ l)
are_joined files [] t [] l first second = second
are_joined files [] t (x ∷ k) l first second = absurd first
are_joined files (file ∷ s) t [] l first second = absurd first
are_joined files (file ∷ s) t (x ∷ k) l first second = (first.0, are_joined files s t k l first.1 second)

pub are_replaced : (files : Files) (stack : List NumberedFile) (layers : List Layer) (from count : ℕ) (file : NumberedFile) (l : Layer) → AreLayers files stack layers → IsLayer files file l → AreLayers files (list_with from count file stack) (list_with from count l layers)
are_replaced files stack layers from count file l are is =
    are_joined files (take from stack) (file ∷ drop (from + count) stack) (take from layers) (l ∷ drop (from + count) layers) (are_taken files from stack layers are) (is, are_dropped files (from + count) stack layers are)
