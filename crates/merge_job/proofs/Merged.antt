-- A merged layer reads as the layers that it is of.
use Rattle.std.proofs.Common.{inl, inr, ◌≡◌, ℕ, zero, suc, ◌+◌, ◌*◌, ◌<◌, ◌≤◌, ◌==◌, ◌&&◌, ◌||◌, nat_le, nat_lt, Bool, true, false, cond, List, [], ◌∷◌, ◌++◌, length, take, drop, filter, reverse, get_or, position, Option, Some, None, option_map, refl, sym, ◌∙◌, ap, arith, append_assoc}
use Rattle.std.proofs.lemmas.Bool.{cases_Bool, eqb-true, false≢true}
use Rattle.std.proofs.lemmas.Bool.Decides.{nat_tests}
use Rattle.std.proofs.lemmas.List.{append-nil, length-take, length-drop, length-replicate, reverse-append, take_all, take-append-drop}
use Rattle.std.proofs.lemmas.List.Quantifiers.{position-Some}
use Rattle.std.proofs.Math.Seq.{take-append_seam, drop-append-add}
use Rattle.std.specs.List.{AllByRecursion, flat_map, list_any, position_or_len, range_with_len}
use Rattle.format_spec.specs.Bytes.{Bytes, page_at}
use Rattle.format_spec.specs.declared.limits.TheConstants.{PAGE_SIZE}
use Rattle.format_spec.proofs.Lists.{all_reversed}
use Rattle.page_spec.specs.PageFile.{PageIndex}
use Rattle.page_spec.specs.Layers.{Layer, has_page, or_else, page_from, union}
use Rattle.disk_model.specs.Files.{Files}
use Rattle.page_file.specs.Files.{NumberedFile}
use Rattle.layer_stack.specs.Stacks.{AreLayers, pages_from, pages_in}
use Rattle.layer_stack.specs.Laws.{page_replaced}
use Rattle.merge_job.specs.Merge.{merged_index, merged_layer, with_merged}
use Rattle.merge_job.proofs.Chosen.{chosen_are_all, merged_all, merged_some}

-- ---- pages are whole

abbrev IsWhole : Layer → Type 0
IsWhole l = length l.pages ≡ PAGE_SIZE * length l.index.numbers

page_long : (pages : Bytes) (place count : ℕ) → length pages ≡ PAGE_SIZE * count → place < count → length (page_at pages place) ≡ PAGE_SIZE
page_long pages place count whole within = omega (arith, whole, within, length-take PAGE_SIZE (drop (place * PAGE_SIZE) pages), length-drop (place * PAGE_SIZE) pages)

page_from_long : (page : ℕ) (layers : List Layer) → AllByRecursion IsWhole layers → length (page_from layers page) ≡ PAGE_SIZE
page_from_long page [] whole = length-replicate {A = ℕ} PAGE_SIZE 0
page_from_long page (l ∷ older) whole = go (page_from_long page older whole.1) (position (λ p. p == page) l.index.numbers) refl
  where
    go : length (page_from older page) ≡ PAGE_SIZE → (at : Option ℕ) → position (λ p. p == page) l.index.numbers ≡ at → length (page_from (l ∷ older) page) ≡ PAGE_SIZE
    go rest None e = rw e rest
    go rest (Some place) e = rw e (page_long l.pages place (length l.index.numbers) whole.0 (position-Some (λ p. p == page) l.index.numbers place 0 e).0)

layers_whole : (files : Files) (stack : List NumberedFile) (layers : List Layer) → AreLayers files stack layers → AllByRecursion IsWhole layers
layers_whole files [] [] are = tt
layers_whole files [] (l ∷ layers) are = absurd are
layers_whole files (file ∷ stack) [] are = absurd are
layers_whole files (file ∷ stack) (l ∷ layers) are = (are.0.there.good.whole ∙ ap (λ (i : PageIndex). PAGE_SIZE * length i.numbers) (sym are.0.index), layers_whole files stack layers are.1)

pages_at : (f : ℕ → Bytes) (pages : List ℕ) (i d : ℕ) → ((page : ℕ) → length (f page) ≡ PAGE_SIZE) → i < length pages → page_at (flat_map f pages) i ≡ f (get_or pages i d)
pages_at f [] i d each lt = absurd (omega (arith, lt))
pages_at f (page ∷ pages) zero d each lt = ap (λ (n : ℕ). take n (f page ++ flat_map f pages)) (sym (each page)) ∙ take-append_seam (f page) (flat_map f pages)
pages_at f (page ∷ pages) (suc i) d each lt =
    let here = each page in
    let next : suc i * PAGE_SIZE ≡ length (f page) + i * PAGE_SIZE = omega (arith, here) in
    ap (λ (n : ℕ). take PAGE_SIZE (drop n (f page ++ flat_map f pages))) next
    ∙ ap (take PAGE_SIZE) (drop-append-add (f page) (flat_map f pages) (i * PAGE_SIZE))
    ∙ pages_at f pages i d each (omega (arith, lt))

-- ---- places

one_later : (a b : ℕ) → nat_lt a b ≡ nat_lt (1 + a) (suc b)
one_later a b = grind (arith, nat_tests)

first_below : (n : ℕ) → true ≡ nat_lt 0 (suc n)
first_below n = grind (arith, nat_tests)

found_or_not : (p : ℕ → Bool) (xs : List ℕ) → list_any p xs ≡ nat_lt (position_or_len p xs) (length xs)
found_or_not p [] = refl
found_or_not p (x ∷ xs) = go (found_or_not p xs) (p x) refl
  where
    go : list_any p xs ≡ nat_lt (position_or_len p xs) (length xs) → (b : Bool) → p x ≡ b → list_any p (x ∷ xs) ≡ nat_lt (position_or_len p (x ∷ xs)) (length (x ∷ xs))
    go rest true e = rw e (first_below (length xs))
    go rest false e = rw e (rest ∙ one_later (position_or_len p xs) (length xs))

no_place : (page : ℕ) (pages : List ℕ) → has_page page pages ≡ false → position (λ p. p == page) pages ≡ None
no_place page pages none = let p : ℕ → Bool = λ q. q == page in ap (λ (b : Bool). cond b (Some (position_or_len p pages)) None) (sym (found_or_not p pages) ∙ none)

a_place : (page : ℕ) (pages : List ℕ) → has_page page pages ≡ true → position (λ p. p == page) pages ≡ Some (position_or_len (λ p. p == page) pages)
a_place page pages has = let p : ℕ → Bool = λ q. q == page in ap (λ (b : Bool). cond b (Some (position_or_len p pages)) None) (sym (found_or_not p pages) ∙ has)

-- ---- layers that have a page, or not

module _ (page : ℕ) where
  abbrev Has : Layer → Bool
  Has l = has_page page l.index.numbers

  same_any : (files : Files) (stack : List NumberedFile) (layers : List Layer) → AreLayers files stack layers → list_any (has_page page) (pages_in stack) ≡ list_any Has layers
  same_any files [] [] are = refl
  same_any files [] (l ∷ layers) are = absurd are
  same_any files (file ∷ stack) [] are = absurd are
  same_any files (file ∷ stack) (l ∷ layers) are =
      ap (λ (i : PageIndex). has_page page i.numbers || list_any (has_page page) (pages_in stack)) (sym are.0.index) ∙ ap (λ (b : Bool). Has l || b) (same_any files stack layers are.1)

  -- of none that has it, the layers below decide
  below_none : (layers below : List Layer) → AllByRecursion (λ l. Has l ≡ false) layers → page_from (layers ++ below) page ≡ page_from below page
  below_none [] below none = refl
  below_none (l ∷ layers) below none = rw (no_place page l.index.numbers none.0) (below_none layers below none.1)

  none_has : (layers : List Layer) → list_any Has layers ≡ false → AllByRecursion (λ l. Has l ≡ false) layers
  none_has [] none = tt
  none_has (l ∷ layers) none = elim (cases_Bool (Has l)) [
    | inl hit ↦ absurd (let e : true ≡ false = sym (ap (λ (b : Bool). b || list_any Has layers) hit) ∙ none in cc)
    | inr miss ↦ (miss, none_has layers (sym (ap (λ (b : Bool). b || list_any Has layers) miss) ∙ none))
  ]

  past_none : (layers below : List Layer) → list_any Has layers ≡ false → page_from (reverse layers ++ below) page ≡ page_from below page
  past_none layers below none = below_none (reverse layers) below (all_reversed (λ l. Has l ≡ false) layers (none_has layers none))

  turned : (l : Layer) (layers below : List Layer) → reverse (l ∷ layers) ++ below ≡ reverse layers ++ l ∷ below
  turned l layers below = ap (λ (ls : List Layer). ls ++ below) (reverse-append (l ∷ []) layers) ∙ append_assoc (reverse layers) (l ∷ []) below

  first_has : (l : Layer) (below other : List Layer) → Has l ≡ true → page_from (l ∷ below) page ≡ page_from (l ∷ other) page
  first_has l below other has = rw (a_place page l.index.numbers has) refl

  -- where one has it, the layers below don't matter
  past_some : (layers below other : List Layer) → list_any Has layers ≡ true → page_from (reverse layers ++ below) page ≡ page_from (reverse layers ++ other) page
  past_some [] below other some = absurd (false≢true some)
  past_some (l ∷ layers) below other some =
      ap (λ (ls : List Layer). page_from ls page) (turned l layers below)
      ∙ elim (cases_Bool (list_any Has layers)) [
        | inl newer ↦ past_some layers (l ∷ below) (l ∷ other) newer
        | inr none ↦ past_none layers (l ∷ below) none ∙ first_has l below other (this none) ∙ sym (past_none layers (l ∷ other) none)
      ]
      ∙ ap (λ (ls : List Layer). page_from ls page) (sym (turned l layers other))
    where
      this : list_any Has layers ≡ false → Has l ≡ true
      this none = elim (cases_Bool (Has l)) [ inl hit ↦ hit | inr miss ↦ absurd (let e : false ≡ true = sym (rw miss none) ∙ some in cc) ]

  -- ---- pages that are chosen

  apart_later : (s : ℕ) → s ≤ page → (s == page) ≡ false → s + 1 ≤ page
  apart_later s le miss = grind (arith, nat_tests)

  has_chosen : (q : ℕ → Bool) (n s : ℕ) → s ≤ page → page < s + n → q page ≡ true → has_page page (filter q (range_with_len s n)) ≡ true
  has_chosen q zero s from below passes = absurd (omega arith)
  has_chosen q (suc n) s from below passes = elim (cases_Bool (s == page)) [
    | inl here ↦ let hit : q s ≡ true = ap q (eqb-true s page here) ∙ passes in rw hit (rw here refl)
    | inr miss ↦ elim (cases_Bool (q s)) [
      | inl hit ↦ rw hit (rw miss (has_chosen q n (s + 1) (apart_later s from miss) (omega arith) passes))
      | inr out ↦ rw out (has_chosen q n (s + 1) (apart_later s from miss) (omega arith) passes)
    ]
  ]

  lacks_chosen : (q : ℕ → Bool) (n s : ℕ) → q page ≡ false → has_page page (filter q (range_with_len s n)) ≡ false
  lacks_chosen q zero s fails = refl
  lacks_chosen q (suc n) s fails = elim (cases_Bool (q s)) [
    | inl hit ↦ rw hit (rw (apart hit) (lacks_chosen q n (s + 1) fails))
    | inr out ↦ rw out (lacks_chosen q n (s + 1) fails)
  ]
    where
      apart : q s ≡ true → (s == page) ≡ false
      apart hit = elim (cases_Bool (s == page)) [ inl here ↦ absurd (let e : true ≡ false = sym hit ∙ ap q (eqb-true s page here) ∙ fails in cc) | inr miss ↦ miss ]

  -- ---- the merged layer

  -- a layer of what these give of its pages gives the same, where it has the page
  gives : (f : ℕ → Bytes) (memory : ℕ) (numbers : List ℕ) (below : List Layer) → ((p : ℕ) → length (f p) ≡ PAGE_SIZE) → has_page page numbers ≡ true
      → page_from (record { index = record { memory = memory; numbers = numbers }; pages = flat_map f numbers } ∷ below) page ≡ f page
  gives f memory numbers below each has =
      let p : ℕ → Bool = λ q. q == page in
      let at = a_place page numbers has in
      let place = position-Some p numbers (position_or_len p numbers) 0 at in
      ap (λ (o : Option ℕ). or_else (option_map (page_at (flat_map f numbers)) o) (page_from below page)) at
      ∙ pages_at f numbers (position_or_len p numbers) 0 each place.0
      ∙ ap f (eqb-true (get_or numbers (position_or_len p numbers) 0) page place.1)

  gives_below : (memory : ℕ) (numbers : List ℕ) (bytes : Bytes) (below : List Layer) → has_page page numbers ≡ false
      → page_from (record { index = record { memory = memory; numbers = numbers }; pages = bytes } ∷ below) page ≡ page_from below page
  gives_below memory numbers bytes below none = rw (no_place page numbers none) refl

  -- the pages of some layer
  merged_union : (memory : ℕ) (stack : List NumberedFile) (read below : List Layer) (numbers : List ℕ) (files : Files) → AreLayers files stack read → page < memory → numbers ≡ union memory (pages_in stack)
      → page_from (record { index = record { memory = memory; numbers = numbers }; pages = pages_from read numbers } ∷ below) page ≡ page_from (reverse read ++ below) page
  merged_union memory stack read below numbers files are lt is = elim (cases_Bool (list_any (has_page page) (pages_in stack))) [
    | inl some ↦
        gives (page_from (reverse read)) memory numbers below (λ p. page_from_long p (reverse read) (all_reversed IsWhole read (layers_whole files stack read are)))
        (ap (has_page page) is ∙ has_chosen (λ p. list_any (has_page p) (pages_in stack)) memory 0 (omega arith) (omega (arith, lt)) some)
        ∙ ap (λ (ls : List Layer). page_from ls page) (sym (append-nil (reverse read)))
        ∙ past_some read [] below (sym (same_any files stack read are) ∙ some)
    | inr none ↦
        gives_below memory numbers (pages_from read numbers) below (ap (has_page page) is ∙ lacks_chosen (λ p. list_any (has_page p) (pages_in stack)) memory 0 none)
        ∙ sym (past_none read below (sym (same_any files stack read are) ∙ none))
  ]

  -- all pages, with nothing below
  merged_whole : (memory : ℕ) (stack : List NumberedFile) (read : List Layer) (numbers : List ℕ) (files : Files) → AreLayers files stack read → page < memory → numbers ≡ range_with_len 0 memory
      → page_from (record { index = record { memory = memory; numbers = numbers }; pages = pages_from read numbers } ∷ []) page ≡ page_from (reverse read ++ []) page
  merged_whole memory stack read numbers files are lt is =
      gives (page_from (reverse read)) memory numbers [] (λ p. page_from_long p (reverse read) (all_reversed IsWhole read (layers_whole files stack read are)))
      (ap (has_page page) (is ∙ sym (chosen_are_all memory 0)) ∙ has_chosen (λ p. true) memory 0 (omega arith) (omega (arith, lt)) refl)
      ∙ ap (λ (ls : List Layer). page_from ls page) (sym (append-nil (reverse read)))

are_dropped : (files : Files) (n : ℕ) (stack : List NumberedFile) (layers : List Layer) → AreLayers files stack layers → AreLayers files (drop n stack) (drop n layers)
are_dropped files zero stack layers are = are
are_dropped files (suc n) [] [] are = tt
are_dropped files (suc n) [] (l ∷ ls) are = absurd are
are_dropped files (suc n) (file ∷ stack) [] are = absurd are
are_dropped files (suc n) (file ∷ stack) (l ∷ ls) are = are_dropped files n stack ls are.1

merged_reads_below : (files : Files) (memory from page : ℕ) (stack : List NumberedFile) (read older : List Layer) → AreLayers files stack read → (from ≡ 0 → older ≡ []) → page < memory
    → page_from (record { index = merged_index memory from stack; pages = pages_from read (merged_index memory from stack).numbers } ∷ reverse older) page ≡ page_from (reverse read ++ reverse older) page
merged_reads_below files memory from page stack read older are first lt = elim (cases_Bool ((from == 0) && nat_le memory (2 * length (union memory (pages_in stack))))) [
  | inl all ↦
      let none : reverse older ≡ [] = ap reverse (first (eqb-true from 0 (and_first (from == 0) (nat_le memory (2 * length (union memory (pages_in stack)))) all))) in
      let numbers = (merged_index memory from stack).numbers in
      ap (λ (ls : List Layer). page_from (record { index = merged_index memory from stack; pages = pages_from read numbers } ∷ ls) page) none
      ∙ merged_whole page memory stack read numbers files are lt (merged_all memory (from == 0) (pages_in stack) all)
      ∙ ap (λ (ls : List Layer). page_from (reverse read ++ ls) page) (sym none)
  | inr some ↦ merged_union page memory stack read (reverse older) (merged_index memory from stack).numbers files are lt (merged_some memory (from == 0) (pages_in stack) some)
]
  where
    and_first : (a b : Bool) → (a && b) ≡ true → a ≡ true
    and_first true b e = refl
    and_first false b e = absurd (false≢true e)

pub merged_reads : (files : Files) (stack : List NumberedFile) (layers : List Layer) (memory from page : ℕ) → AreLayers files stack layers → page < memory
    → page_from (reverse (with_merged memory from stack layers)) page ≡ page_from (reverse layers) page
merged_reads files stack layers memory from page are lt =
    let older = take from layers in
    let l = merged_layer memory from stack layers in
    let whole : take (from + length (drop from layers)) layers ≡ layers = take_all (from + length (drop from layers)) layers (omega (arith, length-drop from layers)) in
    page_replaced layers from (length (drop from layers)) l page
    (ap (λ (ls : List Layer). page_from ls page) (reverse-append older (l ∷ []))
    ∙ merged_reads_below files memory from page (drop from stack) (drop from layers) older (are_dropped files from stack layers are) (λ none. ap (λ (n : ℕ). take n layers) none) lt
    ∙ ap (λ (ls : List Layer). page_from ls page) (sym (reverse-append older (drop from layers)) ∙ ap reverse (take-append-drop from layers))
    ∙ ap (λ (ls : List Layer). page_from (reverse ls) page) (sym whole))
