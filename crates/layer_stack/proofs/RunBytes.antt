-- Pages that stand behind each other in one layer.
use Rattle.std.proofs.Common.{◌≡◌, ℕ, ◌+◌, ◌-◌, ◌*◌, ◌<◌, ◌≤◌, ◌==◌, List, [], ◌∷◌, ◌++◌, length, take, drop, reverse, replicate, slice_index, slice_index_or, Some, refl, sym, ◌∙◌, ap, subst, arith}
use Rattle.std.proofs.lemmas.List.{take_more, take_all, take_at, append-nil, length-replicate, take-take, length-take-le, drop-drop, append_cancel_left, take-append-le}
use Rattle.std.proofs.lemmas.List.Quantifiers.{position-Some}
use Rattle.std.proofs.Math.Seq.{take-add, take-append-add}
use Rattle.std.proofs.lemmas.Grind.{flat_map-append}
use Rattle.std.proofs.lemmas.Slice.{take-put_mid}
use Rattle.std.specs.List.{AllByRecursion, flat_map}
use Rattle.format_spec.specs.Bytes.{Bytes}
use Rattle.format_spec.specs.declared.limits.TheConstants.{PAGE_SIZE}
use Rattle.format_spec.specs.Bytes.{page_at}
use Rattle.page_spec.specs.PageFile.{index_text}
use Rattle.page_spec.specs.Layers.{Layer, page_from}
use Rattle.disk_model.specs.Files.{Files}
use Rattle.page_file.specs.Files.{NumberedFile, HasPages, IsAsKnown}
use Rattle.layer_stack.specs.Stacks.{AreLayers, pages_from}
use Rattle.layer_stack.specs.Found.{IsNewest, IsRun, Lacks}
use Rattle.layer_stack.proofs.Newest.{some_bytes, newest_at, none_zeros}
use borrow.Rule.Slice.PartMut.{put_mid}

run_behind : (stack : List NumberedFile) (i place page : ℕ) (pages : List ℕ) → IsRun stack i place pages → IsNewest stack page i (place + length pages) → IsRun stack i place (pages ++ page ∷ [])
run_behind stack i place page [] run new = let e : place + 0 ≡ place = omega arith in (subst (IsNewest stack page i) e new, tt)
run_behind stack i place page (p ∷ pages) run new =
    let e : place + length (p ∷ pages) ≡ place + 1 + length pages = omega arith in
    (run.0, run_behind stack i (place + 1) page pages run.1 (subst (IsNewest stack page i) e new))

-- one page more
pub run_more : (stack : List NumberedFile) (i place k : ℕ) (pages : List ℕ) → k < length pages → IsRun stack i place (take k pages) → IsNewest stack (slice_index pages k) i (place + k) → IsRun stack i place (take (k + 1) pages)
run_more stack i place k pages below run new =
    let long : k ≡ length (take k pages) = sym (length-take-le k pages (omega arith)) in
    subst (IsRun stack i place) (sym (take_more pages k 0 below))
    (run_behind stack i place (slice_index pages k) (take k pages) run (subst (λ (n : ℕ). IsNewest stack (slice_index pages k) i (place + n)) long new))

module _ (stack : List NumberedFile) (i : ℕ) (items : List NumberedFile) (f : NumberedFile) (seen : items ≡ stack) (at : f ≡ slice_index_or items i f) where
  file_at : (page place : ℕ) → (is : IsNewest stack page i place) → f ≡ is.file
  file_at page place is = newest_at page stack i place is items f seen at

  place_below : (page place : ℕ) → IsNewest stack page i place → place < length f.index.numbers
  place_below page place is =
      subst (λ (g : NumberedFile). place < length g.index.numbers) (sym (file_at page place is)) (position-Some (λ p. p == page) is.file.index.numbers place 0 is.here).0

  -- the file has as many pages behind the place
  pub run_within : (pages : List ℕ) (place : ℕ) → 0 < length pages → IsRun stack i place pages → place + length pages ≤ length f.index.numbers
  run_within [] place some run = absurd (omega arith)
  run_within (p ∷ []) place some run = omega (arith, place_below p place run.0)
  run_within (p ∷ q ∷ pages) place some run = let rest = run_within (q ∷ pages) (place + 1) (omega arith) run.1 in omega (arith, rest)

  -- the layer is one of those that are kept
  pub run_kept : (files : Files) (page place : ℕ) → IsNewest stack page i place → AllByRecursion (IsAsKnown files) stack → IsAsKnown files f
  run_kept files page place is kept = subst (IsAsKnown files) (sym (file_at page place is)) (of is.older (subst (AllByRecursion (IsAsKnown files)) is.split kept))
    where
      of : (older : List NumberedFile) → AllByRecursion (IsAsKnown files) (older ++ is.file ∷ is.newer) → IsAsKnown files is.file
      of [] all = all.0
      of (o ∷ older) all = of older all.1

  module _ (files : Files) (layers : List Layer) (are : AreLayers files stack layers) where
    same_pages : (a b : Bytes) → HasPages files f.number f.index a → HasPages files f.number f.index b → a ≡ b
    same_pages a b one two =
        let e : Some one.text ≡ Some two.text = sym one.there ∙ two.there in
        let t : one.text ≡ two.text = cc in
        append_cancel_left (index_text f.index) a b (sym one.good.spelled ∙ t ∙ two.good.spelled)

    -- the bytes that stand there are those of the pages
    run_are : (bytes : Bytes) → HasPages files f.number f.index bytes → (pages : List ℕ) (place : ℕ) → IsRun stack i place pages → take (length pages * PAGE_SIZE) (drop (place * PAGE_SIZE) bytes) ≡ pages_from layers pages
    run_are bytes has [] place run = refl
    run_are bytes has (p ∷ pages) place run =
        let first : page_at bytes place ≡ page_from (reverse layers) p =
        some_bytes p stack i place run.0 files layers (page_at bytes place) are f (file_at p place run.0) (λ others same. ap (λ (b : Bytes). page_at b place) (same_pages bytes others has same)) in
        let size : length (p ∷ pages) * PAGE_SIZE ≡ PAGE_SIZE + length pages * PAGE_SIZE = omega arith in
        let next : place * PAGE_SIZE + PAGE_SIZE ≡ (place + 1) * PAGE_SIZE = omega arith in
        ap (λ (n : ℕ). take n (drop (place * PAGE_SIZE) bytes)) size
        ∙ take-add PAGE_SIZE (length pages * PAGE_SIZE) (drop (place * PAGE_SIZE) bytes)
        ∙ ap (λ (l : Bytes). l ++ take (length pages * PAGE_SIZE) (drop PAGE_SIZE (drop (place * PAGE_SIZE) bytes))) first
        ∙ ap (λ (l : Bytes). page_from (reverse layers) p ++ take (length pages * PAGE_SIZE) l) (drop-drop PAGE_SIZE (place * PAGE_SIZE) bytes ∙ ap (λ (n : ℕ). drop n bytes) next)
        ∙ ap (λ (l : Bytes). page_from (reverse layers) p ++ l) (run_are bytes has pages (place + 1) run.1)

    pub run_read : (pages : List ℕ) (place count size : ℕ) (into room : Bytes) → 0 < length pages → count ≤ length pages → IsRun stack i place (take count pages) → IsAsKnown files f → size ≡ count * PAGE_SIZE → length into ≡ size
        → ((bytes : Bytes) → HasPages files f.number f.index bytes → into ≡ take size (drop (place * PAGE_SIZE) bytes)) → take (count * PAGE_SIZE) (into ++ room) ≡ pages_from layers (take count pages)
    run_read pages place count size into room some fits run kept is long read =
        take-append-le (count * PAGE_SIZE) into room (omega arith)
        ∙ take_all (count * PAGE_SIZE) into (omega arith)
        ∙ read kept.0 kept.1
        ∙ ap (λ (n : ℕ). take n (drop (place * PAGE_SIZE) kept.0)) (is ∙ ap (λ (n : ℕ). n * PAGE_SIZE) (sym (length-take-le count pages fits)))
        ∙ run_are kept.0 kept.1 (take count pages) place run

-- a page more than the pages so far
pub pages_more : (layers : List Layer) (pages : List ℕ) (done count size : ℕ) (into room : Bytes) → length into ≡ PAGE_SIZE * length pages → done + count ≤ length pages → size ≡ length into - done * PAGE_SIZE → length room ≡ size
    → take (done * PAGE_SIZE) into ≡ pages_from layers (take done pages) → take (count * PAGE_SIZE) room ≡ pages_from layers (take count (drop done pages))
    → take ((done + count) * PAGE_SIZE) (put_mid (done * PAGE_SIZE) size into room) ≡ pages_from layers (take (done + count) pages)
pages_more layers pages done count size into room long fits sized room_long before here =
    let all : Bytes = put_mid (done * PAGE_SIZE) size into room in
    let both : (done + count) * PAGE_SIZE ≡ done * PAGE_SIZE + count * PAGE_SIZE = omega arith in
    let whole : take (done * PAGE_SIZE + size) all ≡ take (done * PAGE_SIZE) into ++ room = take-put_mid (done * PAGE_SIZE) size into room (done * PAGE_SIZE + size) (omega arith) (omega arith) in
    let front : take (done * PAGE_SIZE + count * PAGE_SIZE) all ≡ take (done * PAGE_SIZE + count * PAGE_SIZE) (take (done * PAGE_SIZE) into ++ room) =
    sym (take-take (done * PAGE_SIZE + count * PAGE_SIZE) (done * PAGE_SIZE + size) all (omega arith)) ∙ ap (take (done * PAGE_SIZE + count * PAGE_SIZE)) whole in
    let old_long : length (take (done * PAGE_SIZE) into) ≡ done * PAGE_SIZE = length-take-le (done * PAGE_SIZE) into (omega arith) in
    ap (λ (n : ℕ). take n all) both
    ∙ front
    ∙ ap (λ (n : ℕ). take (n + count * PAGE_SIZE) (take (done * PAGE_SIZE) into ++ room)) (sym old_long)
    ∙ take-append-add (take (done * PAGE_SIZE) into) room (count * PAGE_SIZE)
    ∙ (λ j. before j ++ here j)
    ∙ sym (flat_map-append (page_from (reverse layers)) (take done pages) (take count (drop done pages)))
    ∙ ap (flat_map (page_from (reverse layers))) (sym (take-add done count pages))

-- a page that no layer has
pub run_of_none : (stack : List NumberedFile) (pages : List ℕ) (files : Files) (layers : List Layer) (new old : Bytes) → 0 < length pages → AreLayers files stack layers → AllByRecursion (Lacks (slice_index pages 0)) stack
    → new ≡ replicate PAGE_SIZE 0 ++ drop PAGE_SIZE old → take PAGE_SIZE new ≡ pages_from layers (take 1 pages)
run_of_none stack [] files layers new old some are lacks is = absurd (omega arith)
run_of_none stack (p ∷ pages) files layers new old some are lacks is =
    ap (take PAGE_SIZE) is
    ∙ take_at (replicate PAGE_SIZE 0) (drop PAGE_SIZE old) PAGE_SIZE (let zero : ℕ = 0 in length-replicate PAGE_SIZE zero)
    ∙ sym (none_zeros p files stack layers lacks are)
    ∙ sym (append-nil (page_from (reverse layers) p))
