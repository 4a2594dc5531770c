-- Which page files marks name, and the order in which they are opened.
use Rattle.std.proofs.Common.{◌≡◌, ℕ, ◌+◌, ◌<◌, ◌≤◌, zero, suc, List, [], ◌∷◌, ◌++◌, length, take, drop, drop-cons, map, get_or, Result, refl, sym, ◌∙◌, ap, subst, arith, ⊎_elim, append_assoc}
use Rattle.std.specs.Prelude.{OnOk}
use Rattle.std.specs.List.{flat_map, zip, AllByRecursion, Contains}
use Rattle.std.specs.List.Sorted.{IsNonDecreasingBy, IsPermutation}
use Rattle.std.proofs.lemmas.Bool.{cases_lt}
use Rattle.std.proofs.lemmas.List.{append-nil, get_or_default, get_or-take, length-take, length-map, take-append-drop, take_more, take_all}
use Rattle.std.proofs.lemmas.List.Elements.{All-from_recursion, recursion_from_All}
use Rattle.std.proofs.lemmas.List.Sorted.{IsPermutation-sym, All-permutation, Contains-permutation}
use Rattle.format_spec.specs.Bytes.{Bytes}
use Rattle.format_spec.proofs.Lists.{all_push}
use Rattle.state_spec.specs.State.{SystemPart}
use Rattle.state_spec.specs.Files.{memories_in}
use Rattle.store_spec.specs.Mark.{Mark, MarkMemory, FitsMemory, IsMark}
use Rattle.disk_model.specs.Files.{Files}
use Rattle.page_file.specs.Files.{NumberedFile}
use Rattle.height_store.specs.Bad.{memory_namings, mark_namings, namings, IsGoodNaming, AreGoodMarks, IsFirstBadPage}
use Rattle.height_store.specs.Naming.{rows_of, Takes, IsFirstBadNaming}
use Rattle.height_store.proofs.FilesFound.{Opened, opened_more}
use Rattle.std.proofs.lemmas.Slice.Zip.{AllZip-long}

-- ---- gathering them

rows_next : (mems : List MarkMemory) (pages : List ℕ) (i : ℕ) (m : MarkMemory) → i < length mems → i < length pages → rows_of (take (suc i) mems) (take (suc i) pages) ≡ rows_of (take i mems) (take i pages) ++ map (λ n. (n, get_or pages i 0)) (get_or mems i m).layers
rows_next [] pages i m lt within = absurd (omega arith)
rows_next (m ∷ ms) [] i d lt within = absurd (omega arith)
rows_next (m ∷ ms) (p ∷ ps) zero d lt within = append-nil (map (λ (n : ℕ). (n, p)) m.layers)
rows_next (m ∷ ms) (p ∷ ps) (suc i) d lt within =
    ap (λ (l : List (ℕ × ℕ)). map (λ (n : ℕ). (n, p)) m.layers ++ l) (rows_next ms ps i d (omega arith) (omega arith))
    ∙ sym (append_assoc (map (λ (n : ℕ). (n, p)) m.layers) (rows_of (take i ms) (take i ps)) (map (λ (n : ℕ). (n, get_or ps i 0)) (get_or ms i d).layers))

pub rows_more : (base all now : List (ℕ × ℕ)) (mems : List MarkMemory) (pages layers : List ℕ) (i : ℕ) (m : MarkMemory) → i < length mems → length mems ≡ length pages → m ≡ get_or mems i m → layers ≡ m.layers
    → now ≡ all ++ map (λ n. (n, get_or pages i 0)) layers → all ≡ base ++ rows_of (take i mems) (take i pages) → now ≡ base ++ rows_of (take (i + 1) mems) (take (i + 1) pages)
rows_more base all now mems pages layers i m lt same here are is so_far =
    let e : suc i ≡ i + 1 = omega arith in
    let within : i < length pages = omega (arith, lt, same) in
    let part = map (λ (n : ℕ). (n, get_or pages i 0)) in
    is ∙ ap (λ (l : List (ℕ × ℕ)). l ++ part layers) so_far ∙ append_assoc base (rows_of (take i mems) (take i pages)) (part layers)
    ∙ ap (λ (l : List ℕ). base ++ (rows_of (take i mems) (take i pages) ++ part l)) (are ∙ ap (λ (m : MarkMemory). m.layers) here)
    ∙ ap (λ (l : List (ℕ × ℕ)). base ++ l) (sym (rows_next mems pages i m lt within))
    ∙ ap (λ (k : ℕ). base ++ rows_of (take k mems) (take k pages)) e

rows_zip : (ms : List MarkMemory) (fs : List (Bytes × ℕ)) → rows_of ms (map (λ f. f.1) fs) ≡ flat_map memory_namings (zip ms fs)
rows_zip [] fs = refl
rows_zip (m ∷ ms) [] = refl
rows_zip (m ∷ ms) (f ∷ fs) = ap (λ (l : List (ℕ × ℕ)). map (λ (n : ℕ). (n, f.1)) m.layers ++ l) (rows_zip ms fs)

-- a mark has as many memories as its state
pub as_many : (m : Mark) (s : SystemPart) (mems : List MarkMemory) (pages : List ℕ) → IsMark m s → mems ≡ m.memories → pages ≡ map (λ memory. memory.1) (memories_in s) → length mems ≡ length pages
as_many m s mems pages good is are =
    ap (λ (l : List MarkMemory). length l) is ∙ sym (AllZip-long (FitsMemory m.version) m.memories (memories_in s) good.memories_fit)
    ∙ sym (length-map (memories_in s) (λ (f : Bytes × ℕ). f.1)) ∙ ap (λ (l : List ℕ). length l) (sym are)

pub rows_of_mark : (m : Mark) (s : SystemPart) (mems : List MarkMemory) (pages : List ℕ) → mems ≡ m.memories → pages ≡ map (λ memory. memory.1) (memories_in s) → rows_of mems pages ≡ mark_namings (m, s)
rows_of_mark m s mems pages is are = ap (λ (ms : List MarkMemory). rows_of ms pages) is ∙ ap (rows_of m.memories) are ∙ rows_zip m.memories (memories_in s)

pub ok_behind : {T E : Type 0} (result : Result T E) (now old a b : List (ℕ × ℕ)) → a ≡ b → OnOk result (now ≡ old ++ a) → OnOk result (now ≡ old ++ b)
ok_behind result now old a b same h = subst (λ (l : List (ℕ × ℕ)). OnOk result (now ≡ old ++ l)) same h

-- ---- opening them in order

at_default : (rows : List (ℕ × ℕ)) (i : ℕ) (d e : ℕ × ℕ) → i < length rows → get_or rows i d ≡ get_or rows i e
at_default rows i d e lt = get_or_default rows i d e lt

pub named_below : (rows : List (ℕ × ℕ)) (i : ℕ) (d : ℕ × ℕ) → i < length rows → IsNonDecreasingBy (λ r. r.0) rows → AllByRecursion (λ r. r.0 ≤ (get_or rows i d).0) (take i rows)
named_below rows i d lt up = recursion_from_All (λ r. r.0 ≤ (get_or rows i d).0) (take i rows) (λ k e below.
    let within : k < i = omega (arith, below, length-take i rows) in
    omega (arith, ap (λ (r : ℕ × ℕ). r.0) (get_or-take i rows k e within), up k i e (omega (arith, within)) lt, ap (λ (r : ℕ × ℕ). r.0) (at_default rows i d e lt)))

pub opened_next : (old new : List NumberedFile) (rows : List (ℕ × ℕ)) (i : ℕ) (d : ℕ × ℕ) → i < length rows → IsNonDecreasingBy (λ r. r.0) rows → Opened old (take i rows) → Takes old (get_or rows i d).0 (get_or rows i d).1 new → Opened new (take (i + 1) rows)
opened_next old new rows i d lt up opened takes =
    subst (Opened new) (sym (take_more rows i d lt)) (opened_more old new (take i rows) (get_or rows i d).0 (get_or rows i d).1 (named_below rows i d lt up) opened takes)

pub good_next : (files : Files) (rows : List (ℕ × ℕ)) (i : ℕ) (d : ℕ × ℕ) → i < length rows → AllByRecursion (IsGoodNaming files) (take i rows) → IsGoodNaming files (get_or rows i d) → AllByRecursion (IsGoodNaming files) (take (i + 1) rows)
good_next files rows i d lt all one = subst (AllByRecursion (IsGoodNaming files)) (sym (take_more rows i d lt)) (all_push (IsGoodNaming files) (take i rows) (get_or rows i d) all one)

pub first_bad_naming : (files : Files) (rows : List (ℕ × ℕ)) (i : ℕ) (d : ℕ × ℕ) → i < length rows → IsNonDecreasingBy (λ r. r.0) rows → AllByRecursion (IsGoodNaming files) (take i rows) → (IsGoodNaming files (get_or rows i d) → ⊥) → IsFirstBadNaming files rows (get_or rows i d).0
first_bad_naming files rows i d lt up good bad = record {
  pages = (get_or rows i d).1;
  there = (i, lt, at_default rows i (get_or rows i d) d lt);
  bad = bad;
  first = recursion_from_All (λ r. r.0 < (get_or rows i d).0 → IsGoodNaming files r) rows (λ k e within less. ⊎_elim
      (λ l. subst (IsGoodNaming files) (get_or-take i rows k e l) (All-from_recursion (IsGoodNaming files) (take i rows) good k e (omega (arith, l, within, length-take i rows))))
      (λ ge. absurd (omega (arith, up i k e ge within, less, ap (λ (r : ℕ × ℕ). r.0) (at_default rows i d e lt))))
      (cases_lt k i));
}

pub named_all : (rows : List (ℕ × ℕ)) (files : List NumberedFile) (i : ℕ) → length rows ≤ i → Opened files (take i rows) → Opened files rows
named_all rows files i all opened = subst (Opened files) (take_all i rows all) opened

-- ---- whatever their order

pub all_moved : {X : Type 0} (P : X → Type 0) (xs ys : List X) → IsPermutation xs ys → AllByRecursion P ys → AllByRecursion P xs
all_moved P xs ys moved all = recursion_from_All P xs (All-permutation P ys xs (IsPermutation-sym xs ys moved) (All-from_recursion P ys all))

pub first_bad_page : (files : Files) (ms : List (Mark × SystemPart)) (rows : List (ℕ × ℕ)) (number : ℕ) → AreGoodMarks files ms → IsPermutation (namings ms) rows → IsFirstBadNaming files rows number → IsFirstBadPage files number
first_bad_page files ms rows number good moved bad = record {
  marks = ms;
  good_marks = good;
  pages = bad.pages;
  before = take place (namings ms);
  after = drop (suc place) (namings ms);
  named = sym (take-append-drop place (namings ms)) ∙ ap (λ (l : List (ℕ × ℕ)). take place (namings ms) ++ l) (drop-cons (namings ms) place (number, bad.pages) there.1 ∙ ap (λ (r : ℕ × ℕ). r ∷ drop (suc place) (namings ms)) there.2);
  bad = bad.bad;
  first = all_moved (λ r. r.0 < number → IsGoodNaming files r) (namings ms) rows moved bad.first;
}
  where
    there : Contains (namings ms) (number, bad.pages)
    there = Contains-permutation rows (namings ms) (number, bad.pages) (IsPermutation-sym (namings ms) rows moved) bad.there

    place : ℕ
    place = there.0
