-- Reading marks one by one.
use Rattle.std.proofs.Common.{◌≡◌, ◌⊎◌, ℕ, ◌+◌, ◌<◌, ◌≤◌, suc, List, [], ◌∷◌, ◌++◌, length, take, drop, map, get_or, Option, Some, None, option_map, Result, Err, refl, sym, ◌∙◌, ap, subst, arith, inl, inr, ⊎_elim, length-append, drop-cons}
use Rattle.std.specs.Prelude.{sum_by, IsErrOf}
use Rattle.height_store.specs.declared.error.StoreError.{StoreError}
use Rattle.height_store.specs.declared.error.StoreError.TheVariants.{BadMark}
use Rattle.std.specs.List.{AllByRecursion}
use Rattle.std.proofs.lemmas.List.{length-take, length-map, map-append, take-append-drop, take_more, take_all}
use Rattle.std.proofs.lemmas.Bool.{le-leb}
use Rattle.std.proofs.lemmas.List.Sums.{sum_by-append, sum_by_more, sum_by-take-le}
use Rattle.format_spec.specs.declared.limits.TheConstants.{MAX_PUBLISHED}
use Rattle.format_spec.specs.Bytes.{Bytes}
use Rattle.format_spec.proofs.Lists.{all_push}
use Rattle.store_spec.specs.declared.limits.TheConstants.{MAX_MARK}
use Rattle.store_spec.specs.Mark.{mark_text}
use Rattle.store_spec.proofs.MarkLengths.{mark_bounded}
use Rattle.sys_state.specs.System.{part_of}
use Rattle.disk_model.specs.declared.name.Kind.TheVariants as kind
use Rattle.disk_model.specs.declared.name.Name.TheVariants as name
use Rattle.disk_model.specs.Files.{Files, IsListing}
use Rattle.disk_model.specs.View.{DiskView}
use Rattle.disk_model.specs.State.{DiskState}
use Rattle.disk_model.specs.OnlyReads.{OnlyReads, reads_only_then, reads_only_more}
use Rattle.height_store.specs.Bad.{SpellsMark, HasGoodMark, AreGoodMarks, IsFirstBadMark, mark_bytes, marks_bytes}
use Rattle.height_store.specs.Opened.{ReadMark, parts_of}
use Rattle.height_store.proofs.FilesFound.{error_inside}

pub filled_length : (n : ℕ) (into rest : Bytes) → length into ≡ n → length (take n (into ++ rest)) ≡ n
filled_length n into rest is = omega (arith, is, length-take n (into ++ rest), length-append into rest)

-- ---- errors

pub same_height : {T : Type 0} (a b : ℕ) → ◌≡◌ {A = Result T StoreError} (Err (BadMark a)) (Err (BadMark b)) → a ≡ b
same_height a b e = cc

-- an error that is handed on
pub handed_on : {T E : Type 0} (U : Type 0) (result : Result T E) (x e kind : E) → result ≡ Err x → x ≡ e → IsErrOf result kind → IsErrOf {T = U} (Err e) kind
handed_on {E} U result x e kind is from err = ap {B = Result U E} (λ (d : E). Err d) (sym from ∙ error_inside x kind (sym is ∙ err))

-- ---- the walk

-- these marks are those of the first heights, and spelled there
pub record AreRead (files : Files) (heights : List ℕ) (i : ℕ) (ms : List ReadMark) : Type 0 where
  pub few : length ms ≤ MAX_PUBLISHED
  pub in_order : map (λ m. m.mark.height) ms ≡ take i heights
  pub spelled : AllByRecursion (λ m. SpellsMark files m.mark.height m.mark (part_of m.system)) ms

good_heights : (files : Files) (ms : List ReadMark) → AllByRecursion (λ m. SpellsMark files m.mark.height m.mark (part_of m.system)) ms → AllByRecursion (HasGoodMark files) (map (λ m. m.mark.height) ms)
good_heights files [] all = tt
good_heights files (m ∷ ms) all = ((m.mark, part_of m.system, all.0), good_heights files ms all.1)

good_parts : (files : Files) (ms : List ReadMark) → AllByRecursion (λ m. SpellsMark files m.mark.height m.mark (part_of m.system)) ms → AllByRecursion (λ m. SpellsMark files m.0.height m.0 m.1) (map parts_of ms)
good_parts files [] all = tt
good_parts files (m ∷ ms) all = (all.0, good_parts files ms all.1)

heights_of_parts : (ms : List ReadMark) → map (λ m. m.0.height) (map parts_of ms) ≡ map (λ m. m.mark.height) ms
heights_of_parts [] = refl
heights_of_parts (m ∷ ms) = ap (λ (l : List ℕ). m.mark.height ∷ l) (heights_of_parts ms)

pub are_good : (files : Files) (heights : List ℕ) (i : ℕ) (ms : List ReadMark) → length heights ≤ i → IsListing kind.Mark files heights → AreRead files heights i ms → AreGoodMarks files (map parts_of ms)
are_good files heights i ms all listed read = record {
  listed = subst (IsListing kind.Mark files) (sym (heights_of_parts ms ∙ read.in_order ∙ take_all i heights all)) listed;
  few = omega (arith, length-map ms parts_of, read.few);
  spelled = good_parts files ms read.spelled;
}

pub first_bad : (files : Files) (heights : List ℕ) (i : ℕ) (ms : List ReadMark) → i < length heights → IsListing kind.Mark files heights → AreRead files heights i ms → (length ms ≡ MAX_PUBLISHED) ⊎ (HasGoodMark files (get_or heights i 0) → ⊥) → IsFirstBadMark files (get_or heights i 0)
first_bad files heights i ms lt listed read bad = record {
  before = take i heights;
  after = drop (suc i) heights;
  listed = subst (IsListing kind.Mark files) (sym (take-append-drop i heights) ∙ ap (λ (l : List ℕ). take i heights ++ l) (drop-cons heights i 0 lt)) listed;
  good = subst (AllByRecursion (HasGoodMark files)) read.in_order (good_heights files ms read.spelled);
  few = omega (arith, same, read.few);
  bad = ⊎_elim (λ many. inl (sym same ∙ many)) (λ none. inr none) bad;
}
  where
    same : length ms ≡ length (take i heights)
    same = sym (length-map ms (λ (m : ReadMark). m.mark.height)) ∙ ap (λ (l : List ℕ). length l) read.in_order

pub heights_more : (heights : List ℕ) (i : ℕ) (ms now : List ReadMark) (m : ReadMark) → i < length heights → now ≡ ms ++ m ∷ [] → m.mark.height ≡ get_or heights i 0 → map (λ m. m.mark.height) ms ≡ take i heights → map (λ m. m.mark.height) now ≡ take (i + 1) heights
heights_more heights i ms now m lt is at was =
    ap (map (λ (m : ReadMark). m.mark.height)) is ∙ map-append (λ (m : ReadMark). m.mark.height) ms (m ∷ [])
    ∙ ap (λ (l : List ℕ). l ++ m.mark.height ∷ []) was ∙ ap (λ (h : ℕ). take i heights ++ h ∷ []) at ∙ sym (take_more heights i 0 lt)

pub spelled_more : (files mid : Files) (ms now : List ReadMark) (m : ReadMark) (height : ℕ) → now ≡ ms ++ m ∷ [] → mid ≡ files → m.mark.height ≡ height → SpellsMark mid height m.mark (part_of m.system)
    → AllByRecursion (λ m. SpellsMark files m.mark.height m.mark (part_of m.system)) ms → AllByRecursion (λ m. SpellsMark files m.mark.height m.mark (part_of m.system)) now
spelled_more files mid ms now m height is same at one all =
    subst (AllByRecursion (λ (m : ReadMark). SpellsMark files m.mark.height m.mark (part_of m.system))) (sym is)
    (all_push (λ (m : ReadMark). SpellsMark files m.mark.height m.mark (part_of m.system)) ms m all (subst (λ (h : ℕ). SpellsMark files h m.mark (part_of m.system)) (sym at) (subst (λ (f : Files). SpellsMark f height m.mark (part_of m.system)) same one)))

pub reads_only_longer : (ms now : List ReadMark) (m : ReadMark) (old mid new : DiskView) → now ≡ ms ++ m ∷ [] → OnlyReads (sum_by (λ m. length (mark_text m.mark)) ms) old mid → OnlyReads (length (mark_text m.mark)) mid new → OnlyReads (sum_by (λ m. length (mark_text m.mark)) now) old new
reads_only_longer ms now m old mid new is first second =
    subst (λ (n : ℕ). OnlyReads n old new) (sym (ap (sum_by text_length) is ∙ sum_by-append text_length ms (m ∷ []) ∙ omega arith)) (reads_only_then _ _ old mid new first second)
  where
    text_length : ReadMark → ℕ
    text_length m = length (mark_text m.mark)

-- ---- how much is read

-- a file of this size, which is no more than a mark can have
pub sized : (file : Option Bytes) (size : ℕ) → Some size ≡ option_map length file → size ≤ MAX_MARK → mark_bytes file ≡ size
sized None size is within = absurd cc
sized (Some text) size is within =
    let same : size ≡ length text = cc is in
    rw (le-leb (length text) MAX_MARK (omega (arith, same, within))) (sym same)

good_size : (files : Files) (height : ℕ) (good : HasGoodMark files height) → option_map length (files (name.Mark height)) ≡ Some (length good.2.text)
good_size files height good = ap (option_map length) good.2.there

-- no mark is longer than it can be
pub longer_than_marks : (files : Files) (height size : ℕ) → Some size ≡ option_map length (files (name.Mark height)) → MAX_MARK < size → HasGoodMark files height → ⊥
longer_than_marks files height size is longer good =
    let same : size ≡ length good.2.text = let e = is ∙ good_size files height good in cc e in
    omega (arith, same, longer, mark_bounded height good.2.text good.0 good.1 good.2.spelled)

-- none is absent
pub absent_mark : (files : Files) (height : ℕ) → None ≡ option_map length (files (name.Mark height)) → HasGoodMark files height → ⊥
absent_mark files height is good = let e = is ∙ good_size files height good in cc e

abbrev of_height : Files → ℕ → ℕ
of_height files height = mark_bytes (files (name.Mark height))

-- one mark more
pub reads_more : (heights : List ℕ) (i : ℕ) (old mid new : DiskView) → i < length heights → mid.state ≡ old.state → OnlyReads (marks_bytes old.state.files (take i heights)) old mid
    → OnlyReads (of_height mid.state.files (get_or heights i 0)) mid new → OnlyReads (marks_bytes old.state.files (take (i + 1) heights)) old new
reads_more heights i old mid new lt same first second =
    subst (λ (n : ℕ). OnlyReads n old new) (sym (sum_by_more (of_height old.state.files) heights i 0 lt))
    (reads_only_then _ _ old mid new first (subst (λ (s : DiskState). OnlyReads (of_height s.files (get_or heights i 0)) mid new) same second))

-- and no more than all
pub reads_all : (heights : List ℕ) (i : ℕ) (old new : DiskView) → OnlyReads (marks_bytes old.state.files (take i heights)) old new → OnlyReads (marks_bytes old.state.files heights) old new
reads_all heights i old new reads_only = reads_only_more _ _ old new (sum_by-take-le (of_height old.state.files) heights i) reads_only
