-- An index from the text of its ranges.
use Rattle.std.proofs.Common.{◌≡◌, ℕ, ◌+◌, ◌*◌, ◌≤◌, Bool, true, false, not, List, [], ◌∷◌, length, Option, Some, None, if◌then◌else◌, eqb, inl, inr, refl, sym, ◌∙◌, ap, arith}
use Rattle.std.specs.Int.{w32, from_be_bytes}
use Rattle.std.specs.Option.{option_eq}
use Rattle.std.proofs.lemmas.Nat.{from_be_bytes-to_be_bytes_4}
use Rattle.std.proofs.lemmas.Bool.{cases_Bool, eqb-true, eq-eqb, false≢true, not-false}
use Rattle.format_spec.specs.Bytes.{Bytes, be32}
use Rattle.page_spec.specs.PageFile.{PageIndex, ranges_text, runs_of}
use Rattle.page_file.specs.declared.range.Range.{Range}
use Rattle.page_file.specs.Ranges.{numbers_in, are_ranges, AreRanges, text_of, ranges_from}
use Rattle.page_file.specs.declared.index.FileIndex.TheInside.{Inside}
use Rattle.page_file.specs.Index.{HasRanges, IsFileIndex, index_of, are_counts}
use Rattle.page_file.proofs.Runs.{test, facts, runs_of_numbers}
use Rattle.page_file.proofs.Placed.{placed, numbers_placed}
use Rattle.page_file.proofs.Texts.{placed_text, length-text_of, counts_are, text_is}
use Rattle.page_file.proofs.Kept.{ranges_are, is_index}
use Rattle.format_spec.specs.declared.limits.TheConstants.{MAX_MEMORY_PAGES}

told_some : (b : Bool) (n : ℕ) (o : Option ℕ) → o ≡ (if b then Some n else None) → b ≡ true → o ≡ Some n
told_some b n o is h = is ∙ rw h refl

told_none : (b : Bool) (n : ℕ) (o : Option ℕ) → o ≡ (if b then Some n else None) → b ≡ false → o ≡ None
told_none b n o is h = is ∙ rw h refl

abbrev apart : Option ℕ → ℕ → Bool
apart o pages = not (option_eq eqb o (Some pages))

pages_were : (pages : ℕ) (b : Bool) (n : ℕ) (o : Option ℕ) → o ≡ (if b then Some n else None) → false ≡ apart o pages → (b ≡ true) × (n ≡ pages)
pages_were pages b n o is same = elim (cases_Bool b) [
  | inl good ↦ let e : false ≡ not (eqb n pages) = same ∙ ap (λ o. apart o pages) (told_some b n o is good) in (good, eqb-true n pages (not-false (eqb n pages) (sym e)))
  | inr bad ↦ let e : false ≡ true = same ∙ ap (λ o. apart o pages) (told_none b n o is bad) in absurd (false≢true e)
]

pages_not : (pages : ℕ) (b : Bool) (n : ℕ) (o : Option ℕ) → o ≡ (if b then Some n else None) → true ≡ apart o pages → b ≡ true → n ≡ pages → ⊥
pages_not pages b n o is other good count =
    let e : true ≡ not (eqb n pages) = other ∙ ap (λ o. apart o pages) (told_some b n o is good) in
    false≢true (sym (e ∙ ap not (eq-eqb n pages count)))

fits : (n : ℕ) → n ≤ MAX_MEMORY_PAGES → from_be_bytes w32 (be32 n) ≡ n
fits n le = from_be_bytes-to_be_bytes_4 n (omega (arith, le))

-- Ranges are read back from their text.
pub read_back : (m l p : ℕ) (rs : List Range) → AreRanges m l p rs → m ≤ MAX_MEMORY_PAGES → p ≤ l → ranges_from (length rs) (text_of rs) ≡ rs
read_back m l p [] h small le = refl
read_back m l p (r ∷ rs) h small le =
    let rest = read_back m (r.first + r.length + 1) (p + r.length) rs h.4 small (omega (arith, h.0, le)) in
    let first = fits r.first (omega (arith, h.2, small)) in
    let length_ = fits r.length (omega (arith, h.2, small)) in
    let place = fits r.place (omega (arith, h.0, h.2, h.3, le, small)) in
    λ i. record { first = first i; length = length_ i; place = place i } ∷ rest i

-- the ranges read are those of the index that the bytes spell
pub ranges_of_text : (m r p : ℕ) (bytes : Bytes) (rs : List Range) (i : PageIndex) → HasRanges m p bytes i → length bytes ≡ 12 * r → rs ≡ ranges_from r bytes → rs ≡ placed 0 (runs_of i.numbers)
ranges_of_text m r p bytes rs i has size is =
    let ps = placed 0 (runs_of i.numbers) in
    let text : bytes ≡ text_of ps = has.text ∙ sym (placed_text 0 (runs_of i.numbers)) in
    let count : r ≡ length ps = omega (arith, size, ap length text, length-text_of ps) in
    is ∙ (λ j. ranges_from (count j) (text j)) ∙ read_back i.memory 0 0 ps (ranges_are i has.good) has.good.memory_fits (omega arith)

pub no_index : (m r p : ℕ) (bytes : Bytes) (rs : List Range) (o : Option ℕ) (i : PageIndex) → HasRanges m p bytes i → length bytes ≡ 12 * r → rs ≡ ranges_from r bytes
    → o ≡ (if are_ranges m 0 0 rs then Some (length (numbers_in rs)) else None) → true ≡ not (option_eq eqb o (Some p)) → ⊥
no_index m r p bytes rs o i has size is was other =
    let same = ranges_of_text m r p bytes rs i has size is in
    let good = test i.memory 0 0 (placed 0 (runs_of i.numbers)) (ranges_are i has.good) in
    pages_not p (are_ranges m 0 0 rs) (length (numbers_in rs)) o was other (ap (are_ranges m 0 0) same ∙ ap (λ m. are_ranges m 0 0 (placed 0 (runs_of i.numbers))) (sym has.same_memory) ∙ good) (ap (λ (l : List Range). length (numbers_in l)) same ∙ ap length (numbers_placed 0 i.numbers) ∙ has.count)

-- what was read is an index, and the one that the bytes spell
pub is_read : (a : Inside) (r p : ℕ) (bytes : Bytes) (rs : List Range) (o : Option ℕ) → are_counts a.memory r p ≡ true → length bytes ≡ 12 * r → text_of a.ranges.items ≡ bytes → rs ≡ a.ranges.items → a.count ≡ p
    → o ≡ (if are_ranges a.memory 0 0 rs then Some (length (numbers_in rs)) else None) → false ≡ not (option_eq eqb o (Some p)) → IsFileIndex a
is_read a r p bytes rs o possible size text is count told same =
    let counts = counts_are a.memory r p possible in
    let were = pages_were p (are_ranges a.memory 0 0 rs) (length (numbers_in rs)) o told same in
    record {
      memory_fits = counts.2;
      some_range = omega (arith, counts.3, size, ap length text, length-text_of a.ranges.items);
      ascend = facts a.memory 0 0 a.ranges.items (ap (are_ranges a.memory 0 0) (sym is) ∙ were.0);
      count = count ∙ sym were.1 ∙ ap (λ (l : List Range). length (numbers_in l)) is;
    }

pub has_read : (a : Inside) (p : ℕ) (bytes : Bytes) → IsFileIndex a → text_of a.ranges.items ≡ bytes → a.count ≡ p → HasRanges a.memory p bytes (index_of a)
has_read a p bytes h text count = record {
  good = is_index a h;
  same_memory = refl;
  count = sym h.count ∙ count;
  text = sym text ∙ text_is a.memory 0 0 a.ranges.items h.ascend ∙ ap (ranges_text 0) (sym (runs_of_numbers a.memory 0 0 a.ranges.items h.ascend));
}
