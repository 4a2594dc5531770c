-- What an index that is kept in memory is known to be.
use Rattle.std.proofs.Common.{◌≡◌, ℕ, ◌+◌, ◌*◌, ◌≤◌, ◌==◌, inl, inr, List, [], ◌∷◌, ◌++◌, length, sym, ◌∙◌, ap, subst, arith}
use Rattle.std.proofs.lemmas.Bool.{cases_Bool}
use Rattle.format_spec.specs.Bytes.{Bytes}
use Rattle.page_spec.specs.PageFile.{PageIndex, IsIndex, runs_of, before_runs, index_text, index_length, ranges_text}
use Rattle.page_file.specs.declared.index.FileIndex.TheInside.{Inside}
use Rattle.page_file.specs.Ranges.{AreRanges, text_of}
use Rattle.page_file.specs.Index.{index_of, IsFileIndex, header_text}
use Rattle.page_file.proofs.Runs.{runs_of_numbers, numbers_within, numbers_ascend, ranges_le_numbers, numbers_le_memory}
use Rattle.page_file.proofs.Placed.{placed, length_placed, placed_are, numbers_placed}
use Rattle.page_file.proofs.Steps.{behind}
use Rattle.page_file.proofs.Texts.{text_is, index_is, length-runs_in}
use Rattle.format_spec.proofs.Lists.{every}
use Rattle.format_spec.specs.declared.limits.TheConstants.{MAX_MEMORY_PAGES}

pub counts : (a : Inside) → IsFileIndex a → (length a.ranges.items ≤ a.count) × (a.count ≤ a.memory) × (a.memory ≤ MAX_MEMORY_PAGES)
counts a h = (
  omega (arith, h.count, ranges_le_numbers a.memory 0 0 a.ranges.items h.ascend),
  omega (arith, h.count, numbers_le_memory a.memory 0 0 a.ranges.items h.ascend (omega arith)),
  h.memory_fits,
)

pub is_index : (a : Inside) → IsFileIndex a → IsIndex (index_of a)
is_index a h = let facts = counts a h in record {
  some_memory = omega (arith, facts.0, facts.1, h.some_range);
  memory_fits = h.memory_fits;
  some_page = omega (arith, h.count, facts.0, h.some_range);
  ascends = numbers_ascend a.memory 0 0 a.ranges.items h.ascend;
  within = numbers_within a.memory 0 0 a.ranges.items h.ascend;
}

pub runs_length : (a : Inside) → IsFileIndex a → length (runs_of (index_of a).numbers) ≡ length a.ranges.items
runs_length a h = ap length (runs_of_numbers a.memory 0 0 a.ranges.items h.ascend) ∙ length-runs_in a.ranges.items

pub offset_is : (a : Inside) (i : PageIndex) (n : ℕ) → IsFileIndex a → index_of a ≡ i → n ≡ length a.ranges.items → 32 + 12 * n ≡ index_length i
offset_is a i n h is count = subst (λ (i : PageIndex). 32 + 12 * n ≡ index_length i) is (omega (arith, count, runs_length a h))

pub text_written : (a : Inside) (i : PageIndex) (n : ℕ) (old mid new : Bytes) → IsFileIndex a → index_of a ≡ i → n ≡ length a.ranges.items → mid ≡ old ++ header_text a.memory n a.count → new ≡ mid ++ text_of a.ranges.items → new ≡ old ++ index_text i
text_written a i n old mid new h is count header ranges = subst (λ (i : PageIndex). new ≡ old ++ index_text i) is (
    behind old mid new (header_text a.memory n a.count) (text_of a.ranges.items) header ranges
    ∙ (λ j. old ++ (header_text a.memory ((count ∙ sym (runs_length a h)) j) (h.count j) ++ (text_is a.memory 0 0 a.ranges.items h.ascend ∙ ap (ranges_text 0) (sym (runs_of_numbers a.memory 0 0 a.ranges.items h.ascend))) j))
    ∙ ap (λ (l : Bytes). old ++ l) (sym (index_is (index_of a))))

-- the ranges of an index
pub ranges_are : (i : PageIndex) → IsIndex i → AreRanges i.memory 0 0 (placed 0 (runs_of i.numbers))
ranges_are i is = placed_are i.memory i.numbers is.ascends is.within 0 0 (every (λ n. 0 ≤ n) (λ n. omega arith) i.numbers)

pub pages_fit : (i : PageIndex) → IsIndex i → (length (runs_of i.numbers) ≤ length i.numbers) × (length i.numbers ≤ i.memory)
pages_fit i is =
    let are = ranges_are i is in (
      omega (arith, ranges_le_numbers i.memory 0 0 (placed 0 (runs_of i.numbers)) are, length_placed 0 (runs_of i.numbers), ap length (numbers_placed 0 i.numbers)),
      omega (arith, numbers_le_memory i.memory 0 0 (placed 0 (runs_of i.numbers)) are (omega arith), ap length (numbers_placed 0 i.numbers)),
    )

before_some : (n : ℕ) (rs : List (ℕ × ℕ)) → 1 ≤ length (before_runs n rs)
before_some n [] = omega arith
before_some n (r ∷ rs) = elim (cases_Bool (r.0 == n + 1)) [ inl same ↦ rw same (omega arith) | inr apart ↦ rw apart (omega arith) ]

pub some_run : (i : PageIndex) → IsIndex i → 1 ≤ length (runs_of i.numbers)
some_run i is = of i.numbers is.some_page
  where
    of : (ns : List ℕ) → 1 ≤ length ns → 1 ≤ length (runs_of ns)
    of [] some = absurd (omega arith)
    of (n ∷ ns) some = before_some n (runs_of ns)
