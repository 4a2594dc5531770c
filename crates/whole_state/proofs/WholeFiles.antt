-- A page file with all pages of a memory.
use Rattle.std.proofs.Common.{◌≡◌, ℕ, true, ◌+◌, ◌-◌, ◌*◌, ◌/◌, ◌%◌, ◌<◌, ◌≤◌, ◌==◌, false, if◌then◌else◌, inl, inr, List, [], ◌∷◌, ◌++◌, length, take, drop, Result, Ok, refl, sym, ap, subst, ◌∙◌, arith}
use Rattle.std.specs.List.{range_with_len, AllByRecursion}
use Rattle.std.proofs.Math.Seq.{take-add}
use Rattle.std.proofs.lemmas.Bool.{cases_Bool, eqb-true, ne_eqb}
use Rattle.std.proofs.lemmas.List.{append-nil}
use Rattle.std.proofs.lemmas.List.FromFn.{length-range_with_len}
use Rattle.format_spec.specs.Bytes.{Bytes, ascending}
use Rattle.format_spec.specs.declared.limits.TheConstants.{MAX_MEMORY_PAGES}
use Rattle.std.specs.Ordering.{nat_cmp}
use Rattle.page_spec.specs.PageFile.{PageIndex, IsIndex, runs_of, index_length}
use Rattle.disk_model.specs.declared.name.Name.TheVariants.{Page}
use Rattle.disk_model.specs.Files.{same_name}
use Rattle.disk_model.specs.declared.disk.Disk.{Ghosts}
use Rattle.disk_model.specs.declared.disk.DiskError.{DiskError}
use Rattle.disk_model.specs.State.{IsLoose}
use Rattle.disk_model.specs.View.{DiskView}
use Rattle.disk_model.specs.Writing.{Writes, Wrote, write_then}
use Rattle.page_file.specs.declared.range.Range.{Range}
use Rattle.page_file.specs.Ranges.{AreRanges}
use Rattle.page_file.specs.Files.{UnfinishedFile, IsWriting, length_added}
use Rattle.page_file.proofs.Runs.{numbers_ascend, numbers_within, runs_of_numbers}
use Rattle.page_file.proofs.Build.{range_push}
use Rattle.whole_state.specs.Written.{whole_index}

-- ---- the index

abbrev all : ℕ → List Range
all n = record { first = 0; length = n; place = 0 } ∷ []

pub whole_is_index : (n : ℕ) → 1 ≤ n → n ≤ MAX_MEMORY_PAGES → IsIndex (whole_index n)
whole_is_index n some few =
    let are : AreRanges n 0 0 (all n) = (omega arith, some, omega arith, refl, tt) in
    record {
      some_memory = some;
      memory_fits = few;
      some_page = omega (arith, some, length-range_with_len 0 n);
      ascends = subst (λ (ns : List ℕ). ascending nat_cmp ns ≡ true) (append-nil (range_with_len 0 n)) (numbers_ascend n 0 0 (all n) are);
      within = subst (AllByRecursion (λ page. page < n)) (append-nil (range_with_len 0 n)) (numbers_within n 0 0 (all n) are);
    }

-- a header and one range
pub one_range : (n : ℕ) → 1 ≤ n → index_length (whole_index n) ≡ 44
one_range n some =
    let are : AreRanges n 0 0 (all n) = (omega arith, some, omega arith, refl, tt) in
    ap (λ (ns : List ℕ). 32 + 12 * length (runs_of ns)) (sym (append-nil (range_with_len 0 n)))
    ∙ ap (λ (rs : List (ℕ × ℕ)). 32 + 12 * length rs) (runs_of_numbers n 0 0 (all n) are)

pub page_pushed : (mid new : List ℕ) (page : ℕ) → mid ≡ range_with_len 0 page → new ≡ mid ++ page ∷ [] → new ≡ range_with_len 0 (page + 1)
page_pushed mid new page was is =
    let at : page ≡ 0 + page = omega arith in
    is ∙ ap (λ (ns : List ℕ). ns ++ page ∷ []) was ∙ ap (λ (n : ℕ). range_with_len 0 page ++ n ∷ []) at ∙ sym (range_push 0 page)

-- ---- the pages

-- what so many pages take in a file with this index, which is written with the first of them
abbrev pub file_so_far : ℕ → PageIndex → ℕ
file_so_far i index = if i == 0 then 0 else index_length index + i * 4096

-- so many pages of the memory were added
pub record AddsPages (memory : Bytes) (i : ℕ) (first writer : UnfinishedFile) (old new : DiskView) : Type 0 where
  pub loose : IsLoose new.state (Page first.number)
  pub written : IsWriting first [] old.state → IsWriting writer (take (i * 4096) memory) new.state

taken_more : (i : ℕ) (memory : Bytes) → take (i * 4096) memory ++ take 4096 (drop (i * 4096) memory) ≡ take ((i + 1) * 4096) memory
taken_more i memory = let e : (i + 1) * 4096 ≡ i * 4096 + 4096 = omega arith in sym (ap (λ (n : ℕ). take n memory) e ∙ take-add (i * 4096) 4096 memory)

more_so_far : (i : ℕ) (first writer : UnfinishedFile) → first.alone ≡ false → writer ≡ record first { added = i } → file_so_far i first.index + length_added writer 1 ≡ file_so_far (i + 1) first.index
more_so_far i first writer missing is = subst (λ (w : UnfinishedFile). file_so_far i first.index + length_added w 1 ≡ file_so_far (i + 1) first.index) (sym is) (elim (cases_Bool (i == 0)) [
  | inl none ↦ rw (missing, none, later) (omega (arith, eqb-true i 0 none))
  | inr some ↦ rw (missing, some, later) (omega arith)
])
  where
    later : (i + 1 == 0) ≡ false
    later = ne_eqb (i + 1) 0 (λ e. omega (arith, e))

-- one page more
pub adds_more : (memory page : Bytes) (i : ℕ) (first writer next : UnfinishedFile) (old mid new : DiskView) → writer ≡ record first { added = i } → page ≡ take 4096 (drop (i * 4096) memory)
    → IsLoose new.state (Page writer.number) → ((pages : Bytes) → IsWriting writer pages mid.state → IsWriting next (pages ++ page) new.state)
    → AddsPages memory i first writer old mid → AddsPages memory (i + 1) first next old new
adds_more memory page i first writer next old mid new is page_is loose added so_far = record {
  loose = subst (λ (n : ℕ). IsLoose new.state (Page n)) (ap (λ (w : UnfinishedFile). w.number) is) loose;
  written = λ was. subst (λ (bytes : Bytes). IsWriting next bytes new.state) (ap (λ (p : Bytes). take (i * 4096) memory ++ p) page_is ∙ taken_more i memory) (added (take (i * 4096) memory) (so_far.written was));
}

-- a call on the file of a writer
pub of_file : {D T : Type 0} (disk : Ghosts D) (result : Result T DiskError) (count n m : ℕ) (old new : D) → n ≡ m → Writes disk (same_name (Page n)) count old new result → Writes disk (same_name (Page m)) count old new result
of_file disk result count n m old new is writes = subst (λ k. Writes disk (same_name (Page k)) count old new result) is writes

pub page_more : {D T : Type 0} (disk : Ghosts D) (result : Result T DiskError) (i : ℕ) (first writer : UnfinishedFile) (old mid new : D) → first.alone ≡ false → writer ≡ record first { added = i } → Wrote disk (same_name (Page first.number)) (file_so_far i first.index) old mid
    → Writes disk (same_name (Page writer.number)) (length_added writer 1) mid new result → Writes disk (same_name (Page first.number)) (file_so_far (i + 1) first.index) old new result
page_more disk result i first writer old mid new missing is so_far writes =
    write_then disk (Ok tt) result (same_name (Page first.number)) (file_so_far i first.index) (length_added writer 1) (file_so_far (i + 1) first.index) old mid new refl (more_so_far i first writer missing is) so_far
    (of_file disk result (length_added writer 1) writer.number first.number mid new (ap (λ (w : UnfinishedFile). w.number) is) writes)

pub fewer_so_far : (i : ℕ) (index : PageIndex) (size : ℕ) → (i + 1) * 4096 ≤ size → file_so_far (i + 1) index ≤ index_length index + size
fewer_so_far i index size le = let later : (i + 1 == 0) ≡ false = ne_eqb (i + 1) 0 (λ e. omega (arith, e)) in rw later (omega (arith, le))

pub all_so_far : (i : ℕ) (index : PageIndex) (size : ℕ) → 1 ≤ size → i * 4096 ≡ size → file_so_far i index ≡ index_length index + size
all_so_far i index size some all = let later : (i == 0) ≡ false = ne_eqb i 0 (λ e. omega (arith, e, some, all)) in rw later (omega (arith, all))

-- the writer of a file with all pages of a memory
pub room_for : (memory : Bytes) (number : ℕ) (index : PageIndex) (writer : UnfinishedFile) → length memory % 4096 ≡ 0 → index ≡ whole_index (length memory / 4096) → writer ≡ record { number = number; index = index; alone = false; added = 0 }
    → length memory ≡ 4096 * length writer.index.numbers
room_for memory number index writer even is begun =
    let count : length writer.index.numbers ≡ length memory / 4096 = ap (λ (w : UnfinishedFile). length w.index.numbers) begun ∙ ap (λ (i : PageIndex). length i.numbers) is ∙ length-range_with_len 0 (length memory / 4096) in
    omega (arith, even, count)

pub one_page : (memory page : Bytes) (at : ℕ) → page ≡ take (at + 4096 - at) (drop at memory) → page ≡ take 4096 (drop at memory)
one_page memory page at is = let e : at + 4096 - at ≡ 4096 = omega arith in is ∙ ap (λ (n : ℕ). take n (drop at memory)) e

pub added_one : (first writer next : UnfinishedFile) (i : ℕ) → writer ≡ record first { added = i } → next ≡ record writer { added = writer.added + 1 } → next ≡ record first { added = i + 1 }
added_one first writer next i is more = more ∙ ap (λ (w : UnfinishedFile). record w { added = w.added + 1 }) is

-- the index of a file with all pages of a memory
pub index_long : (memory : Bytes) (number : ℕ) (index : PageIndex) (writer : UnfinishedFile) → 1 ≤ length memory → length memory % 4096 ≡ 0 → index ≡ whole_index (length memory / 4096) → writer ≡ record { number = number; index = index; alone = false; added = 0 }
    → index_length writer.index ≡ 32 + 12
index_long memory number index writer some even is begun = ap (λ (w : UnfinishedFile). index_length w.index) begun ∙ ap index_length is ∙ one_range (length memory / 4096) (omega (arith, some, even))
