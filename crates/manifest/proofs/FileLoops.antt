-- The file rows of a text, read two by two.
use Rattle.std.proofs.Common.{◌≡◌, ℕ, ◌+◌, ◌-◌, ◌*◌, ◌/◌, ◌%◌, ◌^◌, ◌<◌, ◌≤◌, Bool, false, List, [], ◌∷◌, ◌++◌, length, Option, Some, Result, Ok, refl, sym, ap, subst, ◌∙◌, eq-eqb, ne_eqb, arith}
use Rattle.std.specs.Prelude.{◌==◌, if◌then◌else◌}
use Rattle.std.specs.List.{AllByRecursion}
use Rattle.std.proofs.lemmas.List.{length-append}
use Rattle.format_spec.specs.Bytes.{Bytes, same_bytes}
use Rattle.format_spec.specs.Fields.{Reading, Cursor, each}
use Rattle.format_spec.proofs.Each.{each_more, each_ends}
use Rattle.format_spec.proofs.Lists.{all_push}
use Rattle.state_spec.specs.Files.{system_name}
use Rattle.state_spec.specs.Manifest.{FileRow}
use Rattle.state_spec.specs.ManifestText.{file_after, id_in, last_id, all_sizes, is_next_heap, is_its_stable, is_memory_size, is_system_size}
use Rattle.byte_codec.specs.declared.error.FieldError.{FieldError}
use Rattle.byte_codec.specs.Gives.{Fails}
use Rattle.byte_codec.proofs.Stops.{stops}
use Rattle.manifest.specs.Reading.{file_with, heap_row, stable_row, system_row}
use Rattle.state_spec.proofs.ManifestNames.{last_id-push, all_sizes-push}

-- ---- which row comes next

abbrev row_by : ℕ → Bool → Bool → List FileRow → Reading FileRow
row_by v at_end at_heap before =
    file_with
    (λ name. if at_end then same_bytes name system_name else if at_heap then is_next_heap (last_id before) (id_in name) name else is_its_stable (last_id before) name)
    (λ size. if at_end then is_system_size size else is_memory_size v before size)

by_tests : (v n : ℕ) (before : List FileRow) → file_after v n before ≡ row_by v (length before + 1 == n) (length before % 2 == 0) before
unfolding file_after
by_tests v n before = refl

pub at_heap : (v n : ℕ) (before : List FileRow) → length before + 1 < n → length before % 2 ≡ 0 → file_after v n before ≡ heap_row v (last_id before) (all_sizes before)
unfolding heap_row
at_heap v n before more even =
    by_tests v n before
    ∙ ap (λ (b : Bool). row_by v b (length before % 2 == 0) before) (ne_eqb (length before + 1) n (λ e. omega arith))
    ∙ ap (λ (b : Bool). row_by v false b before) (eq-eqb (length before % 2) 0 even)

pub at_stable : (v n : ℕ) (before : List FileRow) (id : Bytes) → length before + 1 < n → length before % 2 ≡ 1 → last_id before ≡ Some id → file_after v n before ≡ stable_row v id (all_sizes before)
unfolding stable_row
at_stable v n before id more odd last =
    by_tests v n before
    ∙ ap (λ (b : Bool). row_by v b (length before % 2 == 0) before) (ne_eqb (length before + 1) n (λ e. omega arith))
    ∙ ap (λ (b : Bool). row_by v false b before) (ne_eqb (length before % 2) 0 (λ e. omega arith))
    ∙ ap (λ (o : Option Bytes). file_with (is_its_stable o) (is_memory_size v before)) last

pub at_system : (v n : ℕ) (before : List FileRow) → length before + 1 ≡ n → file_after v n before ≡ system_row
unfolding system_row
at_system v n before end = by_tests v n before ∙ ap (λ (b : Bool). row_by v b (length before % 2 == 0) before) (eq-eqb (length before + 1) n end)

-- ---- what is known of one row more

abbrev pub Short : FileRow → Type 0
Short row = length row.name < 256

-- ---- the loop

pub record ReadSoFar (v count pairs : ℕ) (files : List FileRow) (last : Option Bytes) (total : ℕ) (start now : Cursor) : Type 0 where
  pub so_far : each (file_after v count) (count - 2 * pairs) files now ≡ each (file_after v count) count [] start
  pub length_is : length files ≡ 2 * pairs
  pub last_is : last ≡ last_id files
  pub total_is : total ≡ all_sizes files
  pub small : total ≤ 2 ^ 31
  pub short : AllByRecursion Short files

module _ (v count pairs : ℕ) (files : List FileRow) (last : Option Bytes) (total : ℕ) (start now : Cursor) (read : ReadSoFar v count pairs files last total start now) (odd : count % 2 ≡ 1) (more : pairs < count / 2) where
  -- the heap is the next row
  pub heap_next : (r : Result (FileRow × Cursor) ℕ) → heap_row v last total now ≡ r → file_after v count files now ≡ r
  heap_next r e =
      let len = read.length_is in
      ap (λ (m : Reading FileRow). m now) (at_heap v count files (omega arith) (omega arith))
      ∙ ap (λ (o : Option Bytes). heap_row v o (all_sizes files) now) (sym read.last_is)
      ∙ ap (λ (t : ℕ). heap_row v last t now) (sym read.total_is) ∙ e

  pub heap_stops : (e : FieldError) → Fails e (heap_row v last total now) → Fails e (each (file_after v count) count [] start)
  heap_stops e failed =
      let len = read.length_is in
      stops e (file_after v count) count (2 * pairs) files now (each (file_after v count) count [] start) (omega arith)
      (subst (Fails e) (sym (heap_next (heap_row v last total now) refl)) failed) read.so_far

  module _ (id : Bytes) (heap : FileRow) (mid : Cursor) (first : heap_row v last total now ≡ Ok (heap, mid)) (named : id_in heap.name ≡ Some id) where
    half_read : each (file_after v count) (count - (2 * pairs + 1)) (files ++ heap ∷ []) mid ≡ each (file_after v count) count [] start
    half_read =
        let len = read.length_is in
        sym (each_more (file_after v count) count (2 * pairs) files now heap mid (omega arith) (heap_next (Ok (heap, mid)) first)) ∙ read.so_far

    -- its stable memory is the row behind it
    pub stable_next : (r : Result (FileRow × Cursor) ℕ) → stable_row v id (total + heap.size) mid ≡ r → file_after v count (files ++ heap ∷ []) mid ≡ r
    stable_next r e =
        let len = read.length_is in
        let longer = length-append files (heap ∷ []) in
        ap (λ (m : Reading FileRow). m mid) (at_stable v count (files ++ heap ∷ []) id (omega arith) (omega arith) (last_id-push files heap ∙ named))
        ∙ ap (λ (t : ℕ). stable_row v id t mid) (all_sizes-push files heap ∙ ap (λ (t : ℕ). t + heap.size) (sym read.total_is)) ∙ e

    pub stable_stops : (e : FieldError) → Fails e (stable_row v id (total + heap.size) mid) → Fails e (each (file_after v count) count [] start)
    stable_stops e failed =
        let len = read.length_is in
        stops e (file_after v count) count (2 * pairs + 1) (files ++ heap ∷ []) mid (each (file_after v count) count [] start) (omega arith)
        (subst (Fails e) (sym (stable_next (stable_row v id (total + heap.size) mid) refl)) failed) half_read

    pub read_more : (stable : FileRow) (end : Cursor) → stable_row v id (total + heap.size) mid ≡ Ok (stable, end) → id_in stable.name ≡ Some id → total + heap.size + stable.size ≤ 2 ^ 31
        → Short heap → Short stable → ReadSoFar v count (pairs + 1) ((files ++ heap ∷ []) ++ stable ∷ []) (Some id) (total + heap.size + stable.size) start end
    read_more stable end second again fits short_heap short_stable =
        let len = read.length_is in
        let longer = length-append files (heap ∷ []) in
        let i : 2 * (pairs + 1) ≡ 2 * pairs + 1 + 1 = omega arith in
        record {
          so_far = ap (λ (k : ℕ). each (file_after v count) (count - k) ((files ++ heap ∷ []) ++ stable ∷ []) end) i
              ∙ sym (each_more (file_after v count) count (2 * pairs + 1) (files ++ heap ∷ []) mid stable end (omega arith) (stable_next (Ok (stable, end)) second))
              ∙ half_read;
          length_is = omega (arith, length-append (files ++ heap ∷ []) (stable ∷ []), longer);
          last_is = sym (last_id-push (files ++ heap ∷ []) stable ∙ again);
          total_is = sym (all_sizes-push (files ++ heap ∷ []) stable ∙ ap (λ (t : ℕ). t + stable.size) (all_sizes-push files heap ∙ ap (λ (t : ℕ). t + heap.size) (sym read.total_is)));
          small = fits;
          short = all_push Short (files ++ heap ∷ []) stable (all_push Short files heap read.short short_heap) short_stable;
        }

-- ---- the last row

module _ (v count pairs : ℕ) (files : List FileRow) (last : Option Bytes) (total : ℕ) (start now : Cursor) (read : ReadSoFar v count pairs files last total start now) (odd : count % 2 ≡ 1) (all : count / 2 ≤ pairs) (within : pairs ≤ count / 2) where
  system_next : (r : Result (FileRow × Cursor) ℕ) → system_row now ≡ r → file_after v count files now ≡ r
  system_next r e = let len = read.length_is in ap (λ (m : Reading FileRow). m now) (at_system v count files (omega arith)) ∙ e

  pub system_stops : (e : FieldError) → Fails e (system_row now) → Fails e (each (file_after v count) count [] start)
  system_stops e failed =
      let len = read.length_is in
      stops e (file_after v count) count (2 * pairs) files now (each (file_after v count) count [] start) (omega arith)
      (subst (Fails e) (sym (system_next (system_row now) refl)) failed) read.so_far

  pub all_read : (system : FileRow) (end : Cursor) → system_row now ≡ Ok (system, end) → each (file_after v count) count [] start ≡ Ok (files ++ system ∷ [], end)
  all_read system end e =
      let len = read.length_is in
      sym read.so_far ∙ each_more (file_after v count) count (2 * pairs) files now system end (omega arith) (system_next (Ok (system, end)) e)
      ∙ each_ends (file_after v count) count (2 * pairs + 1) (files ++ system ∷ []) end (omega arith)
