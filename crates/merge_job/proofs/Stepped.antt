-- What the calls of a merge leave.
use Rattle.std.proofs.Common.{inl, inr, ◌⊎◌, ◌≡◌, ℕ, ◌+◌, ◌-◌, ◌*◌, ◌<◌, ◌≤◌, ◌==◌, ◌||◌, min, Bool, true, false, List, [], ◌∷◌, ◌++◌, length, take, drop, reverse, Option, is_some, Result, Ok, Err, refl, sym, ◌∙◌, ap, subst, arith}
use Rattle.std.specs.Prelude.{IsErrAnd, IsErrOf}
use Rattle.std.proofs.lemmas.Bool.{cases_Bool, eqb-true}
use Rattle.std.proofs.lemmas.List.{length-take, length-drop}
use Rattle.std.proofs.lemmas.Grind.{flat_map-append}
use Rattle.std.proofs.Math.Seq.{take-add}
use Rattle.std.specs.List.{AllByRecursion, list_any}
use Rattle.format_spec.specs.Bytes.{Bytes}
use Rattle.format_spec.specs.declared.limits.TheConstants.{MAX_MEMORY_PAGES, PAGE_SIZE, STEP_PAGES}
use Rattle.page_spec.specs.PageFile.{PageIndex}
use Rattle.page_spec.specs.Layers.{Layer, page_from}
use Rattle.disk_model.specs.declared.disk.Disk.{Ghosts}
use Rattle.disk_model.specs.declared.disk.DiskError.{DiskError}
use Rattle.disk_model.specs.declared.disk.DiskError.TheVariants.{Fault, Memory}
use Rattle.disk_model.specs.declared.name.Name.{Name}
use Rattle.disk_model.specs.declared.name.Name.TheVariants.{Page}
use Rattle.disk_model.specs.Files.{Files, same_name}
use Rattle.disk_model.specs.State.{DiskState, IsLoose, IsAbsent, IsSettled}
use Rattle.disk_model.specs.View.{DiskView}
use Rattle.disk_model.specs.OnlyReads.{OnlyReads, reads_only_touch}
use Rattle.disk_model.specs.Frame.{Needs, SameAt, TouchesOnly, touches_then}
use Rattle.disk_model.specs.Writing.{Writes, WritesOnly}
use Rattle.disk_model.specs.Laws.{same_name_refl}
use Rattle.page_file.specs.Files.{NumberedFile, UnfinishedFile, IsAsKnown, IsWriting, length_added}
use Rattle.layer_stack.specs.Stacks.{AreLayers, pages_in, pages_from}
use Rattle.layer_stack.specs.Laws.{layers_in_others, kept_have_layers, layers_are_kept}
use Rattle.merge_job.specs.Merge.{Merge, IsOn, IsMerge, IsMergeOf, Copies, is_of_merge, merged_index, step_pages, stepped, steps_left}
use Rattle.merge_job.proofs.Chosen.{few_merged}

-- ---- files that are read

abbrev pub AreApart : ℕ → List NumberedFile → Type 0
AreApart n read = AllByRecursion (λ file. same_name (Page n) (Page file.number) ≡ false) read

abbrev SameFiles : List NumberedFile → Files → Files → Type 0
SameFiles read f g = AllByRecursion (λ file. g (Page file.number) ≡ f (Page file.number)) read

same_apart : (n : ℕ) (old new : DiskView) (read : List NumberedFile) → AreApart n read → TouchesOnly (same_name (Page n)) old new → SameFiles read old.state.files new.state.files
same_apart n old new [] apart touches = tt
same_apart n old new (file ∷ read) apart touches = (touches.reads (Page file.number) apart.0, same_apart n old new read apart.1 touches)

same_back : (f g : Files) (read : List NumberedFile) → SameFiles read f g → SameFiles read g f
same_back f g [] same = tt
same_back f g (file ∷ read) same = (sym same.0, same_back f g read same.1)

known_kept : (f g : Files) (read : List NumberedFile) → SameFiles read f g → AllByRecursion (IsAsKnown f) read → AllByRecursion (IsAsKnown g) read
known_kept f g read same known = let found = kept_have_layers f read known in layers_are_kept g read found.0 (layers_in_others f g read found.0 same found.1)

pub known_later : (n : ℕ) (old new : DiskView) (read : List NumberedFile) → AreApart n read → TouchesOnly (same_name (Page n)) old new → AllByRecursion (IsAsKnown old.state.files) read → AllByRecursion (IsAsKnown new.state.files) read
known_later n old new read apart touches known = known_kept old.state.files new.state.files read (same_apart n old new read apart touches) known

layers_before : (n : ℕ) (old new : DiskView) (read : List NumberedFile) (layers : List Layer) → AreApart n read → TouchesOnly (same_name (Page n)) old new → AreLayers new.state.files read layers → AreLayers old.state.files read layers
layers_before n old new read layers apart touches are = layers_in_others new.state.files old.state.files read layers (same_back old.state.files new.state.files read (same_apart n old new read apart touches)) are

pub own_loose : (merge : Merge) (s : DiskState) → IsOn merge s → IsLoose s (Page merge.writer.number)
own_loose merge s on = let found = kept_have_layers s.files merge.read on.known in (on.written found.0 found.1).loose

-- ---- the begin

-- a file that isn't there is none of those that are
apart_of_absent : (s : DiskState) (n : ℕ) (read : List NumberedFile) → AllByRecursion (IsAsKnown s.files) read → IsAbsent s (Page n) → AreApart n read
apart_of_absent s n [] known absent = tt
apart_of_absent s n (file ∷ read) known absent = (apart, apart_of_absent s n read known.1 absent)
  where
    apart : same_name (Page n) (Page file.number) ≡ false
    apart = elim (cases_Bool (same_name (Page n) (Page file.number))) [
      | inl hit ↦ absurd (let e : true ≡ false = sym (ap (λ (o : Option Bytes). is_some o) (ap (λ (k : ℕ). s.files (Page k)) (eqb-true n file.number hit) ∙ known.0.1.there)) ∙ absent in cc)
      | inr miss ↦ miss
    ]

pub begin_on : (read : List NumberedFile) (from number : ℕ) (writer : UnfinishedFile) (old new : DiskView) → writer.number ≡ number → writer.added ≡ 0 → IsWriting writer [] new.state → TouchesOnly (same_name (Page number)) old new → IsAbsent old.state (Page number)
    → AllByRecursion (IsAsKnown old.state.files) read → IsOn (record { read = read; from = from; writer = writer }) new.state
begin_on read from number writer old new named none begun touches absent known =
    let apart = apart_of_absent old.state number read known absent in record {
      known = known_later number old new read apart touches known;
      apart = subst (λ n. AreApart n read) (sym named) apart;
      written = λ layers are. subst (λ (n : ℕ). IsWriting writer (pages_from layers (take n writer.index.numbers)) new.state) (sym none) begun;
    }

-- a file that was to be begun isn't there, or it is loose
pub absent_or_loose : {T : Type 0} (r : Result T DiskError) (e : DiskError) (n : ℕ) (old new : DiskView) → r ≡ Err e → IsAbsent old.state (Page n) → (IsErrOf r Fault → new.state.loose (Page n) ≡ true) → (IsErrOf r Memory → new ≡ old)
    → IsAbsent new.state (Page n) ⊎ new.state.loose (Page n) ≡ true
absent_or_loose (Ok x) e n old new err absent loose same = absurd cc
absent_or_loose (Err Fault) e n old new err absent loose same = inr (loose refl)
absent_or_loose (Err Memory) e n old new err absent loose same = inl (ap (λ (v : DiskView). is_some (v.state.files (Page n))) (same refl) ∙ absent)

-- ---- a step

pub touches_own : (most number : ℕ) (old mid new : DiskView) → OnlyReads most old mid → TouchesOnly (same_name (Page number)) mid new → TouchesOnly (same_name (Page number)) old new
touches_own most number old mid new reads_only touches = touches_then (same_name (Page number)) old mid new (reads_only_touch most (same_name (Page number)) old mid reads_only) touches

module _ (read : List NumberedFile) (from count most : ℕ) (writer after : UnfinishedFile) (old mid new : DiskView) (reads_only : OnlyReads most old mid) (touches : TouchesOnly (same_name (Page writer.number)) mid new)
    (is : after ≡ record writer { added = writer.added + count }) where
  pub step_on : (slice : List ℕ) (bytes : Bytes) → IsOn (record { read = read; from = from; writer = writer }) old.state → slice ≡ take count (drop writer.added writer.index.numbers)
      → ((layers : List Layer) → AreLayers old.state.files read layers → bytes ≡ pages_from layers slice)
      → ((before : Bytes) → IsWriting writer before mid.state → IsWriting after (before ++ bytes) new.state) → IsOn (record { read = read; from = from; writer = after }) new.state
  step_on slice bytes on sliced reads adds = record {
    known = known_later writer.number old new read on.apart (touches_own most writer.number old mid new reads_only touches) on.known;
    apart = subst (λ (w : UnfinishedFile). AreApart w.number read) (sym is) on.apart;
    written = λ layers are.
        let earlier = layers_before writer.number old new read layers on.apart (touches_own most writer.number old mid new reads_only touches) are in
        let numbers = writer.index.numbers in
        let both : pages_from layers (take writer.added numbers) ++ bytes ≡ pages_from layers (take (writer.added + count) numbers) =
        ap (λ (b : Bytes). pages_from layers (take writer.added numbers) ++ b) (reads layers earlier ∙ ap (pages_from layers) sliced)
        ∙ sym (flat_map-append (page_from (reverse layers)) (take writer.added numbers) (take count (drop writer.added numbers)))
        ∙ ap (pages_from layers) (sym (take-add writer.added count numbers)) in
        subst (λ (b : Bytes). IsWriting after b new.state) (both ∙ ap (λ (w : UnfinishedFile). pages_from layers (take w.added w.index.numbers)) (sym is))
        (adds (pages_from layers (take writer.added numbers)) (subst (IsWriting writer (pages_from layers (take writer.added numbers))) (sym reads_only.state) (on.written layers earlier)));
  }

-- the writer was called behind what was read
pub copied : {S T : Type 0} (before : Result S DiskError) (x : S) (y : T) (n k most count written : ℕ) (old mid new : DiskView) → before ≡ Ok x → n ≡ k → most ≡ count → written ≡ count → OnlyReads most old mid → WritesOnly (same_name (Page n)) written before mid new
    → Copies {T = T} (same_name (Page k)) count (Ok y) old new
copied (Err e) x y n k most count written old mid new was own reads is reads_only writes = absurd cc
copied (Ok z) x y n k most count written old mid new was own reads is reads_only writes = record {
  touches = subst (λ i. TouchesOnly (same_name (Page i)) old new) own (touches_own most n old mid new reads_only writes.touches);
  settles = λ settled. writes.settles (subst (λ s. IsSettled s) (sym reads_only.state) settled);
  appended = omega (arith, writes.appended, reads_only.appended, is);
  least = omega (arith, writes.least, reads_only.appended);
  most = omega (arith, writes.most, reads_only.appended, is);
  read_least = omega (arith, writes.read, reads_only.read_least);
  read_most = omega (arith, writes.read, reads_only.read_most, reads);
}

pub copied_failed : {S T : Type 0} (before : Result S DiskError) (failed : Result T DiskError) (e : DiskError) (n k most count written : ℕ) (old mid new : DiskView) → IsErrAnd failed (λ x. x ≡ e) → n ≡ k → most ≡ count → written ≡ count → OnlyReads most old mid
    → WritesOnly (same_name (Page n)) written before mid new → Copies (same_name (Page k)) count failed old new
copied_failed before (Ok x) e n k most count written old mid new err own reads is reads_only writes = absurd err
copied_failed before (Err x) e n k most count written old mid new err own reads is reads_only writes = record {
  touches = subst (λ i. TouchesOnly (same_name (Page i)) old new) own (touches_own most n old mid new reads_only writes.touches);
  settles = tt;
  appended = tt;
  least = omega (arith, writes.least, reads_only.appended);
  most = omega (arith, writes.most, reads_only.appended, is);
  read_least = omega (arith, writes.read, reads_only.read_least);
  read_most = omega (arith, writes.read, reads_only.read_most, reads);
}

-- nothing was written
pub copied_none : {T : Type 0} (failed : Result T DiskError) (e : DiskError) (n most count : ℕ) (old new : DiskView) → IsErrAnd failed (λ x. x ≡ e) → most ≡ count → OnlyReads most old new → Copies (same_name (Page n)) count failed old new
copied_none (Ok x) e n most count old new err reads reads_only = absurd err
copied_none (Err x) e n most count old new err reads reads_only = record {
  touches = reads_only_touch most (same_name (Page n)) old new reads_only;
  settles = tt;
  appended = tt;
  least = omega (arith, reads_only.appended);
  most = omega (arith, reads_only.appended);
  read_least = reads_only.read_least;
  read_most = omega (arith, reads_only.read_most, reads);
}

pub few_pages : (merge : Merge) (pages : List ℕ) → IsMerge merge → pages ≡ merge.writer.index.numbers → length pages ≤ MAX_MEMORY_PAGES
few_pages merge pages good all =
    omega (arith, ap (λ (l : List ℕ). length l) all, ap (λ (i : PageIndex). length i.numbers) good.merged, few_merged merge.writer.index.memory (merge.from == 0) (pages_in merge.read), good.good.memory_fits)

-- the index is written, so a step adds its pages alone
pub pages_alone : (writer : UnfinishedFile) (count : ℕ) → writer.alone ≡ true → length_added writer count ≡ PAGE_SIZE * count
pages_alone writer count alone = rw alone refl

-- ---- laws

-- over the same files the same is written
pub written_once : (merge : Merge) (s t : DiskState) → SameFiles merge.read s.files t.files → IsOn merge s → IsOn merge t → t.files (Page merge.writer.number) ≡ s.files (Page merge.writer.number)
written_once merge s t same on other =
    let found = kept_have_layers s.files merge.read on.known in
    (other.written found.0 (layers_in_others s.files t.files merge.read found.0 same found.1)).file ∙ sym (on.written found.0 found.1).file

or_true : (a b : Bool) → b ≡ true → (a || b) ≡ true
or_true true b e = refl
or_true false b e = e

same_read : (read : List NumberedFile) (f g : Files) → ((q : Name) → list_any (λ file. same_name (Page file.number) q) read ≡ true → g q ≡ f q) → SameFiles read f g
same_read [] f g same = tt
same_read (file ∷ read) f g same = (same (Page file.number) (rw (same_name_refl (Page file.number)) refl), same_read read f g (λ q named. same q (or_true (same_name (Page file.number) q) _ named)))

pub merge_needs : (merge : Merge) → Needs (is_of_merge merge) (IsOn merge)
merge_needs merge = record { carries = λ s t same on. by s t same on }
  where
    own : is_of_merge merge (Page merge.writer.number) ≡ true
    own = rw (same_name_refl (Page merge.writer.number)) refl

    by : (s t : DiskState) → SameAt (is_of_merge merge) s t → IsOn merge s → IsOn merge t
    by s t same on =
        let read : SameFiles merge.read s.files t.files = same_read merge.read s.files t.files (λ q named. same.files q (or_true (same_name (Page merge.writer.number) q) _ named)) in record {
          known = known_kept s.files t.files merge.read read on.known;
          apart = on.apart;
          written = λ layers are.
              let was = on.written layers (layers_in_others t.files s.files merge.read layers (same_back s.files t.files merge.read read) are) in record {
                loose = same.loose (Page merge.writer.number) own was.loose;
                file = same.files (Page merge.writer.number) own ∙ was.file;
                count = was.count;
              };
        }

pub one_less : (merge : Merge) → 1 < steps_left merge → steps_left (stepped merge) + 1 ≡ steps_left merge
one_less merge more = omega (arith, more)

-- ---- the writer of a merge

pub begun_index : (writer : UnfinishedFile) (number memory from : ℕ) (index : PageIndex) (pages : List ℕ) (read : List NumberedFile) → writer ≡ record { number = number; index = index; alone = false; added = 0 }
    → index ≡ record { memory = memory; numbers = pages } → pages ≡ (merged_index memory from read).numbers → writer.index ≡ merged_index memory from read
begun_index writer number memory from index pages read is made are = ap (λ (w : UnfinishedFile). w.index) is ∙ made ∙ ap (λ (l : List ℕ). record { memory = memory; numbers = l }) are

-- a call on the file of a writer
pub of_file : {D T : Type 0} (disk : Ghosts D) (result : Result T DiskError) (count n m : ℕ) (old new : D) → n ≡ m → Writes disk (same_name (Page n)) count old new result → Writes disk (same_name (Page m)) count old new result
of_file disk result count n m old new is writes = subst (λ k. Writes disk (same_name (Page k)) count old new result) is writes

-- how many pages a step writes
pub step_count : (merge : Merge) (pages : List ℕ) (added count len : ℕ) → IsMergeOf merge pages → added ≡ merge.writer.added → len ≡ length pages → count ≡ min (len - added) STEP_PAGES → count ≡ step_pages merge
step_count merge pages added count len is at long least = omega (arith, at, long, least, ap (λ (l : List ℕ). length l) is.all)

pub slice_count : (pages items : List ℕ) (added count : ℕ) → items ≡ pages → added + count ≤ length pages → length (take (added + count - added) (drop added items)) ≡ count
slice_count pages items added count same fits = omega (arith, fits, ap (λ (l : List ℕ). length l) same, length-take (added + count - added) (drop added items), length-drop added items)
