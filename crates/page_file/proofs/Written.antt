-- What the calls of a writer leave.
use Rattle.std.proofs.Common.{◌≡◌, ℕ, ◌+◌, ◌*◌, ◌≤◌, ◌==◌, ◌||◌, not, Bool, true, false, [], ◌∷◌, ◌++◌, length, unwrap_or, IsTrue, Some, Result, inl, inr, refl, sym, ◌∙◌, ap, subst, arith, length-append, append_assoc}
use Rattle.std.proofs.lemmas.Bool.{cases_Bool, eqb-true, ne_eqb}
use Rattle.format_spec.specs.Bytes.{Bytes}
use Rattle.page_spec.specs.PageFile.{IsIndex, index_text, index_length}
use Rattle.disk_model.specs.declared.disk.Disk.{Ghosts}
use Rattle.disk_model.specs.declared.disk.DiskError.{DiskError}
use Rattle.disk_model.specs.declared.name.Name.{Name}
use Rattle.disk_model.specs.declared.name.Name.TheVariants.{Page}
use Rattle.disk_model.specs.Files.{same_name}
use Rattle.disk_model.specs.State.{DiskState, IsLoose, IsFirm}
use Rattle.disk_model.specs.Call.{Call, append, seal, is_given, length_given}
use Rattle.disk_model.specs.View.{DiskView, Done, Does, HasCause}
use Rattle.disk_model.specs.Laws.{IsSound, or_false, appended_loose, sealed_firm, same_name_refl}
use Rattle.disk_model.specs.Writing.{Writes, one_write}
use Rattle.page_file.specs.Files.{NumberedFile, UnfinishedFile, IsWriting, IsFinished, has_index, text_written, text_added, length_added}
use Rattle.page_spec.proofs.PageFiles.{length-index_text}

-- a call on one page file writes to that file alone
pub page_call : {D T : Type 0} (disk : Ghosts D) (call : Call) (result : Result T DiskError) (n m : ℕ) (old new : D) → n ≡ m → ((q : Name) → same_name (Page n) q ≡ false → is_given call q ≡ false) → (IsTrue disk.tells → IsSound (disk.view old).state)
    → (IsTrue disk.tells → Does call result (disk.view old) (disk.view new)) → HasCause (disk.faults old) (disk.faults new) result → Writes disk (same_name (Page m)) (length_given call) old new result
page_call disk call result n m old new is apart sound does cause =
    subst (λ k. Writes disk (same_name (Page k)) (length_given call) old new result) is (one_write disk call result (same_name (Page n)) old new apart sound does cause)

-- ---- a page more

length-text_added : (writer : UnfinishedFile) (count : ℕ) (pages : Bytes) → length pages ≡ 4096 * count → length (text_added writer pages) ≡ length_added writer count
length-text_added writer count pages long = elim (cases_Bool (has_index writer)) [
  | inl later ↦ rw later long
  | inr first ↦ rw first (omega (arith, length-append (index_text writer.index) pages, length-index_text writer.index, long))
]

pub pages_appended : {D T : Type 0} (disk : Ghosts D) (result : Result T DiskError) (writer : UnfinishedFile) (count : ℕ) (pages : Bytes) (old new : D) → length pages ≡ 4096 * count → (IsTrue disk.tells → IsSound (disk.view old).state)
    → (IsTrue disk.tells → Does (append (Page writer.number) (text_added writer pages)) result (disk.view old) (disk.view new)) → HasCause (disk.faults old) (disk.faults new) result
    → Writes disk (same_name (Page writer.number)) (length_added writer count) old new result
pages_appended disk result writer count pages old new long sound does cause =
    subst (λ n. Writes disk (same_name (Page writer.number)) n old new result) (length-text_added writer count pages long)
    (one_write disk (append (Page writer.number) (text_added writer pages)) result (same_name (Page writer.number)) old new (λ q apart. apart) sound does cause)

none_yet : (pages : Bytes) → length pages ≡ 0 → pages ≡ []
none_yet [] none = refl
none_yet (b ∷ pages) none = absurd (omega (arith, none))

none_added : (writer : UnfinishedFile) → has_index writer ≡ false → writer.added ≡ 0
none_added writer missing = eqb-true writer.added 0 (not_not (writer.added == 0) (or_false writer.alone (not (writer.added == 0)) missing).1)
  where
    not_not : (b : Bool) → not b ≡ false → b ≡ true
    not_not true e = refl
    not_not false e = absurd cc

has_some : (writer : UnfinishedFile) → 1 ≤ writer.added → has_index writer ≡ true
has_some writer some =
    let ne : (writer.added == 0) ≡ false = ne_eqb writer.added 0 (λ e. omega (arith, e, some)) in
    rw ne (or_true writer.alone)
  where
    or_true : (b : Bool) → (b || true) ≡ true
    or_true true = refl
    or_true false = refl

text_more : (writer : UnfinishedFile) (pages page : Bytes) → length pages ≡ 4096 * writer.added → text_written writer pages ++ text_added writer page ≡ index_text writer.index ++ (pages ++ page)
text_more writer pages page count = elim (cases_Bool (has_index writer)) [
  | inl later ↦ rw later (append_assoc (index_text writer.index) pages page)
  | inr first ↦
      let none : pages ≡ [] = none_yet pages (omega (arith, count, none_added writer first)) in
      rw first (ap (λ (l : Bytes). index_text writer.index ++ (l ++ page)) (sym none))
]

indexed_text : (writer : UnfinishedFile) (pages : Bytes) → has_index writer ≡ true → text_written writer pages ≡ index_text writer.index ++ pages
indexed_text writer pages has = rw has refl

all_text : (writer : UnfinishedFile) (pages : Bytes) → 1 ≤ writer.added → text_written writer pages ≡ index_text writer.index ++ pages
all_text writer pages some = indexed_text writer pages (has_some writer some)

pub pages_added : (writer next : UnfinishedFile) (count : ℕ) (pages more : Bytes) (old new : DiskView) → next ≡ record writer { added = writer.added + count } → 1 ≤ count → length more ≡ 4096 * count
    → Done (append (Page writer.number) (text_added writer more)) old new → IsWriting writer pages old.state → IsWriting next (pages ++ more) new.state
pages_added writer next count pages more old new is some long does was = subst (λ (w : UnfinishedFile). IsWriting w (pages ++ more) new.state) (sym is) (record {
  loose = subst (λ s. IsLoose s (Page writer.number)) (sym does.state) (appended_loose old.state (Page writer.number) (text_added writer more));
  file = ap (λ (s : DiskState). s.files (Page writer.number)) does.state ∙ rw (same_name_refl (Page writer.number)) (ap (λ o. Some (unwrap_or o [] ++ text_added writer more)) was.file)
      ∙ ap Some (text_more writer pages more was.count ∙ sym (all_text (record writer { added = writer.added + count }) (pages ++ more) (omega arith)));
  count = omega (arith, length-append pages more, was.count, long);
})

-- the index alone
pub index_written : (writer next : UnfinishedFile) (old new : DiskView) → has_index writer ≡ false → next ≡ record writer { alone = true }
    → Done (append (Page writer.number) (text_added writer [])) old new → IsWriting writer [] old.state → IsWriting next [] new.state
index_written writer next old new missing is does was = subst (λ (w : UnfinishedFile). IsWriting w [] new.state) (sym is) (record {
  loose = subst (λ s. IsLoose s (Page writer.number)) (sym does.state) (appended_loose old.state (Page writer.number) (text_added writer []));
  file = ap (λ (s : DiskState). s.files (Page writer.number)) does.state ∙ rw (same_name_refl (Page writer.number)) (ap (λ o. Some (unwrap_or o [] ++ text_added writer [])) was.file)
      ∙ ap Some (text_more writer [] [] was.count);
  count = was.count;
})

pub index_appended : {D T : Type 0} (disk : Ghosts D) (result : Result T DiskError) (writer : UnfinishedFile) (old new : D) → has_index writer ≡ false → (IsTrue disk.tells → IsSound (disk.view old).state)
    → (IsTrue disk.tells → Does (append (Page writer.number) (text_added writer [])) result (disk.view old) (disk.view new)) → HasCause (disk.faults old) (disk.faults new) result
    → Writes disk (same_name (Page writer.number)) (index_length writer.index) old new result
index_appended disk result writer old new missing sound does cause =
    let long : length_added writer 0 ≡ index_length writer.index = rw missing (omega arith) in
    subst (λ n. Writes disk (same_name (Page writer.number)) n old new result) long (pages_appended disk result writer 0 [] old new refl sound does cause)

-- ---- the seal

sealed_here : (writer : UnfinishedFile) (file : NumberedFile) (pages : Bytes) (old new : DiskView) → Done (seal (Page writer.number)) old new → IsIndex writer.index → writer.added ≡ length writer.index.numbers
    → file ≡ record { number = writer.number; index = writer.index } → IsWriting writer pages old.state → IsFinished file pages new.state
sealed_here writer file pages old new does good all is was = subst (λ file. IsFinished file pages new.state) (sym is) (record {
  firm = subst (λ s. IsFirm s (Page writer.number)) (sym does.state) (sealed_firm old.state (Page writer.number) was.loose);
  there = record {
    text = index_text writer.index ++ pages;
    there = ap (λ (s : DiskState). s.files (Page writer.number)) does.state ∙ was.file ∙ ap Some (all_text writer pages (omega (arith, all, good.some_page)));
    good = record { good = good; spelled = refl; whole = was.count ∙ ap (λ n. 4096 * n) all };
  };
})

pub sealed_pages : (inside writer : UnfinishedFile) (file : NumberedFile) (pages : Bytes) (old new : DiskView) → inside ≡ writer → Done (seal (Page inside.number)) old new → IsIndex inside.index → writer.added ≡ length writer.index.numbers
    → file ≡ record { number = inside.number; index = inside.index } → IsWriting writer pages old.state → IsFinished file pages new.state
sealed_pages inside writer file pages old new same does good all is was = sealed_here inside file pages old new does good
    (subst (λ (w : UnfinishedFile). w.added ≡ length w.index.numbers) (sym same) all) is (subst (λ w. IsWriting w pages old.state) (sym same) was)
