-- Removing all files of a kind but those of some numbers.
use Rattle.std.specs.Prelude.{◌≡◌, ℕ, Bool, true, false, not, nat_eq, List, [], Option, None, Some, is_some, IsTrue, OnOk, Result, Ok, Err, refl}
use Rattle.std.specs.List.{list_any, AllByRecursion}
use Rattle.std.proofs.Common.{sym, ◌∙◌, ap, subst, arith, inl, inr}
use Rattle.std.proofs.lemmas.Bool.{cases_Bool, false≢true}
use Rattle.format_spec.specs.Bytes.{Bytes}
use Rattle.format_spec.proofs.Lists.{and_false}
use Rattle.disk_model.specs.declared.disk.Disk.{Ghosts}
use Rattle.disk_model.specs.declared.disk.DiskError.{DiskError}
use Rattle.disk_model.specs.declared.name.Kind.{Kind}
use Rattle.disk_model.specs.declared.name.Kind.TheVariants as kind
use Rattle.disk_model.specs.declared.name.Name.{Name}
use Rattle.disk_model.specs.declared.name.Name.TheVariants.{Page, Mark, Draft, Stage}
use Rattle.disk_model.specs.Files.{IsListing, name_of, number_in}
use Rattle.disk_model.specs.State.{DiskState, IsSettled}
use Rattle.disk_model.specs.View.{DiskView, LooksOrNot, HasCause}
use Rattle.disk_model.specs.Frame.{TouchesOnly}
use Rattle.disk_model.specs.OnlyReads.{OnlyReads, reads_only_call, reads_only_touch}
use Rattle.disk_model.specs.Writing.{Writes, WritesOnly}
use Rattle.height_store.specs.Found.{is_number_other, is_other_of, is_other}
use Rattle.height_store.specs.Opened.{is_number_swept, is_swept}
use Rattle.height_store.proofs.Strays.{are_there}
use Rattle.height_store.proofs.Swept.{AreGone, not_swept}

-- ---- a call that only looks

looks_only : {T E : Type 0} (result : Result T E) (given : Name → Bool) (old new : DiskView) → OnlyReads 0 old new → WritesOnly given 0 result old new
looks_only (Ok x) given old new reads_only = record {
  touches = reads_only_touch 0 given old new reads_only;
  settles = subst IsSettled (sym reads_only.state);
  appended = omega (arith, reads_only.appended);
  least = omega (arith, reads_only.appended);
  most = omega (arith, reads_only.appended);
  read = omega (arith, reads_only.read_least, reads_only.read_most);
}
looks_only (Err e) given old new reads_only = record {
  touches = reads_only_touch 0 given old new reads_only;
  settles = tt;
  appended = tt;
  least = omega (arith, reads_only.appended);
  most = omega (arith, reads_only.appended);
  read = omega (arith, reads_only.read_least, reads_only.read_most);
}

pub list_writes : {D T : Type 0} (disk : Ghosts D) (result : Result T DiskError) (given : Name → Bool) (old new : D) → (IsTrue disk.tells → LooksOrNot 0 result (disk.view old) (disk.view new)) → HasCause (disk.faults old) (disk.faults new) result
    → Writes disk given 0 old new result
list_writes disk result given old new looks cause = record {
  cause = record { never_falls = cause.never_falls; fault = cause.fault };
  only = λ told. looks_only result given (disk.view old) (disk.view new) (reads_only_call 0 result (disk.view old) (disk.view new) (looks told));
}

-- ---- one kind

within_number : (numbers keep : List ℕ) (o : Option ℕ) → is_number_other keep o ≡ false → is_number_swept numbers keep o ≡ false
within_number numbers keep None apart = refl
within_number numbers keep (Some n) apart = and_false (list_any (nat_eq n) numbers) _ apart

pub kind_within : (k : Kind) (numbers keep : List ℕ) (q : Name) → is_other_of k keep q ≡ false → is_swept k numbers keep q ≡ false
kind_within k numbers keep q apart = within_number numbers keep (number_in k q) apart

none_there : (x : Option Bytes) → is_some x ≡ false → x ≡ None
none_there None none = refl
none_there (Some text) none = absurd (false≢true (sym none))

-- those that were listed are gone, and there are no others
pub kind_gone : {T E : Type 0} (result : Result T E) (k : Kind) (keep numbers given : List ℕ) (old listed new : DiskView) → given ≡ numbers → OnlyReads 0 old listed → IsListing k old.state.files numbers
    → TouchesOnly (is_swept k given keep) listed new → OnOk result (AreGone k given keep new) → OnOk result ((n : ℕ) → list_any (nat_eq n) keep ≡ false → new.state.files (name_of k n) ≡ None)
kind_gone (Err e) k keep numbers given old listed new same reads_only listing touches gone = tt
kind_gone (Ok x) k keep numbers given old listed new same reads_only listing touches gone = λ n free. elim (cases_Bool (list_any (nat_eq n) given)) [
  | inl some ↦ gone n some free
  | inr none ↦ touches.reads (name_of k n) (not_swept k n given keep none) ∙ ap (λ (s : DiskState). s.files (name_of k n)) reads_only.state
      ∙ none_there (old.state.files (name_of k n)) (sym (listing.each n) ∙ ap (list_any (nat_eq n)) (sym same) ∙ none)
]

-- the files of a list are there, and go on to be where a call only looks
pub still_listed : (k : Kind) (numbers given : List ℕ) (old listed : DiskView) → given ≡ numbers → OnlyReads 0 old listed → IsListing k old.state.files numbers → AllByRecursion (λ n. is_some (listed.state.files (name_of k n)) ≡ true) given
still_listed k numbers given old listed same reads_only listing = subst (AllByRecursion (λ n. is_some (listed.state.files (name_of k n)) ≡ true)) (sym same)
    (subst (λ (s : DiskState). AllByRecursion (λ n. is_some (s.files (name_of k n)) ≡ true) numbers) (sym reads_only.state) (are_there k old.state.files numbers listing))

-- ---- the three kinds

pub pages_apart : (pages stages : List ℕ) (q : Name) → is_other pages stages q ≡ false → is_other_of kind.Page pages q ≡ false
pages_apart pages stages (Page n) apart = apart
pages_apart pages stages (Mark n) apart = refl
pages_apart pages stages (Draft n) apart = refl
pages_apart pages stages (Stage n) apart = refl

pub drafts_apart : (pages stages : List ℕ) (q : Name) → is_other pages stages q ≡ false → is_other_of kind.Draft [] q ≡ false
drafts_apart pages stages (Page n) apart = refl
drafts_apart pages stages (Mark n) apart = refl
drafts_apart pages stages (Draft n) apart = apart
drafts_apart pages stages (Stage n) apart = refl

pub stages_apart : (pages stages : List ℕ) (q : Name) → is_other pages stages q ≡ false → is_other_of kind.Stage stages q ≡ false
stages_apart pages stages (Page n) apart = refl
stages_apart pages stages (Mark n) apart = refl
stages_apart pages stages (Draft n) apart = refl
stages_apart pages stages (Stage n) apart = apart

not_among : (b : Bool) → not b ≡ true → b ≡ false
not_among true h = absurd (false≢true h)
not_among false h = refl

-- the files of this kind are gone but for these
abbrev pub AreOthersGone : Kind → List ℕ → DiskView → Type 0
AreOthersGone k keep v = (n : ℕ) → list_any (nat_eq n) keep ≡ false → v.state.files (name_of k n) ≡ None

pub others_gone : {T E : Type 0} (result : Result T E) (pages stages : List ℕ) (first second third : DiskView) → AreOthersGone kind.Page pages first → AreOthersGone kind.Draft [] second → OnOk result (AreOthersGone kind.Stage stages third)
    → TouchesOnly (is_other_of kind.Draft []) first second → TouchesOnly (is_other_of kind.Stage stages) second third → OnOk result ((q : Name) → is_other pages stages q ≡ true → third.state.files q ≡ None)
others_gone (Err e) pages stages first second third no_page no_draft no_stage drafts staged = tt
others_gone (Ok x) pages stages first second third no_page no_draft no_stage drafts staged = gone
  where
    gone : (q : Name) → is_other pages stages q ≡ true → third.state.files q ≡ None
    gone (Page n) other = staged.reads (Page n) refl ∙ drafts.reads (Page n) refl ∙ no_page n (not_among (list_any (nat_eq n) pages) other)
    gone (Mark n) other = absurd (false≢true other)
    gone (Draft n) other = staged.reads (Draft n) refl ∙ no_draft n refl
    gone (Stage n) other = no_stage n (not_among (list_any (nat_eq n) stages) other)
