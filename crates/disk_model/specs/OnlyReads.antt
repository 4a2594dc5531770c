-- Several calls that only look.
use Rattle.std.specs.Prelude.{◌≡◌, ℕ, zero, suc, ◌+◌, ◌≤◌, Bool, List, ◌∷◌, ◌++◌, replicate, Result, Ok, Err}
use Rattle.std.proofs.Common.{sym, ◌∙◌, ap, subst, arith, refl, append_assoc}
use Rattle.std.proofs.lemmas.List.{append-nil}
use Rattle.disk_model.specs.declared.disk.DiskError.{DiskError}
use Rattle.disk_model.specs.declared.disk.DiskError.TheVariants.{Fault, Memory}
use Rattle.disk_model.specs.declared.name.Name.{Name}
use Rattle.disk_model.specs.Files.{Files}
use Rattle.disk_model.specs.State.{DiskState, IsImageNow, IsLoose}
use Rattle.disk_model.specs.View.{DiskView, EachImage, EachImageOf, LeavesOnly, Looks, LooksOrNot}
use Rattle.disk_model.specs.Frame.{TouchesOnly}

-- nothing changes but the clock and the bytes read, which rise by so many at most
pub record OnlyReads (most : ℕ) (old new : DiskView) : Type 0 where
  pub calls : ℕ
  pub state : new.state ≡ old.state
  pub past : new.past ≡ old.past ++ replicate calls old.state
  pub appended : new.appended ≡ old.appended
  pub read_least : old.bytes_read ≤ new.bytes_read
  pub read_most : new.bytes_read ≤ old.bytes_read + most

pub reads_only_none : (most : ℕ) (v : DiskView) → OnlyReads most v v
reads_only_none most v = record {
  calls = 0;
  state = refl;
  past = sym (append-nil v.past);
  appended = refl;
  read_least = omega arith;
  read_most = omega arith;
}

looked : (most : ℕ) (old new : DiskView) → Looks most old new → OnlyReads most old new
looked most old new reads_only = record {
  calls = 1;
  state = reads_only.state;
  past = reads_only.past;
  appended = reads_only.appended;
  read_least = reads_only.read_least;
  read_most = reads_only.read_most;
}

-- one call, whatever it answers
pub reads_only_call : {T : Type 0} (most : ℕ) (result : Result T DiskError) (old new : DiskView) → LooksOrNot most result old new → OnlyReads most old new
reads_only_call most (Ok x) old new reads_only = looked most old new reads_only
reads_only_call most (Err Fault) old new reads_only = looked most old new reads_only
reads_only_call most (Err Memory) old new reads_only = subst (OnlyReads most old) (sym reads_only) (reads_only_none most old)

replicate-append : {X : Type 0} (m n : ℕ) (x : X) → replicate m x ++ replicate n x ≡ replicate (m + n) x
replicate-append zero n x = let e : n ≡ 0 + n = omega arith in ap (λ (k : ℕ). replicate k x) e
replicate-append (suc m) n x =
    let e : suc (m + n) ≡ suc m + n = omega arith in
    ap (λ l. x ∷ l) (replicate-append m n x) ∙ ap (λ (k : ℕ). replicate k x) e

pub reads_only_then : (m n : ℕ) (old mid new : DiskView) → OnlyReads m old mid → OnlyReads n mid new → OnlyReads (m + n) old new
reads_only_then m n old mid new first second = record {
  calls = first.calls + second.calls;
  state = second.state ∙ first.state;
  past = second.past ∙ ap (λ (l : List DiskState). l ++ replicate second.calls mid.state) first.past
      ∙ append_assoc old.past (replicate first.calls old.state) (replicate second.calls mid.state)
      ∙ ap (λ (s : DiskState). old.past ++ (replicate first.calls old.state ++ replicate second.calls s)) first.state
      ∙ ap (λ (l : List DiskState). old.past ++ l) (replicate-append first.calls second.calls old.state);
  appended = second.appended ∙ first.appended;
  read_least = omega arith;
  read_most = omega arith;
}

pub reads_only_more : (m n : ℕ) (old new : DiskView) → m ≤ n → OnlyReads m old new → OnlyReads n old new
reads_only_more m n old new le reads_only = record {
  calls = reads_only.calls;
  state = reads_only.state;
  past = reads_only.past;
  appended = reads_only.appended;
  read_least = reads_only.read_least;
  read_most = omega arith;
}

each_of_same : (n : ℕ) (s : DiskState) (P : Files → Type 0) → EachImage s P → EachImageOf (replicate n s) P
each_of_same zero s P each = tt
each_of_same (suc n) s P each = (each, each_of_same n s P each)

-- each image since they began is one from before
pub reads_only_leave : (most : ℕ) (old new : DiskView) (P : Files → Type 0) → OnlyReads most old new → EachImage old.state P → LeavesOnly old new P
reads_only_leave most old new P reads_only each = record {
  since = replicate reads_only.calls old.state;
  grows = reads_only.past;
  each = each_of_same reads_only.calls old.state P each;
  now = λ image now. each image (subst (λ s. IsImageNow s image) reads_only.state now);
}

-- they touch nothing
pub reads_only_touch : (most : ℕ) (given : Name → Bool) (old new : DiskView) → OnlyReads most old new → TouchesOnly given old new
reads_only_touch most given old new reads_only = record {
  images = reads_only_leave most old new _ reads_only (λ image h. (image, h, λ q _. refl));
  reads = λ q _. ap (λ (s : DiskState). s.files q) reads_only.state;
  firm = λ q _ firm. ap (λ (s : DiskState). s.loose q) reads_only.state ∙ firm;
  loose = λ q _ was. subst (λ (s : DiskState). IsLoose s q) (sym reads_only.state) was;
}
