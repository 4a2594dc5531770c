-- What calls that write leave of a disk.
use Rattle.std.specs.Prelude.{◌≡◌, ℕ, ◌+◌, ◌≤◌, Bool, false, IsTrue, IsOk, IsErr, IsErrAnd, OnOk, Result, Ok, Err}
use Rattle.std.proofs.Common.{◌∙◌, ap, arith, refl, sym, subst}
use Rattle.std.proofs.lemmas.Bool.{false≢true}
use Rattle.disk_model.specs.declared.disk.Disk.{Ghosts}
use Rattle.disk_model.specs.declared.disk.DiskError.{DiskError}
use Rattle.disk_model.specs.declared.disk.DiskError.TheVariants.{Fault, Memory}
use Rattle.disk_model.specs.declared.name.Name.{Name}
use Rattle.disk_model.specs.State.{IsSettled}
use Rattle.disk_model.specs.Call.{Call, is_given, length_given}
use Rattle.disk_model.specs.View.{DiskView, Does, HasCause}
use Rattle.disk_model.specs.Laws.{IsSound}
use Rattle.disk_model.specs.Frame.{TouchesOnly, touches_none, touches_call, touches_then, touches_wider, done_settles}
use Rattle.disk_model.specs.Spending.{Spends, appended_given}
use Rattle.disk_model.specs.Causes.{Fails, fails_later}

-- What calls leave that are given these names alone: they read nothing, and append so many bytes; or at most so many where the last one
-- failed. Where all were done, nothing is pending that wasn't before.
pub record WritesOnly {T E : Type 0} (given : Name → Bool) (count : ℕ) (result : Result T E) (old new : DiskView) : Type 0 where
  pub touches : TouchesOnly given old new
  pub settles : OnOk result (IsSettled old.state → IsSettled new.state)
  pub appended : OnOk result (new.appended ≡ old.appended + count)
  pub least : old.appended ≤ new.appended
  pub most : new.appended ≤ old.appended + count
  pub read : new.bytes_read ≡ old.bytes_read

-- The frame of a call that writes: that, and why it fails.
pub record Writes {D T : Type 0} (disk : Ghosts D) (given : Name → Bool) (count : ℕ) (old new : D) (result : Result T DiskError) : Type 0 where
  pub cause : Fails disk old new result
  pub only : IsTrue disk.tells → WritesOnly given count result (disk.view old) (disk.view new)

-- ---- by what a disk tells

pub writes_none : {T E : Type 0} (result : Result T E) (given : Name → Bool) (v : DiskView) → WritesOnly given 0 result v v
writes_none (Ok x) given v = record { touches = touches_none given v; settles = λ s. s; appended = omega arith; least = omega arith; most = omega arith; read = refl }
writes_none (Err e) given v = record { touches = touches_none given v; settles = tt; appended = tt; least = omega arith; most = omega arith; read = refl }

-- one call
pub writes_call : {T : Type 0} (call : Call) (result : Result T DiskError) (old new : DiskView) (given : Name → Bool) → ((q : Name) → given q ≡ false → is_given call q ≡ false) → IsSound old.state → Does call result old new
    → WritesOnly given (length_given call) result old new
writes_call call (Ok x) old new given within sound does =
    let appended = does.appended ∙ appended_given call old.appended in
    record { touches = touches_call call (Ok x) old new given within sound does; settles = done_settles call old new does; appended = appended; least = omega arith; most = omega arith; read = does.bytes_read }
writes_call {T} call (Err Fault) old new given within sound does =
    record { touches = touches_call {T = T} call (Err Fault) old new given within sound does; settles = tt; appended = tt; least = does.appended_least; most = does.appended_most; read = does.bytes_read }
writes_call {T} call (Err Memory) old new given within sound does = record {
  touches = touches_call {T = T} call (Err Memory) old new given within sound does;
  settles = tt;
  appended = tt;
  least = omega (arith, ap (λ (v : DiskView). v.appended) does);
  most = omega (arith, ap (λ (v : DiskView). v.appended) does);
  read = ap (λ (v : DiskView). v.bytes_read) does;
}

-- calls that were done, and others behind them
pub writes_then : {S T E F : Type 0} (before : Result S F) (result : Result T E) (given : Name → Bool) (a b : ℕ) (old mid new : DiskView) → IsOk before → WritesOnly given a before old mid → WritesOnly given b result mid new → WritesOnly given (a + b) result old new
writes_then (Err e) result given a b old mid new ok first second = absurd (false≢true ok)
writes_then (Ok x) result given a b old mid new ok first second = record {
  touches = touches_then given old mid new first.touches second.touches;
  settles = settled result second.settles;
  appended = counted result second.appended;
  least = omega arith;
  most = omega (arith, first.appended);
  read = second.read ∙ first.read;
}
  where
    settled : {T E : Type 0} (result : Result T E) → OnOk result (IsSettled mid.state → IsSettled new.state) → OnOk result (IsSettled old.state → IsSettled new.state)
    settled (Ok y) settles = λ s. settles (first.settles s)
    settled (Err e) settles = tt

    counted : {T E : Type 0} (result : Result T E) → OnOk result (new.appended ≡ mid.appended + b) → OnOk result (new.appended ≡ old.appended + (a + b))
    counted (Ok y) is = omega (arith, is, first.appended)
    counted (Err e) is = tt

-- whatever was answered before, a failure leaves at most that
pub writes_failed : {S T E F : Type 0} (result : Result S E) (failed : Result T F) (given : Name → Bool) (a b : ℕ) (old new : DiskView) → IsErr failed → a ≤ b → WritesOnly given a result old new → WritesOnly given b failed old new
writes_failed result (Ok x) given a b old new err le writes = absurd (false≢true err)
writes_failed result (Err e) given a b old new err le writes = record { touches = writes.touches; settles = tt; appended = tt; least = writes.least; most = omega (arith, writes.most); read = writes.read }

-- another value of calls that were done
pub writes_done : {S T E F : Type 0} (result : Result S E) (done : Result T F) (x : S) (y : T) (given : Name → Bool) (count : ℕ) (old new : DiskView) → result ≡ Ok x → done ≡ Ok y → WritesOnly given count result old new → WritesOnly given count done old new
writes_done result (Err e) x y given count old new was is writes = absurd cc
writes_done result (Ok z) x y given count old new was is writes =
    let w = subst (λ r. WritesOnly given count r old new) was writes in
    record { touches = w.touches; settles = w.settles; appended = w.appended; least = w.least; most = w.most; read = w.read }

pub writes_wider : {T E : Type 0} (result : Result T E) (given wider : Name → Bool) (count : ℕ) (old new : DiskView) → ((q : Name) → wider q ≡ false → given q ≡ false) → WritesOnly given count result old new → WritesOnly wider count result old new
writes_wider result given wider count old new within writes = record {
  touches = touches_wider given wider old new within writes.touches;
  settles = writes.settles;
  appended = writes.appended;
  least = writes.least;
  most = writes.most;
  read = writes.read;
}

-- what calls that were done cost
pub writes_spend : {T E : Type 0} (result : Result T E) (given : Name → Bool) (count : ℕ) (old new : DiskView) → WritesOnly given count result old new → OnOk result (Spends count 0 old new)
writes_spend (Ok x) given count old new writes = record { appended = writes.appended; read_least = omega (arith, writes.read); read_most = omega (arith, writes.read) }
writes_spend (Err e) given count old new writes = tt

-- ---- by a disk

-- one call of the disk
pub one_write : {D T : Type 0} (disk : Ghosts D) (call : Call) (result : Result T DiskError) (given : Name → Bool) (old new : D) → ((q : Name) → given q ≡ false → is_given call q ≡ false) → (IsTrue disk.tells → IsSound (disk.view old).state)
    → (IsTrue disk.tells → Does call result (disk.view old) (disk.view new)) → HasCause (disk.faults old) (disk.faults new) result → Writes disk given (length_given call) old new result
one_write disk call result given old new within sound does cause = record {
  cause = record { never_falls = cause.never_falls; fault = cause.fault };
  only = λ told. writes_call call result (disk.view old) (disk.view new) given within (sound told) (does told);
}

-- calls that were done so far
abbrev pub Wrote : {D : Type 0} → Ghosts D → (Name → Bool) → ℕ → D → D → Type 0
Wrote disk given count old new = Writes {T = Unit {0}} disk given count old new (Ok tt)

pub wrote_none : {D : Type 0} (disk : Ghosts D) (given : Name → Bool) (v : D) → Wrote disk given 0 v v
wrote_none disk given v = record {
  cause = record { never_falls = omega arith; fault = λ fault. absurd cc };
  only = λ told. writes_none (Ok tt) given (disk.view v);
}

-- calls that were done, and others behind them
pub write_then : {D S T : Type 0} (disk : Ghosts D) (before : Result S DiskError) (result : Result T DiskError) (given : Name → Bool) (a b count : ℕ) (old mid new : D) → IsOk before → a + b ≡ count → Writes disk given a old mid before
    → Writes disk given b mid new result → Writes disk given count old new result
write_then disk before result given a b count old mid new ok sum first second = record {
  cause = fails_later disk result old mid new first.cause.never_falls second.cause;
  only = λ told. subst (λ n. WritesOnly given n result (disk.view old) (disk.view new)) sum (writes_then before result given a b (disk.view old) (disk.view mid) (disk.view new) ok (first.only told) (second.only told));
}

-- an error that is handed on
pub write_failed : {D S T : Type 0} (disk : Ghosts D) (result : Result S DiskError) (failed : Result T DiskError) (e : DiskError) (given : Name → Bool) (a b : ℕ) (old new : D) → IsErrAnd failed (λ x. x ≡ e) → result ≡ Err e → a ≤ b
    → Writes disk given a old new result → Writes disk given b old new failed
write_failed disk result (Ok x) e given a b old new is was le writes = absurd is
write_failed {S} disk result (Err x) e given a b old new is was le writes = record {
  cause = record { never_falls = writes.cause.never_falls; fault = λ fault. writes.cause.fault (was ∙ ap (λ (d : DiskError). Err d) (sym is ∙ same_error x (Err x) refl fault)) };
  only = λ told. writes_failed result (Err x) given a b (disk.view old) (disk.view new) refl le (writes.only told);
}
  where
    same_error : {T : Type 0} (x : DiskError) (r : Result T DiskError) → r ≡ Err x → r ≡ Err Fault → x ≡ Fault
    same_error x r was is = cc

-- memory ran out behind calls that were answered
pub write_stopped : {D S T : Type 0} (disk : Ghosts D) (result : Result S DiskError) (failed : Result T DiskError) (given : Name → Bool) (a b : ℕ) (old new : D) → IsErrAnd failed (λ x. x ≡ Memory) → a ≤ b → Writes disk given a old new result
    → Writes disk given b old new failed
write_stopped disk result (Ok x) given a b old new is le writes = absurd is
write_stopped disk result (Err x) given a b old new is le writes = record {
  cause = record { never_falls = writes.cause.never_falls; fault = λ fault. absurd (let e : x ≡ Fault = cc in cc) };
  only = λ told. writes_failed result (Err x) given a b (disk.view old) (disk.view new) refl le (writes.only told);
}

-- another value of a call that was done
pub write_done : {D S T : Type 0} (disk : Ghosts D) (result : Result S DiskError) (x : S) (y : T) (given : Name → Bool) (count : ℕ) (old new : D) → result ≡ Ok x → Writes disk given count old new result → Writes disk given count old new (Ok y)
write_done disk result x y given count old new was writes = record {
  cause = record { never_falls = writes.cause.never_falls; fault = λ fault. absurd cc };
  only = λ told. writes_done result (Ok y) x y given count (disk.view old) (disk.view new) was refl (writes.only told);
}

pub write_wider : {D T : Type 0} (disk : Ghosts D) (result : Result T DiskError) (given wider : Name → Bool) (count : ℕ) (old new : D) → ((q : Name) → wider q ≡ false → given q ≡ false) → Writes disk given count old new result
    → Writes disk wider count old new result
write_wider disk result given wider count old new within writes = record {
  cause = writes.cause;
  only = λ told. writes_wider result given wider count (disk.view old) (disk.view new) within (writes.only told);
}
