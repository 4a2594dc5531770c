-- What a disk tells, and what its calls change of that.
use Rattle.std.specs.Prelude.{◌≡◌, ◌⊎◌, ℕ, ◌+◌, ◌≤◌, List, [], ◌∷◌, ◌++◌, length, drop, Result, Ok, Err, IsErrOf, ⊤}
use Rattle.disk_model.specs.declared.disk.DiskError.{DiskError}
use Rattle.disk_model.specs.declared.disk.DiskError.TheVariants.{Fault, Memory}
use Rattle.disk_model.specs.Files.{Files}
use Rattle.disk_model.specs.State.{DiskState, IsImageNow}
use Rattle.disk_model.specs.Call.{Call, under_way, done, HasFailed, length_given, count_after, appended_after}

pub record DiskView : Type 0 where
  pub state : DiskState
  -- the disk in the middle of each call so far, but of those that wanted memory; its length is the clock
  pub past : List DiskState
  pub appended : ℕ
  pub bytes_read : ℕ

-- the moment, as a number that doesn't fall
abbrev pub moment : DiskView → ℕ
moment v = length v.past

abbrev pub IsImageOfOne : List DiskState → Files → Type 0
IsImageOfOne [] image = ⊥
IsImageOfOne (s ∷ states) image = IsImageNow s image ⊎ IsImageOfOne states image

-- a crash at some moment from t to now may have left these files, in the middle of a call or between two
abbrev pub IsImageSince : DiskView → ℕ → Files → Type 0
IsImageSince v t image = IsImageNow v.state image ⊎ IsImageOfOne (drop t v.past) image

abbrev pub EachImage : DiskState → (Files → Type 0) → Type 0
EachImage s P = (image : Files) → IsImageNow s image → P image

abbrev pub EachImageOf : List DiskState → (Files → Type 0) → Type 0
EachImageOf [] P = ⊤
EachImageOf (s ∷ states) P = EachImage s P × EachImageOf states P

-- A crash at any moment since old leaves files of which P holds.
pub record LeavesOnly (old new : DiskView) (P : Files → Type 0) : Type 0 where
  pub since : List DiskState
  pub grows : new.past ≡ old.past ++ since
  pub each : EachImageOf since P
  pub now : EachImage new.state P

pub record Done (call : Call) (old new : DiskView) : Type 0 where
  pub state : new.state ≡ done call old.state
  pub past : new.past ≡ old.past ++ under_way call old.state ∷ []
  pub appended : new.appended ≡ appended_after call old.appended
  pub bytes_read : new.bytes_read ≡ old.bytes_read

pub record Failed (call : Call) (old new : DiskView) : Type 0 where
  pub state : HasFailed call old.state new.state
  pub past : new.past ≡ old.past ++ under_way call old.state ∷ []
  pub appended_least : old.appended ≤ new.appended
  pub appended_most : new.appended ≤ old.appended + length_given call
  pub bytes_read : new.bytes_read ≡ old.bytes_read

-- what a call leaves, by its answer; want of memory leaves the disk as it was
abbrev pub Does : {T : Type 0} → Call → Result T DiskError → DiskView → DiskView → Type 0
Does call (Ok x) old new = Done call old new
Does call (Err Fault) old new = Failed call old new
Does call (Err Memory) old new = new ≡ old

-- a call that changes nothing but the clock and the bytes read, which rise by so many at most
pub record Looks (most : ℕ) (old new : DiskView) : Type 0 where
  pub state : new.state ≡ old.state
  pub past : new.past ≡ old.past ++ old.state ∷ []
  pub appended : new.appended ≡ old.appended
  pub read_least : old.bytes_read ≤ new.bytes_read
  pub read_most : new.bytes_read ≤ old.bytes_read + most

abbrev pub LooksOrNot : {T : Type 0} → ℕ → Result T DiskError → DiskView → DiskView → Type 0
LooksOrNot most (Err Memory) old new = new ≡ old
LooksOrNot most _ old new = Looks most old new

-- `Fault` comes only where the count of faults rose, or stands at the top of a `u64`
pub record HasCause {T : Type 0} (old new : ℕ) (result : Result T DiskError) : Type 0 where
  pub never_falls : old ≤ new
  pub fault : IsErrOf result Fault → count_after old 1 ≤ new
  pub memory : IsErrOf result Memory → new ≡ old
