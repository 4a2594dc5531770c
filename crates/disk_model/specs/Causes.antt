-- Why calls fail that stand on a disk.
use Rattle.std.specs.Prelude.{◌≡◌, ◌⊎◌, ℕ, ◌≤◌, Result, IfErr, IsErrOf}
use Rattle.std.proofs.Common.{arith}
use Rattle.disk_model.specs.declared.disk.Disk.{Ghosts}
use Rattle.disk_model.specs.declared.disk.DiskError.{DiskError}
use Rattle.disk_model.specs.declared.disk.DiskError.TheVariants.{Fault}
use Rattle.disk_model.specs.Call.{count_after}

-- a count of faults has risen, or stands at the top of a `u64`
abbrev pub Rose : ℕ → ℕ → Type 0
Rose old new = count_after old 1 ≤ new

-- The disk's count of faults never falls, and rose where the call answers `Fault`.
pub record Fails {D T : Type 0} (disk : Ghosts D) (old new : D) (result : Result T DiskError) : Type 0 where
  pub never_falls : disk.faults old ≤ disk.faults new
  pub fault : IsErrOf result Fault → Rose (disk.faults old) (disk.faults new)

-- the error is one of the disk
abbrev pub IsOfDisk : {E : Type 0} → (DiskError → E) → E → Type 0
IsOfDisk of_disk e = (d : DiskError) × (e ≡ of_disk d)

-- The same of a call whose errors are more than the disk's: any other one is refused for the reason that `Refuses` gives.
pub record FailsFor {D T E : Type 0} (disk : Ghosts D) (of_disk : DiskError → E) (Refuses : E → Type 0) (old new : D) (result : Result T E) : Type 0 where
  pub never_falls : disk.faults old ≤ disk.faults new
  pub fault : IsErrOf result (of_disk Fault) → Rose (disk.faults old) (disk.faults new)
  pub only : IfErr result (λ e. IsOfDisk of_disk e ⊎ Refuses e)

-- a call that refuses with this error alone, where this holds
abbrev pub OnlyIf : {E : Type 0} → E → Type 0 → E → Type 0
OnlyIf refusal P e = (e ≡ refusal) × P

-- ---- laws

-- what failed since a later moment
pub fails_later : {D T : Type 0} (disk : Ghosts D) (result : Result T DiskError) (old mid new : D) → disk.faults old ≤ disk.faults mid → Fails disk mid new result → Fails disk old new result
fails_later disk result old mid new le fails = record { never_falls = omega (arith, fails.never_falls); fault = λ fault. omega (arith, fails.fault fault) }
