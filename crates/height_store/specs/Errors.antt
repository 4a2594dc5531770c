-- Why a call on the store failed.
use Rattle.std.specs.Prelude.{◌⊎◌, Result, Err}
use Rattle.std.proofs.Common.{inl, inr, subst}
use Rattle.disk_model.specs.Causes.{IsOfDisk}
use Rattle.disk_model.specs.declared.disk.DiskError.{DiskError}
use Rattle.disk_model.specs.declared.disk.DiskError.TheVariants as disk
use Rattle.page_file.specs.declared.error.PageError.{PageError}
use Rattle.page_file.specs.declared.error.PageError.TheVariants as page
use Rattle.height_store.specs.declared.error.StoreError.{StoreError}
use Rattle.height_store.specs.declared.error.StoreError.TheVariants.{BadMark, BadPage, NoHeight, LastHeight, Fault, Memory}

abbrev pub disk_error : DiskError → StoreError
disk_error disk.Fault = Fault
disk_error disk.Memory = Memory

abbrev pub page_error : PageError → StoreError
page_error (page.BadPage n) = BadPage n
page_error page.Fault = Fault
page_error page.Memory = Memory

-- neither a fault nor want of memory ended the call
abbrev pub IsAnswered : {T : Type 0} → Result T StoreError → Type 0
IsAnswered (Err Fault) = ⊥
IsAnswered (Err Memory) = ⊥
IsAnswered result = Unit {0}

-- a mark of the disk is bad
abbrev pub IsBadMark : StoreError → Type 0
IsBadMark (BadMark height) = Unit {0}
IsBadMark e = ⊥

-- a mark or a page file of the disk is bad
abbrev pub IsBadFile : StoreError → Type 0
IsBadFile (BadMark height) = Unit {0}
IsBadFile (BadPage number) = Unit {0}
IsBadFile e = ⊥

-- a height was asked for that isn't there, or may not go
abbrev pub IsBadHeight : StoreError → Type 0
IsBadHeight NoHeight = Unit {0}
IsBadHeight LastHeight = Unit {0}
IsBadHeight e = ⊥

-- ---- laws

of_disk : (d : DiskError) → (IsBadFile (disk_error d) → ⊥) × (IsBadHeight (disk_error d) → ⊥)
of_disk disk.Fault = (λ bad. bad, λ bad. bad)
of_disk disk.Memory = (λ bad. bad, λ bad. bad)

-- An error of the disk or of a bad file asks for no height.
pub not_a_file : (e : StoreError) → IsBadHeight e → IsOfDisk disk_error e ⊎ IsBadFile e → ⊥
not_a_file e bad (inl from) = (of_disk from.0).1 (subst IsBadHeight from.1 bad)
not_a_file NoHeight bad (inr is) = is
not_a_file LastHeight bad (inr is) = is
not_a_file e bad (inr is) = bad

-- An error of the disk or of a height that was asked for names no bad file.
pub not_a_height : (e : StoreError) → IsBadFile e → IsOfDisk disk_error e ⊎ IsBadHeight e → ⊥
not_a_height e bad (inl from) = (of_disk from.0).0 (subst IsBadFile from.1 bad)
not_a_height (BadMark n) bad (inr is) = is
not_a_height (BadPage n) bad (inr is) = is
not_a_height e bad (inr is) = bad
