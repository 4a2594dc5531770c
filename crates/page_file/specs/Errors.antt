-- Why a call on a page file failed.
use Rattle.std.specs.Prelude.{Result, Err}
use Rattle.disk_model.specs.declared.disk.DiskError.{DiskError}
use Rattle.disk_model.specs.declared.disk.DiskError.TheVariants as disk
use Rattle.page_file.specs.declared.error.PageError.{PageError}
use Rattle.page_file.specs.declared.error.PageError.TheVariants.{BadPage, Fault, Memory}

abbrev pub page_error : DiskError → PageError
page_error disk.Fault = Fault
page_error disk.Memory = Memory

-- neither a fault nor want of memory ended the call
abbrev pub IsAnswered : {T : Type 0} → Result T PageError → Type 0
IsAnswered (Err Fault) = ⊥
IsAnswered (Err Memory) = ⊥
IsAnswered result = Unit {0}

-- a page file is absent or bad
abbrev pub IsBadFile : PageError → Type 0
IsBadFile (BadPage n) = Unit {0}
IsBadFile e = ⊥
